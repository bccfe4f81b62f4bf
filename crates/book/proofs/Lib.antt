pub mod Passing
pub mod Steps
pub mod Pages
pub mod Broken
pub mod Published

pub mod Reached
pub mod Shown

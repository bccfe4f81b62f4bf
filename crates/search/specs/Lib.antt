pub mod Search
pub mod Gathering
pub mod Ahead

pub mod Ahead
pub mod Candidates
pub mod Gathering

pub mod Between
pub mod Each
pub mod Core
pub mod Carry
pub mod Bearing
pub mod Answer
pub mod Ways
pub mod Worked

pub mod Counts
pub mod Looking
pub mod Ready
pub mod View

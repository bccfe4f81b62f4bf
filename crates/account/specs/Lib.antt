pub mod Limits
pub mod Account
pub mod Laws
pub mod Kept

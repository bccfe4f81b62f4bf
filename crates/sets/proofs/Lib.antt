pub mod Members
pub mod Ascending
pub mod Successor
pub mod Listing
pub mod Collecting
pub mod Seeking
pub mod Chains

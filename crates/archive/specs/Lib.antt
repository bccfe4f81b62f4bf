pub mod Text
pub mod Sample
pub mod Formed
pub mod Laws
pub mod Writing

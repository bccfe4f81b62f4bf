pub mod Sets
pub mod Lists
pub mod Walks
pub mod Laws
pub mod Coming

pub mod Fronts
pub mod Known

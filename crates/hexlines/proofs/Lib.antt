pub mod Hexes
pub mod Lines

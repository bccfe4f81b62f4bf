pub mod Tables
pub mod Lawful

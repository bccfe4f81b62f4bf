pub mod Totals
pub mod Extremes
pub mod Tables
pub mod Lawful

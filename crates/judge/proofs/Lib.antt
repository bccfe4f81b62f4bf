pub mod AtOneSet
pub mod Passing
pub mod Each
pub mod Growing
pub mod Stamping
pub mod Failing

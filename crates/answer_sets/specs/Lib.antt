pub mod Rules
pub mod Published
pub mod Rounds
pub mod Theorems
pub mod Tests
pub mod Examples
pub mod Naming

pub mod Over
pub mod Pieces
pub mod Sequence
pub mod Decoding
pub mod Spelled
pub mod OneBook
pub mod Runs
pub mod Sampled

pub mod Bytes
pub mod Frames
pub mod Shapes

pub mod Reach
pub mod Carrying
pub mod Deciding
pub mod Picking

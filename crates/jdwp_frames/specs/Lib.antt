pub mod Changing
pub mod Frames
pub mod Lasting

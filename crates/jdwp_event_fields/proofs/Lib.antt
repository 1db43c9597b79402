pub mod Encoded
pub mod Parts
pub mod Said

pub mod Elements
pub mod Kept
pub mod Rising

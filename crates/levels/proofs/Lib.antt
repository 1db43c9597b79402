pub mod Rising
pub mod Moving
pub mod Limits
pub mod Putting
pub mod Adding
pub mod Removing

pub mod Pieces
pub mod Passing
pub mod Recording
pub mod Writing
pub mod ReadingBack

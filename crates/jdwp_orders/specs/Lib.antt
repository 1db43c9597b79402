pub mod Acts
pub mod Watched
pub mod Headline
pub mod Worked

pub mod Asks
pub mod Layouts
pub mod Contents
pub mod Answered

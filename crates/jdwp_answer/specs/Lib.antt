pub mod Lines
pub mod Objects
pub mod Shaped
pub mod ShapedLaws
pub mod Table
pub mod Tables
pub mod Truths

pub mod Fit
pub mod LineLaws
pub mod Truths

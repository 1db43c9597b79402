pub mod GrammarLaws
pub mod Progress
pub mod Keeps
pub mod Sizes
pub mod Entries

pub mod FitLaws
pub mod EntryLaws

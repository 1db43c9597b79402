pub mod Numbers
pub mod Telling
pub mod StreamLaws
pub mod LiveLaws
pub mod Waiting

pub mod EscapeLemmas
pub mod OneLine
pub mod SentLemmas
pub mod ShownLemmas
pub mod StreamLemmas
pub mod TextLemmas
pub mod ToldLemmas
pub mod Follows

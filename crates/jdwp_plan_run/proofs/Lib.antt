pub mod TextLaws
pub mod AskLaws
pub mod RunLaws
pub mod ExpectLaws

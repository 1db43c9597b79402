pub mod Actions
pub mod AboutLaws
pub mod RowLayouts
pub mod CommandPackets
pub mod CommandReads
pub mod AnswerPackets

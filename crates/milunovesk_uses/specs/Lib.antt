pub mod OneStep
pub mod OneStepLaws
pub mod Answering

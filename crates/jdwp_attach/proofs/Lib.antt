pub mod Counting
pub mod Ending
pub mod LastFlush
pub mod Moves
pub mod Reached
pub mod RefusedLines
pub mod Stages
pub mod Turned
mod Named
pub mod FormLaws
pub mod NumberLaws
pub mod PlanLaws

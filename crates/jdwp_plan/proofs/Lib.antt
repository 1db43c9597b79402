pub mod CommandLaws
pub mod CutLaws
pub mod ExpectingLaws
pub mod FillingLaws
pub mod NumberLaws
pub mod PlanLaws
pub mod ShownLaws

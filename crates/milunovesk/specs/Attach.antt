-- What contracts say of `attach`.
pub use Rattle.jdwp_attach.specs.PlanRuns
pub use Rattle.jdwp_attach.specs.Runs
pub use Rattle.jdwp_attach.specs.declared.attached.Attached

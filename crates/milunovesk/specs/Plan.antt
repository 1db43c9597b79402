-- What contracts say of plans.
pub use Rattle.jdwp_attach.specs.Forms
pub use Rattle.jdwp_attach.specs.Lines
pub use Rattle.jdwp_attach.specs.PlanLines
pub use Rattle.jdwp_attach.specs.Plans
pub use Rattle.jdwp_attach.specs.declared.plans.plan_fault.LineFault
pub use Rattle.jdwp_attach.specs.declared.plans.plan_fault.PlanFault
pub use Rattle.jdwp_attach.specs.declared.plans.plan_line.PlanLine

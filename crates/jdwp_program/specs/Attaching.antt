-- One session of a new debugger by a plan.
use Rattle.std.specs.Prelude.{ℕ, List}
use Rattle.jdwp_wire.specs.Limits.{Limits}
use Rattle.jdwp_debugger.specs.declared.order.Order.{Order}
use Rattle.jdwp_debugger.specs.Debuggers.{Debugger, attached, new_debugger_in}
use Rattle.jdwp_end.specs.Story.{Story}
use Rattle.jdwp_attach.specs.declared.plans.plan_line.PlanLine.{PlanLine}
use Rattle.jdwp_attach.specs.declared.attached.Attached.{Attached}
use Rattle.jdwp_attach.specs.PlanRuns.{Attaches, MayEnd, TellsRefused, ended_of}
use Rattle.jdwp_attach.specs.Runs.{Standing, InOrder, at}

-- a new debugger within these limits, of a target that sends in this order, that attached, before its first turn
abbrev pub begun : Limits → Order → ℕ → Story → Story → Standing
begun limits order turns pipe out = at pipe out (attached (new_debugger_in order limits 1)) turns

-- From how the engine stood to these stories of the pipe and of what is printed to, the debugger was run by this plan, and the session ended
-- so: it was fed what was read, in order; it was asked what the plan's lines ask, in order, up to where the run went, and the counts that
-- were due between them; what was written is what it put, or a beginning where a write failed; what was printed is what was told on the way,
-- or a beginning where memory was wanting or a write failed; the reason of this end stands; where the last flush failed, so does that of the
-- end before it; and the line that is told is that which was refused.
pub record AttachesNew (plan : List PlanLine) (start : Standing) (pipe out : Story) (how : Attached) : Type 0 where
  pub debugger : Debugger
  pub in_order : InOrder plan start pipe out debugger
  pub may_end : MayEnd plan (ended_of how) start pipe out debugger
  pub last_flush : Attaches plan start (ended_of how) pipe out debugger
  pub line : TellsRefused plan how start.debugger debugger

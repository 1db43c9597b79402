-- A session of a debugger by a plan, on a connection.
use Rattle.std.specs.Prelude.{◌≡◌, ◌||◌, ℕ, Bool, true, false, List}
use Rattle.jdwp_end.specs.Ends.{is_open}
use Rattle.jdwp_debugger.specs.Debuggers.{Debugger, attached, has_tickets}
use Rattle.jdwp_end.specs.declared.pipes.ended.Ended.TheVariants.{Refused}
use Rattle.jdwp_end.specs.Story.{Story, empty_story}
use Rattle.jdwp_attach.specs.declared.plans.plan_line.PlanLine.{PlanLine}
use Rattle.jdwp_attach.specs.declared.attached.Attached.{Attached}
use Rattle.jdwp_attach.specs.declared.attached.Attached.TheVariants.{Ended}
use Rattle.jdwp_attach.specs.PlanRuns.{Attaches, MayEnd, TellsRefused, ended_of}
use Rattle.jdwp_attach.specs.Runs.{Standing, InOrder, at}

-- how the engine stands before its first turn, with nothing read or written
abbrev pub begun : ℕ → Debugger → Story → Standing
begun turns debugger out = at empty_story out (attached debugger) turns

-- What `attach_by_lines` says of a run, over what went through a connection and what was printed: the debugger was fed what was read, in
-- order; it was asked what the plan's lines ask, in order, up to where the run went, and the counts that were due between them; what was
-- written is what it put, or a beginning where a write failed; what was printed is what was told on the way, or a beginning; the reason of
-- this end stands; where the last flush failed, so does that of the end before it; and a line of the plan is told exactly where its command
-- was refused.
pub record IsPlanRun (plan : List PlanLine) (start : Standing) (how : Attached) (new : Debugger) (pipe out : Story) : Type 0 where
  pub in_order : InOrder plan start pipe out new
  pub may_end : MayEnd plan (ended_of how) start pipe out new
  pub last_flush : Attaches plan start (ended_of how) pipe out new
  pub line : TellsRefused plan how start.debugger new

-- a debugger may not attach: its session is open, or tickets of its last one wait for `lose`
abbrev pub is_busy : Debugger → Bool
is_busy debugger = is_open debugger.end || has_tickets debugger.pending

-- The debugger was run by this plan, and the session ended so; one that may not attach is refused, with nothing touched.
pub record IsAttached (plan : List PlanLine) (turns : ℕ) (old : Debugger) (before : Story) (how : Attached) (new : Debugger) (after : Story) : Type 0 where
  pub pipe : Story
  pub run : is_busy old ≡ false → IsPlanRun plan (begun turns old before) how new pipe after
  pub refused : is_busy old ≡ true → (how ≡ Ended (Refused 0)) × (new ≡ old) × (pipe ≡ empty_story) × (after ≡ before)

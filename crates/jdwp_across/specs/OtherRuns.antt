-- A session of two programs that each had sessions with others before, each within limits of its own, and what runs them.
use Rattle.std.specs.Prelude.{◌≡◌, ℕ, true, false, List}
use Rattle.jdwp_wire.specs.Limits.{Limits}
use Rattle.jdwp_end.specs.Ends.{is_open}
use Rattle.jdwp_end.specs.Story.{Story}
use Rattle.jdwp_end.specs.declared.pipes.ended.Ended.{Ended}
use Rattle.jdwp_machine.specs.Meanings.{Meaning}
use Rattle.jdwp_debuggee.specs.Settings.{Settings}
use Rattle.jdwp_mirror.specs.KnownThreads.{is_held_in}
use Rattle.jdwp_target.specs.Targets.{Target, opened_target}
use Rattle.jdwp_debugger.specs.Debuggers.{Debugger, attached}
use Rattle.jdwp_engine.specs.Sessions.{Serves}
use Rattle.jdwp_attach.specs.declared.plans.plan_line.PlanLine.{PlanLine}
use Rattle.jdwp_attach.specs.PlanRuns.{Attaches}
use Rattle.jdwp_attach.specs.Runs.{at}
use Rattle.jdwp_across.specs.Acting.{DebuggerRuns, Move, TargetRuns}
use Rattle.jdwp_across.specs.Meeting.{StandBehind, StandsAhead, begun}
use Rattle.jdwp_across.specs.Merges.{Merged}
use Rattle.jdwp_across.specs.Others.{HasAttached, HasServed, beginning}
use Rattle.jdwp_across.specs.OwnLimits.{AreTaken, MayRelyOnWithin, MayStartWithin}
use Rattle.jdwp_across.specs.Programs.{Act, Programs}
use Rattle.jdwp_across.specs.Running.{DebuggerActs, RefusesNext, TargetActs}

-- A target that served others and a debugger that had sessions with others, each within its own limits, whose sessions are over, and a machine that
-- lives: so a session may begin at both.
pub record MayMeetWithin {S : Type 0} (m : Meaning S) (settings : Settings) (limits : Limits) (s : S) (id : ℕ) (old : Programs S) : Type 0 where
  pub start : MayStartWithin m settings limits s id
  pub served : HasServed m settings s old.target
  pub attached : HasAttached m limits id old.debugger
  pub target : is_open old.target.end ≡ false
  pub debugger : is_open old.debugger.end ≡ false
  pub alive : old.target.moment.state.alive ≡ true

-- From there on, after every list of acts of both, where the target takes each command that was asked, all holds that a debugger may rely on, within
-- limits of their own (`MayRelyOnWithin`): so a held thread is suspended.
abbrev pub HoldsWithinAfterOthers : {S : Type 0} → Meaning S → Type 0
HoldsWithinAfterOthers {S} m =
    (settings : Settings) (limits : Limits) (s : S) (id : ℕ) (old : Programs S) (acts : List Act) (programs : Programs S) →
    MayMeetWithin m settings limits s id old → AreTaken (m.sizes old.target.moment.machine) settings.limits limits acts → Merged m (begun old) acts programs →
    MayRelyOnWithin m settings limits (beginning old) acts programs

-- ---- what runs them

-- The same wherever these moves of a target in one program and of a debugger in another stand, in whatever order they came, as long as each end was
-- fed a beginning of what the other had put by then. As long as the session began at one end alone, nobody is held.
pub record HoldsWhereverTheyMeet {S : Type 0} (m : Meaning S) (settings : Settings) (limits : Limits) (old : Programs S) (target : List (Move (Target S))) (debugger : List (Move Debugger)) : Type 0 where
  pub merges : (more : List Act) (programs : Programs S) → StandBehind old target debugger more programs → Merged m (begun old) more programs
  pub relies : (more : List Act) (programs : Programs S) → StandBehind old target debugger more programs → AreTaken (m.sizes old.target.moment.machine) settings.limits limits more
      → MayRelyOnWithin m settings limits (beginning old) more programs
  pub holds_nobody : (programs : Programs S) (t : ℕ) → StandsAhead old target debugger programs → is_held_in programs.debugger.mirror.threads t ≡ false

abbrev pub HoldsOfTwoRunsAfterOthers : {S : Type 0} → Meaning S → Type 0
HoldsOfTwoRunsAfterOthers {S} m =
    (settings : Settings) (limits : Limits) (s : S) (id : ℕ) (old : Programs S) → MayMeetWithin m settings limits s id old →
    (target_moves : List (Move (Target S))) (target : Target S) → TargetRuns m (opened_target old.target) target_moves target →
    (debugger_moves : List (Move Debugger)) (debugger : Debugger) → DebuggerRuns m (attached old.debugger) debugger_moves debugger →
    HoldsWhereverTheyMeet m settings limits old target_moves debugger_moves

-- What `serve` did to the target of one program and `attach` to the debugger of another are such moves; and where all of the debugger's stand, and
-- the target takes each command, none of its turns refused what came.
pub record RunTogetherAfterOthers {S : Type 0} (m : Meaning S) (settings : Settings) (limits : Limits) (old : Programs S) (target : Target S) (serve_before serve_after : Story) (debugger : Debugger) (attach_before attach_after : Story) : Type 0 where
  pub target_acts : TargetActs m (opened_target old.target) serve_before target serve_after
  pub debugger_acts : DebuggerActs m (attached old.debugger) attach_before debugger attach_after
  pub holds : HoldsWhereverTheyMeet m settings limits old target_acts.moves debugger_acts.moves
  pub unrefused : (more : List Act) (programs : Programs S) (b : StandBehind old target_acts.moves debugger_acts.moves more programs) → AreTaken (m.sizes old.target.moment.machine) settings.limits limits more
      → b.of_debugger ≡ debugger_acts.moves → RefusesNext debugger_acts.last → ⊥

abbrev pub HoldsOfServeAndAttachAfterOthers : {S : Type 0} → Meaning S → Type 0
HoldsOfServeAndAttachAfterOthers {S} m =
    (settings : Settings) (limits : Limits) (s : S) (id : ℕ) (old : Programs S) → MayMeetWithin m settings limits s id old →
    (rounds : ℕ) (how : Ended) (target : Target S) (serve_before serve_after : Story) → Serves m rounds (opened_target old.target) serve_before how target serve_after →
    (plan : List PlanLine) (turns : ℕ) (ended : Ended) (debugger : Debugger) (attach_before attach_after out printed : Story) →
    Attaches plan (at attach_before out (attached old.debugger) turns) ended attach_after printed debugger →
    RunTogetherAfterOthers m settings limits old target serve_before serve_after debugger attach_before attach_after

-- What a debugger that `attach` runs in one program may rely on where `serve` runs the target in another, each within limits of its own.
use Rattle.std.specs.Prelude.{◌≡◌, ℕ, true, false, List, ◌∷◌, ◌++◌}
use Rattle.jdwp_wire.specs.Limits.{Limits}
use Rattle.jdwp_end.specs.Ends.{is_open}
use Rattle.jdwp_end.specs.Story.{Story}
use Rattle.jdwp_end.specs.declared.pipes.ended.Ended.{Ended}
use Rattle.jdwp_machine.specs.Meanings.{Meaning}
use Rattle.jdwp_debuggee.specs.Settings.{Settings}
use Rattle.jdwp_mirror.specs.KnownThreads.{is_held_in}
use Rattle.jdwp_target.specs.Targets.{Target, opened_target}
use Rattle.jdwp_debugger.specs.Debuggers.{Debugger, attached}
use Rattle.jdwp_model.specs.World.{opening}
use Rattle.jdwp_engine.specs.Sessions.{Serves}
use Rattle.jdwp_attach.specs.declared.plans.plan_line.PlanLine.{PlanLine}
use Rattle.jdwp_attach.specs.PlanRuns.{Attaches}
use Rattle.jdwp_attach.specs.Runs.{at}
use Rattle.jdwp_across.specs.Merges.{Merged}
use Rattle.jdwp_across.specs.Programs.{Act, Connects, Programs}
use Rattle.jdwp_across.specs.Acting.{DebuggerRuns, Move, TargetRuns}
use Rattle.jdwp_across.specs.Running.{DebuggerActs, RefusesNext, TargetActs}
use Rattle.jdwp_across.specs.Meeting.{StandBehind, StandsAhead}
use Rattle.jdwp_across.specs.OwnLimits.{AreTaken, MayRelyOnWithin, MayStartWithin, programs_within}

-- These two programs stand where acts led that were merged so far, or before the first one; and a session may begin at both.
pub record MayConnectWithin {S : Type 0} (m : Meaning S) (settings : Settings) (limits : Limits) (s : S) (id : ℕ) (acts : List Act) (programs : Programs S) : Type 0 where
  pub start : MayStartWithin m settings limits s id
  pub merged : Merged m (programs_within m settings limits s id) acts programs
  pub target : is_open programs.target.end ≡ false
  pub debugger : is_open programs.debugger.end ≡ false
  pub alive : programs.target.moment.state.alive ≡ true

-- Wherever these moves of a target in one program and of a debugger in another stand, in whatever order they came, as long as each end was fed a
-- beginning of what the other had put by then, all holds that a debugger may rely on, where the target takes each
-- command that was asked so far. As long as the session began at one end alone, nobody is held.
pub record HoldsWhereverWithin {S : Type 0} (m : Meaning S) (settings : Settings) (limits : Limits) (s : S) (id : ℕ) (acts : List Act) (old : Programs S) (target : List (Move (Target S))) (debugger : List (Move Debugger)) : Type 0 where
  pub merges : (more : List Act) (programs : Programs S) → StandBehind old target debugger more programs → Merged m (programs_within m settings limits s id) (acts ++ Connects ∷ more) programs
  pub relies : (more : List Act) (programs : Programs S) → StandBehind old target debugger more programs → AreTaken (m.sizes s) settings.limits limits (acts ++ Connects ∷ more)
      → MayRelyOnWithin m settings limits (opening m s) (acts ++ Connects ∷ more) programs
  pub holds_nobody : (programs : Programs S) (t : ℕ) → StandsAhead old target debugger programs → is_held_in programs.debugger.mirror.threads t ≡ false

-- So it is of each session of both, whatever loops over their calls run them.
abbrev pub HoldsOfTwoRunsWithin : {S : Type 0} → Meaning S → Type 0
HoldsOfTwoRunsWithin {S} m =
    (settings : Settings) (limits : Limits) (s : S) (id : ℕ) (acts : List Act) (old : Programs S) → MayConnectWithin m settings limits s id acts old →
    (target_moves : List (Move (Target S))) (target : Target S) → TargetRuns m (opened_target old.target) target_moves target →
    (debugger_moves : List (Move Debugger)) (debugger : Debugger) → DebuggerRuns m (attached old.debugger) debugger_moves debugger →
    HoldsWhereverWithin m settings limits s id acts old target_moves debugger_moves

-- What `serve` did to the target of one program and `attach` to the debugger of another are such moves; and where all of the debugger's stand, and
-- the target takes each command, none of its turns refused what came.
pub record RunTogetherWithin {S : Type 0} (m : Meaning S) (settings : Settings) (limits : Limits) (s : S) (id : ℕ) (acts : List Act) (old : Programs S) (target : Target S) (serve_before serve_after : Story) (debugger : Debugger) (attach_before attach_after : Story) : Type 0 where
  pub target_acts : TargetActs m (opened_target old.target) serve_before target serve_after
  pub debugger_acts : DebuggerActs m (attached old.debugger) attach_before debugger attach_after
  pub holds : HoldsWhereverWithin m settings limits s id acts old target_acts.moves debugger_acts.moves
  pub unrefused : (more : List Act) (programs : Programs S) (b : StandBehind old target_acts.moves debugger_acts.moves more programs) → AreTaken (m.sizes s) settings.limits limits (acts ++ Connects ∷ more)
      → b.of_debugger ≡ debugger_acts.moves → RefusesNext debugger_acts.last → ⊥

abbrev pub HoldsOfServeAndAttachWithin : {S : Type 0} → Meaning S → Type 0
HoldsOfServeAndAttachWithin {S} m =
    (settings : Settings) (limits : Limits) (s : S) (id : ℕ) (acts : List Act) (old : Programs S) → MayConnectWithin m settings limits s id acts old →
    (rounds : ℕ) (how : Ended) (target : Target S) (serve_before serve_after : Story) → Serves m rounds (opened_target old.target) serve_before how target serve_after →
    (plan : List PlanLine) (turns : ℕ) (ended : Ended) (debugger : Debugger) (attach_before attach_after out printed : Story) →
    Attaches plan (at attach_before out (attached old.debugger) turns) ended attach_after printed debugger →
    RunTogetherWithin m settings limits s id acts old target serve_before serve_after debugger attach_before attach_after

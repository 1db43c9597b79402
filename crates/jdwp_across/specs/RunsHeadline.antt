-- What a debugger that `attach` runs in one program may rely on where `serve` runs the target in another.
use Rattle.std.specs.Prelude.{◌≡◌, ◌<◌, ℕ, true, false, List, ◌∷◌, ◌++◌}
use Rattle.jdwp_end.specs.Ends.{is_open}
use Rattle.jdwp_machine.specs.Meanings.{Meaning}
use Rattle.jdwp_debuggee.specs.Settings.{Settings}
use Rattle.jdwp_debuggee.specs.State.{count_or_zero}
use Rattle.jdwp_mirror.specs.KnownThreads.{is_held_in}
use Rattle.jdwp_target.specs.Targets.{Target, opened_target}
use Rattle.jdwp_debugger.specs.Debuggers.{Debugger, attached, unanswered}
use Rattle.jdwp_model.specs.Seen.{lowers}
use Rattle.jdwp_model.specs.World.{opening}
use Rattle.jdwp_link.specs.Clauses.{has_dispose, unanswered_by}
use Rattle.jdwp_end.specs.declared.pipes.ended.Ended.{Ended}
use Rattle.jdwp_end.specs.Story.{Story}
use Rattle.jdwp_engine.specs.Sessions.{Serves}
use Rattle.jdwp_attach.specs.declared.plans.plan_line.PlanLine.{PlanLine}
use Rattle.jdwp_attach.specs.PlanRuns.{Attaches}
use Rattle.jdwp_attach.specs.Runs.{at}
use Rattle.jdwp_across.specs.Headline.{MayRelyOn, MayStart}
use Rattle.jdwp_across.specs.Merges.{Merged}
use Rattle.jdwp_across.specs.Programs.{Act, Connects, Programs, new_programs}
use Rattle.jdwp_across.specs.Acting.{DebuggerRuns, Move, TargetRuns}
use Rattle.jdwp_across.specs.Running.{DebuggerActs, RefusesNext, TargetActs}
use Rattle.jdwp_across.specs.Meeting.{StandBehind, StandsAhead}

-- ---- each engine by itself

-- What `serve` does to its target, from its session's begin on, are acts of a target.
abbrev pub ServesByActs : {S : Type 0} → Meaning S → Type 0
ServesByActs {S} m =
    (rounds : ℕ) (first : Target S) (before : Story) (how : Ended) (last : Target S) (after : Story) →
    Serves m rounds first before how last after → TargetActs m first before last after

-- What `attach` does to its debugger, from its session's begin on, are acts of a debugger.
abbrev pub AttachesByActs : {S : Type 0} → Meaning S → Type 0
AttachesByActs m =
    (plan : List PlanLine) (old : Debugger) (turns : ℕ) (before out : Story) (how : Ended) (after printed : Story) (d : Debugger) →
    Attaches plan (at before out (attached old) turns) how after printed d → DebuggerActs m (attached old) before d after

-- ---- both

-- These two programs stand where acts led that were merged so far, or before the first one; and a session may begin at both: `serve` and `attach`
-- take up ends that are closed, and a machine that lives.
pub record MayConnect {S : Type 0} (m : Meaning S) (settings : Settings) (s : S) (id : ℕ) (acts : List Act) (programs : Programs S) : Type 0 where
  pub start : MayStart m settings s id
  pub merged : Merged m (new_programs m settings s id) acts programs
  pub target : is_open programs.target.end ≡ false
  pub debugger : is_open programs.debugger.end ≡ false
  pub alive : programs.target.moment.state.alive ≡ true

-- A thread that the debugger's mirror holds is suspended in the target now: where the machine lives, the target noticed no loss in this session, and
-- neither a Dispose nor a Resume of the thread or of all is unanswered.
abbrev pub IsSuspendedIfHeld : {S : Type 0} → Programs S → ℕ → Type 0
IsSuspendedIfHeld programs t =
    is_held_in programs.debugger.mirror.threads t ≡ true → programs.target.moment.state.alive ≡ true → programs.target.end.session.lost ≡ false →
    has_dispose (unanswered programs.debugger.pending) ≡ false → unanswered_by lowers (unanswered programs.debugger.pending) t ≡ 0 →
    0 < count_or_zero programs.target.moment.state t

-- Wherever these moves of a target in one program and of a debugger in another stand, in whatever order they came, as long as each end was fed a
-- beginning of what the other had put by then, all holds that a debugger may rely on; and so a held thread is suspended. As long as the session
-- began at one end alone, nobody is held. A merge of acts leads there, so another session may begin there once both ends are closed.
pub record HoldsWherever {S : Type 0} (m : Meaning S) (settings : Settings) (s : S) (id : ℕ) (acts : List Act) (old : Programs S) (target : List (Move (Target S))) (debugger : List (Move Debugger)) : Type 0 where
  pub merges : (more : List Act) (programs : Programs S) → StandBehind old target debugger more programs → Merged m (new_programs m settings s id) (acts ++ Connects ∷ more) programs
  pub relies : (more : List Act) (programs : Programs S) → StandBehind old target debugger more programs → MayRelyOn m settings (opening m s) (acts ++ Connects ∷ more) programs
  pub suspends : (more : List Act) (programs : Programs S) (t : ℕ) → StandBehind old target debugger more programs → IsSuspendedIfHeld programs t
  pub holds_nobody : (programs : Programs S) (t : ℕ) → StandsAhead old target debugger programs → is_held_in programs.debugger.mirror.threads t ≡ false

-- So it is of each session of both, whatever loops over their calls run them.
abbrev pub HoldsOfTwoRuns : {S : Type 0} → Meaning S → Type 0
HoldsOfTwoRuns {S} m =
    (settings : Settings) (s : S) (id : ℕ) (acts : List Act) (old : Programs S) → MayConnect m settings s id acts old →
    (target_moves : List (Move (Target S))) (target : Target S) → TargetRuns m (opened_target old.target) target_moves target →
    (debugger_moves : List (Move Debugger)) (debugger : Debugger) → DebuggerRuns m (attached old.debugger) debugger_moves debugger →
    HoldsWherever m settings s id acts old target_moves debugger_moves

-- What `serve` did to the target of one program and `attach` to the debugger of another, in a session of both, are acts of a target and of a
-- debugger, and of these it holds; and where all acts of the debugger stand, none of its turns refused what came.
pub record RunTogether {S : Type 0} (m : Meaning S) (settings : Settings) (s : S) (id : ℕ) (acts : List Act) (old : Programs S) (target : Target S) (serve_before serve_after : Story) (debugger : Debugger) (attach_before attach_after : Story) : Type 0 where
  pub target_acts : TargetActs m (opened_target old.target) serve_before target serve_after
  pub debugger_acts : DebuggerActs m (attached old.debugger) attach_before debugger attach_after
  pub holds : HoldsWherever m settings s id acts old target_acts.moves debugger_acts.moves
  pub unrefused : (more : List Act) (programs : Programs S) (b : StandBehind old target_acts.moves debugger_acts.moves more programs) → b.of_debugger ≡ debugger_acts.moves → RefusesNext debugger_acts.last → ⊥

abbrev pub HoldsOfServeAndAttach : {S : Type 0} → Meaning S → Type 0
HoldsOfServeAndAttach {S} m =
    (settings : Settings) (s : S) (id : ℕ) (acts : List Act) (old : Programs S) → MayConnect m settings s id acts old →
    (rounds : ℕ) (how : Ended) (target : Target S) (serve_before serve_after : Story) → Serves m rounds (opened_target old.target) serve_before how target serve_after →
    (plan : List PlanLine) (turns : ℕ) (ended : Ended) (debugger : Debugger) (attach_before attach_after out printed : Story) →
    Attaches plan (at attach_before out (attached old.debugger) turns) ended attach_after printed debugger →
    RunTogether m settings s id acts old target serve_before serve_after debugger attach_before attach_after

-- A session of two programs that each had sessions with others before.
use Rattle.std.specs.Prelude.{◌≡◌, ℕ, Bool, false, true, List, [], Result}
use Rattle.jdwp_wire.specs.Limits.{Limits}
use Rattle.jdwp_end.specs.Ends.{front_of, is_open}
use Rattle.jdwp_end.specs.declared.phase.Phase.TheVariants.{Closed}
use Rattle.jdwp_machine.specs.Meanings.{Meaning}
use Rattle.jdwp_debuggee.specs.Settings.{Settings}
use Rattle.jdwp_debuggee.specs.State.{Moment, new_state}
use Rattle.jdwp_target.specs.Targets as targets
use Rattle.jdwp_target.specs.Targets.{Target, new_target}
use Rattle.jdwp_target.specs.Turns as turns
use Rattle.jdwp_target.specs.declared.target.TargetFault.{TargetFault}
use Rattle.jdwp_target.specs.declared.target.Turn.{Turn}
use Rattle.jdwp_debugger.specs.Debuggers as debuggers
use Rattle.jdwp_debugger.specs.Debuggers.{Debugger, new_debugger}
use Rattle.jdwp_debugger.specs.DebuggerTurns as reads
use Rattle.jdwp_debugger.specs.declared.faults.DebuggerFault.{DebuggerFault}
use Rattle.jdwp_debugger.specs.declared.turning.Read.{Read}
use Rattle.jdwp_model.specs.Next as next
use Rattle.jdwp_model.specs.World.{World}
use Rattle.jdwp_across.specs.Headline.{MayRelyOn, MayStart}
use Rattle.jdwp_across.specs.Merges.{Merged}
use Rattle.jdwp_across.specs.Programs.{Act, Programs, new_programs}
use Rattle.jdwp_across.specs.Acting.{DebuggerDoes, TargetDoes}
use Rattle.jdwp_across.specs.Meeting.{begun}
use Rattle.jdwp_across.specs.RunsHeadline.{IsSuspendedIfHeld}

-- ---- what each did before

-- A target may be so that was new over a machine in this state: by any list of acts of its own, of turns whatever they answered, and of sessions
-- that began at it, with whomever. So whatever bytes came to it.
pub data HasServed {S : Type 0} (m : Meaning S) (settings : Settings) (s : S) : Target S → Type 0 where
  NewTarget : HasServed m settings s (new_target settings (record { state = new_state (m.live s); machine = s }))
  Accepts : (old : Target S) → HasServed m settings s old → is_open old.end ≡ false → old.moment.state.alive ≡ true → HasServed m settings s (targets.opened_target old)
  TargetTurned : (result : Result Turn TargetFault) (old new : Target S) → HasServed m settings s old → turns.TurnsAt m (front_of old.end) old result new → HasServed m settings s new
  TargetActed : (act : Act) (old new : Target S) → HasServed m settings s old → TargetDoes m act old new → HasServed m settings s new

-- The same of a debugger, whose first packet had this id, and of sessions with whatever targets: what its acts are says nothing of a machine.
pub data HasAttached {S : Type 0} (m : Meaning S) (limits : Limits) (id : ℕ) : Debugger → Type 0 where
  NewDebugger : HasAttached m limits id (new_debugger limits id)
  Attaches : (old : Debugger) → HasAttached m limits id old → is_open old.end ≡ false → HasAttached m limits id (debuggers.attached old)
  DebuggerTurned : (result : Result Read DebuggerFault) (old new : Debugger) → HasAttached m limits id old → reads.TurnsAt (front_of old.end) old result new → HasAttached m limits id new
  DebuggerActed : (act : Act) (old new : Debugger) → HasAttached m limits id old → DebuggerDoes m act old new → HasAttached m limits id new

-- So is each end of a merge, whatever the other is.
abbrev pub MergesAreSessions : {S : Type 0} → Meaning S → Type 0
MergesAreSessions {S} m =
    (settings : Settings) (s : S) (id : ℕ) (acts : List Act) (programs : Programs S) → Merged m (new_programs m settings s id) acts programs →
    HasServed m settings s programs.target × HasAttached m settings.limits id programs.debugger

-- Such a target and such a debugger, with the same limits, whose sessions are over, and a machine that lives: so a session may begin at both.
pub record MayMeet {S : Type 0} (m : Meaning S) (settings : Settings) (s : S) (id : ℕ) (old : Programs S) : Type 0 where
  pub start : MayStart m settings s id
  pub served : HasServed m settings s old.target
  pub attached : HasAttached m settings.limits id old.debugger
  pub target : is_open old.target.end ≡ false
  pub debugger : is_open old.debugger.end ≡ false
  pub alive : old.target.moment.state.alive ≡ true

-- ---- where their session begins

-- A link at rest: both ends are closed, and nothing is under way, deferred or unanswered. So is `opening`, of a new debuggee and no tickets.
abbrev pub resting : {S : Type 0} → Moment S → Bool → ℕ → World S
resting now deferring asked = record {
  now = now;
  target = Closed;
  lost = false;
  to_target = [];
  to_debugger = [];
  at_target = 0;
  at_debugger = 0;
  deferred = [];
  deferring = deferring;
  debugger = Closed;
  ready = false;
  parked = [];
  read = [];
  asked = asked;
  pending = [];
}

-- A session begins at both. Of what was before it has the debuggee, whether the target defers, and how many tickets were given.
abbrev pub beginning : {S : Type 0} → Programs S → World S
beginning old = next.attached (resting old.target.moment old.target.deferring old.debugger.tickets)

-- ---- what holds

-- From there on, after every list of acts of both between which bytes come in order, all holds that a debugger may rely on, whatever sessions each
-- had before and with whom; their next sessions with one another are among those acts.
abbrev pub HoldsAfterOtherSessions : {S : Type 0} → Meaning S → Type 0
HoldsAfterOtherSessions {S} m =
    (settings : Settings) (s : S) (id : ℕ) (old : Programs S) (acts : List Act) (programs : Programs S) →
    MayMeet m settings s id old → Merged m (begun old) acts programs → MayRelyOn m settings (beginning old) acts programs

-- So a thread that the debugger holds is suspended in the target now, under the same conditions.
abbrev pub SuspendsAfterOtherSessions : {S : Type 0} → Meaning S → Type 0
SuspendsAfterOtherSessions {S} m =
    (settings : Settings) (s : S) (id : ℕ) (old : Programs S) (acts : List Act) (programs : Programs S) (t : ℕ) →
    MayMeet m settings s id old → Merged m (begun old) acts programs → IsSuspendedIfHeld programs t

-- A link as contracts see it: a target, a debugger, and the bytes between them (JDWP specification, "JDWP overview": both ends of one
-- connection), and what each event does to it where no message is handled.
use Rattle.std.specs.Prelude.{ℕ, Bool, false, ◌++◌, ◌&&◌, not, List, [], length, take, drop, min, if◌then◌else◌}
use Rattle.jdwp_end.specs.Ends.{is_open, room_of}
use Rattle.jdwp_debuggee.specs.Settings.{Settings}
use Rattle.jdwp_debuggee.specs.State.{Moment}
use Rattle.jdwp_target.specs.Targets.{Target, new_target}
use Rattle.jdwp_target.specs.Targets as targets
use Rattle.jdwp_debugger.specs.Debuggers.{Debugger, new_debugger}
use Rattle.jdwp_debugger.specs.Debuggers as debuggers

-- Both ends; what an end had put that lost the connection, and that did not come to the other; and whether the last event was a turn, a
-- release or a step that did something.
pub record Link (S : Type 0) : Type 0 where
  pub target : Target S
  pub debugger : Debugger
  pub to_target : List ℕ
  pub to_debugger : List ℕ
  pub did : Bool

-- before the first session
abbrev pub new_link : {S : Type 0} → Settings → Moment S → Link S
new_link settings now =
    record { target = new_target settings now; debugger = new_debugger settings.limits 1; to_target = []; to_debugger = []; did = false }

-- an event that is no turn, release or step
abbrev pub idle : {S : Type 0} → Link S → Link S
idle l = record l { did = false }

-- ---- bytes under way, in order

abbrev pub way_to_target : {S : Type 0} → Link S → List ℕ
way_to_target l = l.to_target ++ l.debugger.end.outgoing

abbrev pub way_to_debugger : {S : Type 0} → Link S → List ℕ
way_to_debugger l = l.to_debugger ++ l.target.end.outgoing

-- ---- a new session

-- both ends begin it, and nothing else is under way
abbrev pub attached : {S : Type 0} → Link S → Link S
attached l = record { target = targets.opened_target l.target; debugger = debuggers.attached l.debugger; to_target = []; to_debugger = []; did = false }

-- both ends are closed, and the machine lives
abbrev pub may_attach : {S : Type 0} → Link S → Bool
may_attach l = not (is_open l.target.end) && (not (is_open l.debugger.end) && l.target.moment.state.alive)

abbrev pub attaches : {S : Type 0} → Link S → Link S
attaches l = if may_attach l then attached l else idle l

-- ---- bytes come

-- the first bytes under way to the target, at most so many, and as many as it has room for
abbrev pub come_to_target : {S : Type 0} → ℕ → Link S → List ℕ
come_to_target n l = take (min n (min (length (way_to_target l)) (room_of l.target.end))) (way_to_target l)

-- these bytes come: first what a debugger that lost the connection had put
abbrev pub delivered_to_target : {S : Type 0} → List ℕ → Link S → Link S
delivered_to_target bytes l = record l {
  target = targets.with_fed bytes l.target;
  to_target = drop (length bytes) l.to_target;
  debugger = debuggers.with_taken (drop (length l.to_target) bytes) l.debugger;
  did = false;
}

-- the same the other way
abbrev pub come_to_debugger : {S : Type 0} → ℕ → Link S → List ℕ
come_to_debugger n l = take (min n (min (length (way_to_debugger l)) (room_of l.debugger.end))) (way_to_debugger l)

abbrev pub delivered_to_debugger : {S : Type 0} → List ℕ → Link S → Link S
delivered_to_debugger bytes l = record l {
  debugger = debuggers.with_fed bytes l.debugger;
  to_debugger = drop (length bytes) l.to_debugger;
  target = targets.with_taken (drop (length l.to_debugger) bytes) l.target;
  did = false;
}

-- ---- what a way carries of it

-- what comes behind what an end had put that lost the connection
abbrev pub carried_to_target : {S : Type 0} → ℕ → Link S → List ℕ
carried_to_target n l = drop (length l.to_target) (come_to_target n l)

abbrev pub carried_to_debugger : {S : Type 0} → ℕ → Link S → List ℕ
carried_to_debugger n l = drop (length l.to_debugger) (come_to_debugger n l)

-- ---- an end notices that the connection is lost

-- what it had put stays under way
abbrev pub target_kept : {S : Type 0} → Link S → Link S
target_kept l = record l { target = targets.with_taken l.target.end.outgoing l.target; to_debugger = way_to_debugger l }

abbrev pub target_lost : {S : Type 0} → Link S → Link S
target_lost l = record (target_kept l) { target = targets.lost_target (target_kept l).target; did = false }

abbrev pub debugger_kept : {S : Type 0} → Link S → Link S
debugger_kept l = record l { debugger = debuggers.with_taken l.debugger.end.outgoing l.debugger; to_target = way_to_target l }

abbrev pub debugger_lost : {S : Type 0} → Link S → Link S
debugger_lost l = record (debugger_kept l) { debugger = debuggers.lost_debugger (debugger_kept l).debugger }

-- a target that had a session before, and a new debugger
use Rattle.std.proofs.Common.{◌≡◌, List, [], ◌∷◌, ◌++◌, drop, length, refl}
use Rattle.jdwp_wire.specs.Handshake.{handshake_bytes}
use Rattle.jdwp_wire.specs.Streams.{Handshake, stream}
use Rattle.jdwp_target.specs.Targets as targets
use Rattle.jdwp_target.specs.declared.target.Turn.TheVariants as turning
use Rattle.jdwp_debugger.specs.Debuggers as debuggers
use Rattle.jdwp_debugger.specs.Debuggers.{new_debugger}
use Rattle.jdwp_debugger.specs.DebuggerTurns as turns
use Rattle.jdwp_debugger.specs.declared.turning.Read.TheVariants as reading
use Rattle.jdwp_model.specs.Headline.{MayBegin}
use Rattle.jdwp_model.specs.WorkedMachine.{Small, settings, small, small_opening}
use Rattle.jdwp_across.specs.Meeting.{begun}
use Rattle.jdwp_across.specs.Merges.{Merged, More, Start}
use Rattle.jdwp_across.specs.Others.{MayMeet, NewDebugger}
use Rattle.jdwp_across.specs.Programs.{Act, ComesToDebugger, ComesToTarget, DebuggerTurns, Does, LeavesDebugger, LeavesTarget, Programs, TargetTurns}
use Rattle.jdwp_across.specs.WorkedOthers.{MeetsAsWorked, greets_anew}
use Rattle.jdwp_across.proofs.Sessions.{merges-are-sessions}
use Rattle.jdwp_across.proofs.WorkedMerges.{at30, merged30, starts}

-- the target behind the loss, and a new debugger
abbrev other : Programs Small
other = record at30 { debugger = new_debugger settings.limits 1 }

then : (acts : List Act) (act : Act) (old new : Programs Small) → Merged small (begun other) acts old → Does small act old new
    → new.debugger.end.session.enqueued ≡ new.target.end.session.fed ++ drop (length new.target.end.session.fed) new.debugger.end.session.enqueued
    → new.target.end.session.enqueued ≡ new.debugger.end.session.fed ++ drop (length new.debugger.end.session.fed) new.target.end.session.enqueued
    → Merged small (begun other) (acts ++ act ∷ []) new
then acts act old new merged does a b = More acts act old new merged does (record { to_target = (_, a); to_debugger = (_, b) })

abbrev at0 : Programs Small
at0 = begun other

abbrev at1 : Programs Small
at1 = record at0 { debugger = debuggers.with_taken handshake_bytes at0.debugger }

abbrev at2 : Programs Small
at2 = record at1 { target = targets.with_fed handshake_bytes at1.target }

abbrev at3 : Programs Small
at3 = record at2 { target = targets.with_handled small Handshake 14 at2.target }

abbrev at4 : Programs Small
at4 = record at3 { target = targets.with_taken (stream (Handshake ∷ [])) at3.target }

abbrev at5 : Programs Small
at5 = record at4 { debugger = debuggers.with_fed (stream (Handshake ∷ [])) at4.debugger }

abbrev at6 : Programs Small
at6 = record at5 { debugger = turns.greeted 14 at5.debugger }

merged6 : Merged small (begun other) greets_anew at6
merged6 =
    let m1 = then [] (LeavesDebugger handshake_bytes) at0 at1 Start refl refl refl in
    let m2 = then (LeavesDebugger handshake_bytes ∷ []) (ComesToTarget handshake_bytes) at1 at2 m1 refl refl refl in
    let m3 = then (LeavesDebugger handshake_bytes ∷ ComesToTarget handshake_bytes ∷ []) (TargetTurns turning.Hello) at2 at3 m2 ((refl, refl), tt, (tt, tt), refl) refl refl in
    let acts3 = LeavesDebugger handshake_bytes ∷ ComesToTarget handshake_bytes ∷ TargetTurns turning.Hello ∷ [] in
    let m4 = then acts3 (LeavesTarget (stream (Handshake ∷ []))) at3 at4 m3 refl refl refl in
    let m5 = then (acts3 ++ LeavesTarget (stream (Handshake ∷ [])) ∷ []) (ComesToDebugger (stream (Handshake ∷ []))) at4 at5 m4 refl refl refl in
    then (acts3 ++ LeavesTarget (stream (Handshake ∷ [])) ∷ ComesToDebugger (stream (Handshake ∷ [])) ∷ []) (DebuggerTurns reading.Hello []) at5 at6 m5 (at6.debugger, (refl, refl, refl), refl, refl) refl refl

pub meets-as-worked : MayBegin small settings small_opening → MeetsAsWorked
meets-as-worked begins sizes h =
    let merged = merged30 sizes h in
    let may : MayMeet small settings small_opening 1 other = record {
      start = starts begins;
      served = (merges-are-sessions small settings small_opening 1 _ at30 merged).0;
      attached = NewDebugger;
      target = refl;
      debugger = refl;
      alive = refl;
    } in
    (at30, merged, (may, (at6, merged6, refl, refl), refl))

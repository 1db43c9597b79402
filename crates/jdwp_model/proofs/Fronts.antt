-- what an end handles stands in front of what was sent to it, and the end is open; what is released was deferred in a session
use Rattle.std.proofs.Common.{◌≡◌, ℕ, true, false, ◌&&◌, not, Option, Some, None, List, [], ◌∷◌, refl}
use Rattle.std.specs.Prelude.{nat_lt}
use Rattle.std.proofs.lemmas.Bool.{cond_both}
use Rattle.jdwp_end.specs.declared.phase.Phase.{Phase}
use Rattle.jdwp_end.specs.declared.phase.Phase.TheVariants.{Closed, AwaitingHandshake, Established}
use Rattle.jdwp_end.specs.Ends.{is_established_phase}
use Rattle.jdwp_debuggee.specs.Settings.{Settings}
use Rattle.jdwp_debuggee.specs.Deferring.{released_at}
use Rattle.jdwp_action.specs.Actions.{Command}
use Rattle.jdwp_mirror.specs.Messages.{Ticket, Call}
use Rattle.jdwp_model.specs.World.{Measure, is_closed, Packet, World, way_to_target, way_to_debugger}
use Rattle.jdwp_model.specs.Next.{whole_call, whole_packet, target_front, release_front, debugger_front}
use Rattle.jdwp_model.proofs.Session.{not-true, and-left}

by-call : (measure : Measure) (at : ℕ) (calls : List Call) (Q : Option (Call × List Call) → Type 0) → Q None → ((call : Call) (rest : List Call) → calls ≡ call ∷ rest → Q (Some (call, rest))) → Q (whole_call measure at calls)
by-call measure at [] Q none some = none
by-call measure at (call ∷ rest) Q none some = cond_both (nat_lt at (measure.call call)) None (Some (call, rest)) Q (λ _. none) (λ _. some call rest refl)

-- a target handles nothing, or the call in front
pub by_target_front : {S : Type 0} (settings : Settings) (measure : Measure) (w : World S) (Q : Option (Call × List Call) → Type 0) → Q None → ((call : Call) (rest : List Call) → is_closed w.target ≡ false → w.to_target ≡ call ∷ rest → Q (Some (call, rest))) → Q (target_front settings measure w)
by_target_front settings measure w Q none some =
    cond_both (not (is_closed w.target) && nat_lt (way_to_debugger measure w) settings.limits.packet) (whole_call measure w.at_target w.to_target) None Q
    (λ h. by-call measure w.at_target w.to_target Q none (λ call rest e. some call rest (not-true _ (and-left _ _ h)) e)) (λ _. none)

by-packet : {S : Type 0} (measure : Measure) (at : ℕ) (packets : List (Packet S)) (Q : Option (Packet S × List (Packet S)) → Type 0) → Q None → ((p : Packet S) (rest : List (Packet S)) → packets ≡ p ∷ rest → Q (Some (p, rest))) → Q (whole_packet measure at packets)
by-packet measure at [] Q none some = none
by-packet measure at (p ∷ rest) Q none some = cond_both (nat_lt at (measure.message p.0)) None (Some (p, rest)) Q (λ _. none) (λ _. some p rest refl)

-- a debugger handles nothing, or the packet in front
pub by_debugger_front : {S : Type 0} (settings : Settings) (measure : Measure) (w : World S) (Q : Option (Packet S × List (Packet S)) → Type 0) → Q None → ((p : Packet S) (rest : List (Packet S)) → is_closed w.debugger ≡ false → w.to_debugger ≡ p ∷ rest → Q (Some (p, rest))) → Q (debugger_front settings measure w)
by_debugger_front settings measure w Q none some =
    cond_both (not (is_closed w.debugger) && nat_lt (way_to_target measure w) settings.limits.packet) (whole_packet measure w.at_debugger w.to_debugger) None Q
    (λ h. by-packet measure w.at_debugger w.to_debugger Q none (λ p rest e. some p rest (not-true _ (and-left _ _ h)) e)) (λ _. none)

established-is : (p : Phase) → is_established_phase p ≡ true → p ≡ Established
established-is Closed h = absurd (cc)
established-is AwaitingHandshake h = absurd (cc)
established-is Established h = refl

by-some : (o : Option ((Ticket × Command) × List (Ticket × Command))) (Q : Option ((Ticket × Command) × List (Ticket × Command)) → Type 0) → Q None → ((k : Ticket) (c : Command) (rest : List (Ticket × Command)) → o ≡ Some ((k, c), rest) → Q (Some ((k, c), rest))) → Q o
by-some None Q none some = none
by-some (Some ((k, c), rest)) Q none some = some k c rest refl

-- a release answers nothing, or a command that was deferred
pub by_release_front : {S : Type 0} (settings : Settings) (measure : Measure) (w : World S) (place : ℕ) (Q : Option ((Ticket × Command) × List (Ticket × Command)) → Type 0) → Q None → ((k : Ticket) (c : Command) (rest : List (Ticket × Command)) → w.target ≡ Established → released_at place w.deferred ≡ Some ((k, c), rest) → Q (Some ((k, c), rest))) → Q (release_front settings measure w place)
by_release_front settings measure w place Q none some =
    cond_both (is_established_phase w.target && nat_lt (way_to_debugger measure w) settings.limits.packet) (released_at place w.deferred) None Q
    (λ h. by-some (released_at place w.deferred) Q none (λ k c rest e. some k c rest (established-is w.target (and-left _ _ h)) e)) (λ _. none)

-- What messages and steps leave of a target, one after the other.
use Rattle.std.proofs.Common.{◌≡◌, ◌∙◌, ℕ, ◌++◌, ◌||◌, ◌&&◌, not, Option, Some, None, List, [], ◌∷◌, Bool, true, false, ◌⊎◌, inl, inr, sym, ap, refl, subst, append_assoc, arith}
use Rattle.jdwp_wire.specs.Bytes.{IsBytes}
use Rattle.jdwp_wire.specs.Streams.{Message, Handshake, Packet, Whole, stream}
use Rattle.jdwp_wire.specs.declared.packet.PacketKind.TheVariants as kind
use Rattle.jdwp_end.specs.declared.phase.Phase.{Phase}
use Rattle.jdwp_end.specs.declared.phase.Phase.TheVariants.{Closed, AwaitingHandshake, Established}
use Rattle.jdwp_end.specs.Ends.{End, front_of, is_open, is_open_phase}
use Rattle.jdwp_end.specs.Ends as ends
use Rattle.jdwp_end.specs.Runs.{Carries}
use Rattle.jdwp_end.specs.CarryingLaws.{carries-closed, carries-enqueued, carries-handled}
use Rattle.jdwp_event.specs.Composites.{CompositeMeaning}
use Rattle.jdwp_machine.specs.Meanings.{Meaning}
use Rattle.jdwp_debuggee.specs.Steps.{may_step}
use Rattle.jdwp_target.specs.declared.target.Stepped.{Stepped}
use Rattle.jdwp_target.specs.declared.target.Stepped.TheVariants.{Frozen}
use Rattle.jdwp_debuggee.specs.Deferring.{is_deferrable, released_at}
use Rattle.jdwp_target.specs.Standings.{Handles, Steps, handled}
use Rattle.jdwp_target.specs.Deeds.{DefersFew, Does, MayBeDeferred, Releases, acts_in, defers, handles_where, perform, releases_by}
use Rattle.jdwp_target.specs.Closings.{Closes, ClosesForReason, IsDispose}
use Rattle.jdwp_target.specs.ReleaseLaws.{deferred-ones}
use Rattle.jdwp_target.specs.Targets.{Target, Ran, full_standing, in_phase, standing, with_handled, with_release, with_step}
use Rattle.jdwp_target.specs.Turns.{StepsWhere, told_by_end, told_of_sends}
use Rattle.jdwp_engine.specs.Outcome.{EndsInDispose, MayStep}
use Rattle.jdwp_engine.specs.Steps.{Advances, StepsIf, StepsOn}

-- ---- a message

-- why a session is closed that was not lost
abbrev pub HasEnded : {S : Type 0} → Target S → Type 0
HasEnded target = EndsInDispose target.end ⊎ (target.moment.state.alive ≡ false)

both : (a b : Bool) → (a && b) ≡ true → (a ≡ true) × (b ≡ true)
both true b e = (refl, e)
both false b e = absurd (cc)

-- an end that closes carries what it carried
carries-shut : (phase : Phase) (end : End) (messages : List Message) → is_open_phase phase ≡ false → Carries end messages → Carries (in_phase phase end) messages
carries-shut Closed end messages shut c = carries-closed end messages c
carries-shut AwaitingHandshake end messages shut c = absurd (let e = shut in cc)
carries-shut Established end messages shut c = absurd (let e = shut in cc)

-- the message that closed the session is the last that was handled
carries-last : {S : Type 0} (m : Meaning S) (v : Target S) (message : Message) (used : ℕ) → IsBytes v.end.incoming → front_of v.end ≡ Whole message used → (ran : Ran m v)
    → is_open (with_handled m message used v).end ≡ false → Carries (with_handled m message used v).end (handled (acts_in ran.deeds) ++ message ∷ [])
carries-last m v message used fits front ran shut =
    let p = perform m v.settings (full_standing v) (Does (Handles message)) in
    let messages : List Message = handled (acts_in ran.deeds) ++ message ∷ [] in
    let took = ends.with_handled message used v.end in
    let put = carries-enqueued took messages (stream p.sends) refl (carries-handled v.end (handled (acts_in ran.deeds)) message used fits front ran.carries) in
    carries-shut p.after.standing.phase (ends.with_enqueued (stream p.sends) took) messages shut put

-- why it closed the session: one that is put off does not
closes-where : {S : Type 0} (m : Meaning S) (v : Target S) (message : Message) (b : Bool) → ClosesForReason m → is_open v.end ≡ true → is_open_phase (handles_where m v.settings (full_standing v) message b).after.standing.phase ≡ false
    → Closes (Handles message) (handles_where m v.settings (full_standing v) message b).after.standing
closes-where m v message true reason opened shut = absurd (let e = sym opened ∙ shut in cc)
closes-where m v message false reason opened shut = reason v.settings (standing v) (Handles message) opened shut

pub message-advances : {S : Type 0} (m : Meaning S) (v : Target S) (message : Message) (used : ℕ) → ClosesForReason m → is_open v.end ≡ true → IsBytes v.end.incoming
    → front_of v.end ≡ Whole message used → Ran m v → Advances v (with_handled m message used v) (HasEnded (with_handled m message used v))
message-advances m v message used reason opened fits front ran = record {
  settings = refl;
  began = refl;
  lost = refl;
  fed = refl;
  bytes = stream (perform m v.settings (full_standing v) (Does (Handles message))).sends;
  enqueued = refl;
  outgoing = refl;
  costs = omega arith;
  closes = λ shut.
      elim (closes-where m v message (defers (full_standing v) message) reason opened shut) [
        | inl d ↦ inl (handled (acts_in ran.deeds), message, carries-last m v message used fits front ran shut, d)
        | inr d ↦ inr d
      ];
}

-- ---- a release

-- Dispose is not deferred
no-dispose : (message : Message) → MayBeDeferred message → IsDispose message → ⊥
no-dispose Handshake command dispose = command
no-dispose (Packet header body) (set, number, is, may) dispose =
    let same : kind.Command set number ≡ kind.Command 1 6 = sym is ∙ dispose.0 in
    let one : set ≡ 1 = cc in
    let never : is_deferrable 1 ≡ true = subst (λ (n : ℕ). is_deferrable n ≡ true) one may in
    cc

closes-released : {S : Type 0} (m : Meaning S) (v : Target S) (place : ℕ) (o : Option (Message × List Message)) → ClosesForReason m → is_open v.end ≡ true → DefersFew (full_standing v) → released_at place v.deferred ≡ o
    → is_open_phase (releases_by m v.settings (full_standing v) o).after.standing.phase ≡ false → (releases_by m v.settings (full_standing v) o).after.standing.moment.state.alive ≡ false
closes-released m v place None reason opened few found shut = absurd (let e = sym opened ∙ shut in cc)
closes-released m v place (Some (message, others)) reason opened few found shut =
    elim (reason v.settings (standing v) (Handles message) opened shut) [
      | inl d ↦ absurd (no-dispose message (deferred-ones place v.deferred message others few.commands found).0 d)
      | inr d ↦ d
    ]

pub release-advances : {S : Type 0} (m : Meaning S) (v : Target S) (place : ℕ) → ClosesForReason m → is_open v.end ≡ true → DefersFew (full_standing v) → Advances v (with_release m place v) (HasEnded (with_release m place v))
release-advances m v place reason opened few = record {
  settings = refl;
  began = refl;
  lost = refl;
  fed = refl;
  bytes = stream (perform m v.settings (full_standing v) (Releases place)).sends;
  enqueued = refl;
  outgoing = refl;
  costs = omega arith;
  closes = λ shut. inr (closes-released m v place (released_at place v.deferred) reason opened few refl shut);
}

-- ---- steps

step-advances : {S : Type 0} (m : Meaning S) (v : Target S) (t : ℕ) → ClosesForReason m → is_open v.end ≡ true → StepsOn v (with_step m t v)
step-advances m v t reason opened = record {
  settings = refl;
  began = refl;
  lost = refl;
  fed = refl;
  bytes = stream (perform m v.settings (full_standing v) (Does (Steps t))).sends;
  enqueued = refl;
  outgoing = refl;
  costs = omega arith;
  closes = λ shut. reason v.settings (standing v) (Steps t) opened shut;
}

-- one after the other
advances-again : {S : Type 0} (old mid new : Target S) (why why' : Type 0) → Advances old mid why → Advances mid new why' → Advances old new why'
advances-again old mid new why why' a b = record {
  settings = b.settings ∙ a.settings;
  began = b.began ∙ a.began;
  lost = b.lost ∙ a.lost;
  fed = b.fed ∙ a.fed;
  bytes = a.bytes ++ b.bytes;
  enqueued = b.enqueued ∙ (ap (λ (x : List ℕ). x ++ b.bytes) a.enqueued ∙ append_assoc old.end.session.enqueued a.bytes b.bytes);
  outgoing = b.outgoing ∙ (ap (λ (x : List ℕ). x ++ b.bytes) a.outgoing ∙ append_assoc old.end.outgoing a.bytes b.bytes);
  costs = omega (arith, a.costs, b.costs);
  closes = b.closes;
}

-- whoever steps lives, so the session is open
still-open : {S : Type 0} (old mid : Target S) → StepsOn old mid → mid.moment.state.alive ≡ true → is_open mid.end ≡ true
still-open old mid a alive =
    elim (is_open mid.end) as (λ (b : Bool). is_open mid.end ≡ b → b ≡ true) [
      | true ↦ λ e. refl
      | false ↦ λ e. absurd (let f = sym alive ∙ a.closes e in cc)
    ] refl

pub open-if : {S : Type 0} (old mid : Target S) (made : Bool) → is_open old.end ≡ true → StepsIf old mid made → mid.moment.state.alive ≡ true → is_open mid.end ≡ true
open-if old mid true opened a alive = still-open old mid a alive
open-if {S = S} old mid false opened same alive = ap (λ (x : Target S). is_open x.end) same ∙ opened

pub step-made : {S : Type 0} (m : Meaning S) (old mid new : Target S) (t : ℕ) (made : Bool) → ClosesForReason m → is_open old.end ≡ true → StepsIf old mid made
    → may_step m mid.settings mid.moment t ≡ true → new ≡ with_step m t mid → StepsOn old new
step-made {S = S} m old mid new t true reason opened a may is =
    let alive : mid.moment.state.alive ≡ true = (both _ _ (both _ _ may).1).0 in
    let one = step-advances m mid t reason (still-open old mid a alive) in
    rw is (advances-again old mid (with_step m t mid) _ _ a one)
step-made {S = S} m old mid new t false reason opened same may is =
    rw (is, same) (step-advances m old t reason opened)

-- what a step told, by whether it was frozen
sends-told : (sends : Option CompositeMeaning) → told_of_sends sends ≡ Frozen → ⊥
sends-told None e = cc
sends-told (Some c) e = cc

told-frozen : (sends : Option CompositeMeaning) (ends : Bool) → told_by_end sends ends ≡ Frozen → ⊥
told-frozen sends true e = cc
told-frozen sends false e = sends-told sends e

pub frozen-same : {S : Type 0} (m : Meaning S) (t : ℕ) (old new : Target S) (b : Bool) → StepsWhere m t old Frozen new b → new ≡ old
frozen-same m t old new true h = h.1
frozen-same m t old new false h = absurd (told-frozen _ _ (sym h.0))

pub made-step : {S : Type 0} (m : Meaning S) (t : ℕ) (old new : Target S) (stepped : Stepped) (paused may : Bool) → (stepped ≡ Frozen → ⊥) → StepsWhere m t old stepped new (paused || not may) → (may ≡ true) × (new ≡ with_step m t old)
made-step m t old new stepped true may some h = absurd (some h.0)
made-step m t old new stepped false true some h = (refl, h.1)
made-step m t old new stepped false false some h = absurd (some h.0)

-- a step wanted memory: its thread lives, so the session is open
pub stops : {S : Type 0} (first mid new : Target S) (made : Bool) → is_open first.end ≡ true → StepsIf first mid made → MayStep mid → new ≡ mid
    → ((stepped : Bool) × StepsIf first new stepped) × (is_open new.end ≡ true) × MayStep new
stops first mid new made opened p may same =
    let alive : mid.moment.state.alive ≡ true = (both _ _ (both _ _ may.1).1).0 in
    rw same ((made, p), open-if first mid made opened p alive, may)

-- a session of ends that had others before goes on as one of a link that is new: what every event of the model keeps holds of where it begins
use Rattle.std.proofs.Common.{◌≡◌, ℕ, Bool, true, false, cond, None, List, [], ◌∷◌, refl, sym, ap, subst, arith}
use Rattle.jdwp_end.specs.declared.phase.Phase.{Phase}
use Rattle.jdwp_end.specs.declared.phase.Phase.TheVariants.{AwaitingHandshake, Closed, Established}
use Rattle.jdwp_end.specs.Ends.{is_open, is_open_phase}
use Rattle.jdwp_event.specs.Requests.{all_asked}
use Rattle.jdwp_machine.specs.Meanings.{Meaning}
use Rattle.jdwp_debuggee.specs.Reports.{HavePolicies}
use Rattle.jdwp_debuggee.specs.Settings.{Settings}
use Rattle.jdwp_debuggee.specs.State.{Moment}
use Rattle.jdwp_model.specs.Deferred.{DefersFew}
use Rattle.jdwp_model.specs.Events
use Rattle.jdwp_model.specs.Events.{LinkEvent}
use Rattle.jdwp_model.specs.Next as model
use Rattle.jdwp_model.specs.Next.{attaches, next, run}
use Rattle.jdwp_model.specs.Rests.{Rests}
use Rattle.jdwp_model.specs.World.{Measure, World}
use Rattle.jdwp_model.proofs.Apart.{apart_none}
use Rattle.jdwp_model.proofs.Cases.{kept_next}
use Rattle.jdwp_model.proofs.Deferred.{deferred_kept, few_deferred}
use Rattle.jdwp_model.proofs.Fairness.{Fairness, fairness_kept}
use Rattle.jdwp_model.proofs.Faultless.{Whole, answers_one_waiting, defers_few, each_at_one_place, no_call_is_refused, no_packet_is_refused}
use Rattle.jdwp_model.proofs.Keeps.{Inv, TargetSide, closed_side, keeps}
use Rattle.jdwp_model.proofs.Phases.{PhasesOf, phases_kept}
use Rattle.jdwp_model.proofs.Theorems.{count_is_at_most, has_the_counts, has_the_requests, held_is_covered, held_is_suspended, knows_and_holds}
use Rattle.jdwp_model.proofs.Unready.{UnreadyOf, unready_kept}
use Rattle.jdwp_across.specs.Others.{beginning, resting}
use Rattle.jdwp_across.specs.Programs.{Programs}
use Rattle.jdwp_across.proofs.Onward.{From, Onward, SettlesFrom, TellsFrom}
use Rattle.jdwp_across.proofs.Served.{AreBounds, Served}
use Rattle.jdwp_across.proofs.SettlesOn.{settles-on}
use Rattle.jdwp_across.proofs.StaysOn.{stays-on}
use Rattle.jdwp_across.proofs.TellsOn.{tells-on}

-- ---- a link at rest

-- the target behind its last session
resting-side : {S : Type 0} (m : Meaning S) (settings : Settings) (phase : Phase) (lost : Bool) (now : Moment S) → is_open_phase phase ≡ false → TargetSide m settings phase lost now → TargetSide m settings Closed false now
resting-side m settings Closed lost now shut side = record {
  sound = side.sound;
  idle = λ q. side.idle refl;
  living = λ q. absurd (cc);
  unlost = λ q. absurd (cc);
  greeted = λ q. absurd (cc);
  unborn = side.unborn;
}
resting-side m settings AwaitingHandshake lost now shut side = absurd (cc)
resting-side m settings Established lost now shut side = absurd (cc)

resting-inv : {S : Type 0} (m : Meaning S) (settings : Settings) (now : Moment S) (deferring : Bool) (asked : ℕ) → TargetSide m settings Closed false now → Inv m settings (resting now deferring asked)
resting-inv m settings now deferring asked side = record { target = side; debugger = closed_side m [] [] [] false now; apart = apart_none Closed asked }

resting-whole : {S : Type 0} (m : Meaning S) (settings : Settings) (now : Moment S) (deferring : Bool) (asked : ℕ) → TargetSide m settings Closed false now → Whole m settings (resting now deferring asked)
resting-whole m settings now deferring asked side = record {
  inv = resting-inv m settings now deferring asked side;
  fair = record { policies = subst (λ rs. HavePolicies (all_asked rs)) (sym (side.idle refl).0) tt; parked = tt; sent = tt };
  phases = record { waits = λ x. absurd (cc); asked = λ x. absurd (cc); first = λ x. absurd (cc); later = λ x. absurd (cc) };
  unready = λ o r. absurd (cc);
  few = record { few = omega arith; deferrable = tt; none = λ q. refl };
}

-- ---- every event keeps all of it

whole-next : {S : Type 0} (m : Meaning S) → Rests m → (settings : Settings) → AreBounds settings → (measure : Measure) (w : World S) (e : LinkEvent) → Whole m settings w → Whole m settings (next m settings measure w e).0
whole-next m rests settings b measure w e h = record {
  inv = keeps m rests settings b.least b.most measure w e h.inv;
  fair = kept_next m settings measure w Fairness e h.fair (fairness_kept m rests settings w h.inv h.fair) (λ _ _. record { policies = h.fair.policies; parked = h.fair.parked; sent = h.fair.sent });
  phases = kept_next m settings measure w PhasesOf e h.phases (phases_kept m rests settings w h.inv h.phases) (λ _ _. h.phases);
  unready = kept_next m settings measure w UnreadyOf e h.unready (unready_kept m rests settings w h.inv h.unready) (λ _ _. h.unready);
  few = kept_next m settings measure w DefersFew e h.few (deferred_kept m settings w h.few) (λ deferring _. few_deferred w deferring h.few);
}

whole-run : {S : Type 0} (m : Meaning S) → Rests m → (settings : Settings) → AreBounds settings → (measure : Measure) (w : World S) (events : List LinkEvent) → Whole m settings w → Whole m settings (run m settings measure w events)
whole-run m rests settings b measure w [] h = h
whole-run m rests settings b measure w (e ∷ events) h = whole-run m rests settings b measure (next m settings measure w e).0 events (whole-next m rests settings b measure w e h)

-- ---- from where a session begins

-- where it does so, the machine lives
attaches-resting : {S : Type 0} (now : Moment S) (deferring : Bool) (asked : ℕ) → now.state.alive ≡ true → attaches (resting now deferring asked) ≡ model.attached (resting now deferring asked)
attaches-resting now deferring asked lives = ap (λ b. cond b (model.attached (resting now deferring asked)) (resting now deferring asked)) lives

no-measure : Measure
no-measure = record { call = λ c. 0; message = λ x. 0; unfit = λ c. None }

pub beginning-whole : {S : Type 0} (m : Meaning S) → Rests m → (settings : Settings) → AreBounds settings → (old : Programs S) → Served m settings old.target → is_open old.target.end ≡ false → old.target.moment.state.alive ≡ true
    → Whole m settings (beginning old)
beginning-whole m rests settings b old h shut lives =
    let t = old.target in
    let rest = resting t.moment t.deferring old.debugger.tickets in
    let side = subst (λ q. TargetSide m q t.end.phase t.end.session.lost t.moment) h.same_settings h.side in
    subst (Whole m settings) (attaches-resting t.moment t.deferring old.debugger.tickets lives)
    (whole-next m rests settings b no-measure rest Events.Attach (resting-whole m settings t.moment t.deferring old.debugger.tickets (resting-side m settings t.end.phase t.end.session.lost t.moment shut side)))

pub beginning-onward : {S : Type 0} (m : Meaning S) → Rests m → (settings : Settings) → AreBounds settings → (old : Programs S) → Whole m settings (beginning old) → Onward m settings (beginning old)
beginning-onward m rests settings b old h =
    let first = beginning old in
    let wholes : From m settings first (Whole m settings) = λ measure events. whole-run m rests settings b measure first events h in
    let at = λ (measure : Measure) (events : List LinkEvent). run m settings measure first events in
    record {
      soundly = λ measure events.
          let kept = (wholes measure events).inv in
          record { sound = kept.target.sound; idle = λ q. (kept.target.idle q).0; unlost = kept.target.unlost; shut = λ q. (kept.debugger.closed q).1 };
      packets = λ measure events. no_packet_is_refused m settings (at measure events) (wholes measure events);
      calls = λ measure events. no_call_is_refused m settings (at measure events) (wholes measure events);
      one = λ measure events. answers_one_waiting m settings (at measure events) (wholes measure events);
      places = λ measure events. each_at_one_place m settings (at measure events) (wholes measure events);
      few = λ measure events. defers_few m settings (at measure events) (wholes measure events);
      known_and_held = λ measure events. knows_and_holds m settings (at measure events) (wholes measure events).inv;
      counts = λ measure events. has_the_counts m settings (at measure events) (wholes measure events).inv;
      requests = λ measure events. has_the_requests m settings (at measure events) (wholes measure events).inv;
      suspended = λ measure events. held_is_suspended m settings (at measure events) (wholes measure events).inv;
      covered = λ measure events. held_is_covered m settings (at measure events) (wholes measure events).inv;
      at_most = λ measure events. count_is_at_most m settings (at measure events) (wholes measure events).inv;
      stays = λ measure events. stays-on m rests settings b measure first events h.inv refl refl;
    }

pub beginning-settles : {S : Type 0} (m : Meaning S) → Rests m → (settings : Settings) → AreBounds settings → (old : Programs S) → Whole m settings (beginning old) → SettlesFrom m settings (beginning old)
beginning-settles m rests settings b old h measure events k =
    settles-on m rests settings b measure (beginning old) events k h.inv refl

pub beginning-tells : {S : Type 0} (m : Meaning S) (settings : Settings) (old : Programs S) → TellsFrom m settings (beginning old)
beginning-tells m settings old measure events p h = tells-on m settings measure (beginning old) events p refl h

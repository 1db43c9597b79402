-- what is known of a world that two programs stand for
use Rattle.std.proofs.Common.{◌≡◌, List, [], ◌∷◌, ◌++◌, refl, sym, ◌∙◌, ap, subst}
use Rattle.std.proofs.lemmas.List.{append-nil, append_assoc, map-append}
use Rattle.jdwp_wire.specs.Widths.{Widths}
use Rattle.jdwp_machine.specs.Meanings.{Meaning}
use Rattle.jdwp_debuggee.specs.Settings.{Settings}
use Rattle.jdwp_model.specs.Deferred.{DefersFew}
use Rattle.jdwp_model.specs.Events as events
use Rattle.jdwp_model.specs.Events.{LinkEvent}
use Rattle.jdwp_model.specs.Faultless.{AnswersOneWaiting, NoCallIsRefused, NoPacketIsRefused}
use Rattle.jdwp_model.specs.Next.{next, outcomes, run}
use Rattle.jdwp_model.specs.Places.{EachAtOnePlace}
use Rattle.jdwp_model.specs.Soundness.{StandsSoundly}
use Rattle.jdwp_model.specs.World.{Measure, World}
use Rattle.jdwp_link.specs.Laws.{HoldsOfWorlds}
use Rattle.jdwp_link.specs.Told.{outcome_told, told_outcomes}
use Rattle.jdwp_link.proofs.Reached.{Known}
use Rattle.jdwp_across.specs.Programs.{Act, events_in, events_of, told_by, told_in}
use Rattle.jdwp_across.specs.Standing.{IsReachedBy, uncounted, unmeasured}
use Rattle.jdwp_across.proofs.Onward.{From, Onward}

-- ---- one act more

pub events-more : (acts : List Act) (act : Act) → events_in (acts ++ act ∷ []) ≡ events_in acts ++ events_of act
events-more [] act = append-nil (events_of act)
events-more (a ∷ acts) act = ap (λ es. events_of a ++ es) (events-more acts act) ∙ sym (append_assoc (events_of a) (events_in acts) (events_of act))

told-more : (acts : List Act) (act : Act) → told_in (acts ++ act ∷ []) ≡ told_in acts ++ told_by act
told-more [] act = append-nil (told_by act)
told-more (a ∷ acts) act = ap (λ os. told_by a ++ os) (told-more acts act) ∙ sym (append_assoc (told_by a) (told_in acts) (told_by act))

pub run-append : {S : Type 0} (m : Meaning S) (settings : Settings) (measure : Measure) (x : World S) (before es : List LinkEvent)
    → run m settings measure x (before ++ es) ≡ run m settings measure (run m settings measure x before) es
run-append m settings measure x [] es = refl
run-append m settings measure x (e ∷ before) es = run-append m settings measure (next m settings measure x e).0 before es

outcomes-append : {S : Type 0} (m : Meaning S) (settings : Settings) (measure : Measure) (x : World S) (before es : List LinkEvent)
    → outcomes m settings measure x (before ++ es) ≡ outcomes m settings measure x before ++ outcomes m settings measure (run m settings measure x before) es
outcomes-append m settings measure x [] es = refl
outcomes-append m settings measure x (e ∷ before) es =
    ap (λ os. (next m settings measure x e).1 ++ os) (outcomes-append m settings measure (next m settings measure x e).0 before es)
    ∙ sym (append_assoc (next m settings measure x e).1 (outcomes m settings measure (next m settings measure x e).0 before) (outcomes m settings measure (run m settings measure (next m settings measure x e).0 before) es))

-- these are an act's events, and what they leave and tell
pub record GoesBy {S : Type 0} (m : Meaning S) (settings : Settings) (w : Widths) (act : Act) (es : List LinkEvent) (x y : World S) : Type 0 where
  pub events : events_of act ≡ es
  pub is : run m settings (unmeasured w settings.limits) (uncounted x) es ≡ uncounted y
  pub tells : told_by act ≡ told_outcomes (outcomes m settings (unmeasured w settings.limits) (uncounted x) es)

pub reached-more : {S : Type 0} (m : Meaning S) (settings : Settings) (w : Widths) (first : World S) (acts : List Act) (act : Act) (es : List LinkEvent) (x y : World S)
    → IsReachedBy m settings w first acts x → GoesBy m settings w act es x y → IsReachedBy m settings w first (acts ++ act ∷ []) y
reached-more m settings w first acts act es x y r g =
    let measure = unmeasured w settings.limits in
    let all : events_in (acts ++ act ∷ []) ≡ events_in acts ++ es = events-more acts act ∙ ap (λ e. events_in acts ++ e) g.events in
    record {
      is = ap (run m settings measure first) all ∙ (run-append m settings measure first (events_in acts) es ∙ (ap (λ z. run m settings measure z es) r.is ∙ g.is));
      tells = told-more acts act
          ∙ (ap (λ os. os ++ told_by act) r.tells
          ∙ (ap (λ os. told_outcomes (outcomes m settings measure first (events_in acts)) ++ os) (g.tells ∙ ap (λ z. told_outcomes (outcomes m settings measure z es)) (sym r.is))
          ∙ (sym (map-append outcome_told (outcomes m settings measure first (events_in acts)) (outcomes m settings measure (run m settings measure first (events_in acts)) es))
          ∙ ap told_outcomes (sym (ap (outcomes m settings measure first) all ∙ outcomes-append m settings measure first (events_in acts) es)))));
    }

-- another world that differs by how many bytes came
pub reached-same : {S : Type 0} (m : Meaning S) (settings : Settings) (w : Widths) (first : World S) (acts : List Act) (x y : World S) → uncounted x ≡ uncounted y → IsReachedBy m settings w first acts x → IsReachedBy m settings w first acts y
reached-same m settings w first acts x y e r = record { is = r.is ∙ e; tells = r.tells }

-- ---- what is known

pub reached-has : {S : Type 0} (m : Meaning S) (settings : Settings) (w : Widths) (first : World S) (acts : List Act) (x : World S) (P : World S → Type 0) → IsReachedBy m settings w first acts x → From m settings first P → P (uncounted x)
reached-has m settings w first acts x P r a = subst P r.is (a (unmeasured w settings.limits) (events_in acts))

pub known-across : {S : Type 0} (m : Meaning S) → HoldsOfWorlds m → (settings : Settings) (w : Widths) (first : World S) (acts : List Act) (x : World S) → Onward m settings first → IsReachedBy m settings w first acts x → Known m settings x
known-across m worlds settings w first acts x onward r =
    let stands = reached-has m settings w first acts x (StandsSoundly m settings) r onward.soundly in
    record {
      sound = stands.sound;
      facts = worlds.facts settings;
      widths = worlds.widths x.now.machine stands.sound.state;
      idle = stands.idle;
      unlost = stands.unlost;
      shut = stands.shut;
      packet = reached-has m settings w first acts x NoPacketIsRefused r onward.packets;
      call = reached-has m settings w first acts x NoCallIsRefused r onward.calls;
      one = reached-has m settings w first acts x AnswersOneWaiting r onward.one;
      places = reached-has m settings w first acts x EachAtOnePlace r onward.places;
      few = let f = reached-has m settings w first acts x DefersFew r onward.few in record { few = f.few; deferrable = f.deferrable; none = f.none };
    }

-- ---- how an act goes

-- nothing happens in the model
pub goes-idle : {S : Type 0} (m : Meaning S) (settings : Settings) (w : Widths) (act : Act) (x : World S) → events_of act ≡ [] → told_by act ≡ [] → GoesBy m settings w act [] x x
goes-idle m settings w act x events told = record { events = events; is = refl; tells = told }

-- one event happens
pub goes-one : {S : Type 0} (m : Meaning S) (settings : Settings) (w : Widths) (act : Act) (e : LinkEvent) (x y : World S) (os : List events.Outcome) → events_of act ≡ e ∷ []
    → next m settings (unmeasured w settings.limits) (uncounted x) e ≡ (uncounted y, os) → told_by act ≡ told_outcomes os → GoesBy m settings w act (e ∷ []) x y
goes-one m settings w act e x y os events is told = record {
  events = events;
  is = ap (λ r. r.0) is;
  tells = told ∙ (ap told_outcomes (sym (append-nil os)) ∙ ap (λ r. told_outcomes (r.1 ++ [])) (sym is));
}

-- a list of events, one after the other
use Rattle.std.proofs.Common.{◌≡◌, ◌<◌, ℕ, zero, suc, ◌+◌, Bool, List, [], ◌∷◌, ◌++◌, length, take, get_or, refl, sym, ◌∙◌, ap, subst, arith}
use Rattle.std.proofs.lemmas.List.{append-nil, append_assoc}
use Rattle.jdwp_machine.specs.Meanings.{Meaning}
use Rattle.jdwp_debuggee.specs.Settings.{Settings}
use Rattle.jdwp_model.specs.Events as events
use Rattle.jdwp_model.specs.Events.{LinkEvent}
use Rattle.jdwp_model.specs.Next.{acts, did_after, next, outcomes, run}
use Rattle.jdwp_model.specs.World.{Measure, World}
use Rattle.jdwp_model.specs.Measures.{measured}
use Rattle.jdwp_link.specs.declared.events.LinkEvent as declared
use Rattle.jdwp_link.specs.declared.events.Outcome.{Outcome}
use Rattle.jdwp_link.specs.Clauses.{Goes, MayStop, Ran, measure_of}
use Rattle.jdwp_link.specs.EventParts.{Stops, Tells}
use Rattle.jdwp_link.specs.Links.{Link}
use Rattle.jdwp_link.specs.Stands.{StandsFor}
use Rattle.jdwp_link.specs.Told.{event_meaning, event_meanings, told_outcomes}

run-more : {S : Type 0} (m : Meaning S) (settings : Settings) (measure : Measure) (x : World S) (es : List LinkEvent) (e : LinkEvent) → run m settings measure x (es ++ e ∷ []) ≡ (next m settings measure (run m settings measure x es) e).0
run-more m settings measure x [] e = refl
run-more m settings measure x (d ∷ es) e = run-more m settings measure (next m settings measure x d).0 es e

outcomes-more : {S : Type 0} (m : Meaning S) (settings : Settings) (measure : Measure) (x : World S) (es : List LinkEvent) (e : LinkEvent)
    → outcomes m settings measure x (es ++ e ∷ []) ≡ outcomes m settings measure x es ++ (next m settings measure (run m settings measure x es) e).1
outcomes-more m settings measure x [] e = append-nil (next m settings measure x e).1
outcomes-more m settings measure x (d ∷ es) e =
    ap (λ os. (next m settings measure x d).1 ++ os) (outcomes-more m settings measure (next m settings measure x d).0 es e)
    ∙ sym (append_assoc (next m settings measure x d).1 (outcomes m settings measure (next m settings measure x d).0 es) (next m settings measure (run m settings measure (next m settings measure x d).0 es) e).1)

did-more : {S : Type 0} (m : Meaning S) (settings : Settings) (measure : Measure) (x : World S) (before : Bool) (es : List LinkEvent) (e : LinkEvent) → did_after m settings measure x before (es ++ e ∷ []) ≡ acts m settings measure (run m settings measure x es) e
did-more m settings measure x before [] e = refl
did-more m settings measure x before (d ∷ es) e = did-more m settings measure (next m settings measure x d).0 (acts m settings measure x d) es e

told-append : (xs ys : List events.Outcome) → told_outcomes (xs ++ ys) ≡ told_outcomes xs ++ told_outcomes ys
told-append [] ys = refl
told-append (x ∷ xs) ys = ap (λ l. told_outcomes (x ∷ []) ++ l) (told-append xs ys)

-- one event more
pub ran-more : {S : Type 0} (m : Meaning S) (es : List LinkEvent) (e : LinkEvent) (old mid new : Link S) (os more : List Outcome) → Ran m es old mid os → Goes m e mid new more → Ran m (es ++ e ∷ []) old new (os ++ more)
ran-more {S} m es e old mid new os more r g =
    let measure = measure_of m old in
    let settings = old.target.settings in
    let at = λ (x : World S). run m settings measure x es in
    let same = λ (x : World S) (s : StandsFor m old x). ap (λ v. measured v mid.target.settings.limits) (r.sizes x s) ∙ ap (λ u. measured (m.sizes old.target.moment.machine) u.limits) (r.settings x s) in
    let next-is : (x : World S) → StandsFor m old x → next m mid.target.settings (measure_of m mid) (at x) e ≡ next m settings measure (at x) e =
    (λ x s. ap (λ u. next m u (measure_of m mid) (at x) e) (r.settings x s) ∙ ap (λ q. next m settings q (at x) e) (same x s)) in
    record {
      stands = λ x s. subst (StandsFor m new) (ap (λ n. n.0) (next-is x s) ∙ sym (run-more m settings measure x es e)) (g.stands (at x) (r.stands x s));
      tells = λ x s. ap (λ l. l ++ more) (r.tells x s) ∙ (ap (λ l. told_outcomes (outcomes m settings measure x es) ++ l) (g.tells (at x) (r.stands x s) ∙ ap (λ n. told_outcomes n.1) (next-is x s))
          ∙ (sym (told-append (outcomes m settings measure x es) (next m settings measure (at x) e).1) ∙ ap told_outcomes (sym (outcomes-more m settings measure x es e))));
      did = λ x s. g.did (at x) (r.stands x s) ∙ (ap (λ u. acts m u (measure_of m mid) (at x) e) (r.settings x s) ∙ (ap (λ q. acts m settings q (at x) e) (same x s) ∙ sym (did-more m settings measure x old.did es e)));
      settings = λ x s. g.settings (at x) (r.stands x s) ∙ r.settings x s;
      sizes = λ x s. g.sizes (at x) (r.stands x s) ∙ r.sizes x s;
    }

-- ---- the events of a slice

event-next : (es : List declared.LinkEvent) (i : ℕ) (e : declared.LinkEvent) → i < length es → e ≡ get_or es i e → take (suc i) (event_meanings es) ≡ take i (event_meanings es) ++ event_meaning e ∷ []
event-next [] i e lt is = absurd (omega arith)
event-next (d ∷ es) zero e lt is = ap (λ q. event_meaning q ∷ []) (sym is)
event-next (d ∷ es) (suc i) e lt is = ap (λ l. event_meaning d ∷ l) (event-next es i e (omega arith) is)

pub event-more : (es : List declared.LinkEvent) (i : ℕ) (e : declared.LinkEvent) → i < length es → e ≡ get_or es i e → take (i + 1) (event_meanings es) ≡ take i (event_meanings es) ++ event_meaning e ∷ []
event-more es i e lt is =
    let one : i + 1 ≡ suc i = omega arith in
    ap (λ n. take n (event_meanings es)) one ∙ event-next es i e lt is

pub event-at : (es : List declared.LinkEvent) (i : ℕ) (e : declared.LinkEvent) → i < length es → e ≡ get_or es i e → get_or (event_meanings es) i events.Attach ≡ event_meaning e
event-at [] i e lt is = absurd (omega arith)
event-at (d ∷ es) zero e lt is = ap event_meaning (sym is)
event-at (d ∷ es) (suc i) e lt is = event-at es i e (omega arith) is

-- one event more is done
pub ran-on : {S : Type 0} (m : Meaning S) (es : List declared.LinkEvent) (i : ℕ) (e : declared.LinkEvent) (old mid new : Link S) (before after : List Outcome) → i < length es → e ≡ get_or es i e
    → Ran m (take i (event_meanings es)) old mid before → Tells m (event_meaning e) mid new before after → Ran m (take (i + 1) (event_meanings es)) old new after
ran-on m es i e old mid new before after lt is r (os, more, goes) =
    subst (λ l. Ran m l old new after) (sym (event-more es i e lt is)) (subst (λ t. Ran m (take i (event_meanings es) ++ event_meaning e ∷ []) old new t) (sym more) (ran-more m (take i (event_meanings es)) (event_meaning e) old mid new before os r goes))

-- one wants memory
pub stops-at : {S : Type 0} (m : Meaning S) (es : List declared.LinkEvent) (i : ℕ) (e : declared.LinkEvent) (old mid new : Link S) (before after : List Outcome) → i < length es → e ≡ get_or es i e
    → Ran m (take i (event_meanings es)) old mid before → Stops m (event_meaning e) mid new before after → Ran m (take i (event_meanings es)) old new after × MayStop m new (get_or (event_meanings es) i events.Attach)
stops-at m es i e old mid new before after lt is r (same, told, stops) = (
  subst (λ l. Ran m (take i (event_meanings es)) old l after) (sym same) (subst (λ t. Ran m (take i (event_meanings es)) old mid t) (sym told) r),
  subst (λ d. MayStop m new d) (sym (event-at es i e lt is)) (subst (λ l. MayStop m l (event_meaning e)) (sym same) stops),
)

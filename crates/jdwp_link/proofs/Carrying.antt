-- what a way carries, a piece behind another and an event behind another
use Rattle.std.proofs.Common.{◌≡◌, ◌<◌, ℕ, ◌+◌, ◌-◌, Bool, true, false, List, [], ◌∷◌, ◌++◌, get_or, length, take, refl, sym, ◌∙◌, ap, subst}
use Rattle.std.proofs.lemmas.List.{append-nil, append_assoc}
use Rattle.jdwp_machine.specs.Meanings.{Meaning}
use Rattle.jdwp_model.specs.Events.{LinkEvent}
use Rattle.jdwp_link.specs.declared.events.LinkEvent as declared
use Rattle.jdwp_link.specs.declared.events.Outcome.{Outcome}
use Rattle.jdwp_link.specs.declared.way.Side.{Side}
use Rattle.jdwp_link.specs.declared.way.Side.TheVariants as side
use Rattle.jdwp_link.specs.Clauses.{Delivers, Goes, RanOver, carried_by}
use Rattle.jdwp_link.specs.EventParts.{Tells}
use Rattle.jdwp_link.specs.Links.{Link}
use Rattle.jdwp_link.specs.Told.{event_meaning, event_meanings}
use Rattle.jdwp_link.specs.Ways.{Carried, with_carried}
use Rattle.jdwp_link.proofs.Pieces.{none-left}
use Rattle.jdwp_link.proofs.Running.{event-more}

-- ---- bytes

carried-none : (s : Side) (c : Carried) → with_carried s [] c ≡ c
carried-none side.Target c = ap (λ b. record c { from_target = b }) (append-nil c.from_target)
carried-none side.Debugger c = ap (λ b. record c { from_debugger = b }) (append-nil c.from_debugger)

carried-twice : (s : Side) (a b : List ℕ) (c : Carried) → with_carried s b (with_carried s a c) ≡ with_carried s (a ++ b) c
carried-twice side.Target a b c = ap (λ x. record c { from_target = x }) (append_assoc c.from_target a b)
carried-twice side.Debugger a b c = ap (λ x. record c { from_debugger = x }) (append_assoc c.from_debugger a b)

-- ---- failures

-- a way that has not failed had not failed before
pub unfailed : {W : Type 0} (failed : W → Bool) (old new : W) → (failed old ≡ true → new ≡ old) → failed new ≡ false → failed old ≡ false
unfailed failed old new stays free =
    elim (failed old) as (λ b. failed old ≡ b → b ≡ false) [
      | true ↦ λ h. sym h ∙ (ap failed (sym (stays h)) ∙ free)
      | false ↦ λ h. refl
    ] refl

-- and one that failed stays as it is
pub stays-on : {W : Type 0} (failed : W → Bool) (old mid new : W) → (failed old ≡ true → mid ≡ old) → (failed mid ≡ true → new ≡ mid) → failed old ≡ true → new ≡ old
stays-on failed old mid new first then h = let same = first h in then (ap failed same ∙ h) ∙ same

-- ---- pieces

-- of these bytes nothing was carried
pub carry-start : (s : Side) (count : ℕ) (bytes : List ℕ) (c : Carried) → c ≡ with_carried s (take (count - count) bytes) c
carry-start s count bytes c = sym (ap (λ b. with_carried s b c) (none-left count bytes) ∙ carried-none s c)

-- a piece more
pub carry-more : {W : Type 0} (failed : W → Bool) (story : W → Carried) (s : Side) (a b all : List ℕ) (old mid new : W)
    → (failed mid ≡ false → story mid ≡ with_carried s a (story old)) → (failed new ≡ false → story new ≡ with_carried s b (story mid)) → (failed mid ≡ true → new ≡ mid)
    → a ++ b ≡ all → failed new ≡ false → story new ≡ with_carried s all (story old)
carry-more failed story s a b all old mid new first then stays both free =
    then free ∙ (ap (with_carried s b) (first (unfailed failed mid new stays free)) ∙ (carried-twice s a b (story old) ∙ ap (λ x. with_carried s x (story old)) both))

-- all of them
pub carry-all : {W : Type 0} (failed : W → Bool) (story : W → Carried) (s : Side) (count left : ℕ) (bytes : List ℕ) (old new : W) → take (count - left) bytes ≡ take count bytes
    → (failed new ≡ false → story new ≡ with_carried s (take (count - left) bytes) (story old)) → failed new ≡ false → story new ≡ with_carried s (take count bytes) (story old)
carry-all failed story s count left bytes old new all h free = h free ∙ ap (λ b. with_carried s b (story old)) all

-- ---- events

-- one event more
pub over-more : {S : Type 0} (m : Meaning S) (es : List LinkEvent) (e : LinkEvent) (old mid new : Link S) (os : List Outcome) (before between after : Carried)
    → RanOver m es old mid before between → Goes m e mid new os → Delivers e mid new → after ≡ carried_by e mid between → RanOver m (es ++ e ∷ []) old new before after
over-more {S} m [] e old mid new os before between after (same, none) goes delivers carried =
    let carries : after ≡ carried_by e old before = carried ∙ (ap (carried_by e mid) none ∙ ap (λ l. carried_by e l before) same) in
    subst (λ (l : Link S). Goes m e l new os → Delivers e l new → RanOver m (e ∷ []) old new before after) (sym same)
    (λ g d. (new, os, g, d, (refl, carries))) goes delivers
over-more m (d ∷ es) e old mid new os before between after (next, told, went, delivered, rest) goes delivers carried =
    (next, told, went, delivered, over-more m es e next mid new os (carried_by d old before) between after rest goes delivers carried)

-- one event of a slice more
pub over-on : {S : Type 0} (m : Meaning S) (es : List declared.LinkEvent) (i : ℕ) (e : declared.LinkEvent) (old mid new : Link S) (told told_after : List Outcome) (before between after : Carried) → i < length es → e ≡ get_or es i e
    → RanOver m (take i (event_meanings es)) old mid before between → Tells m (event_meaning e) mid new told told_after → Delivers (event_meaning e) mid new → after ≡ carried_by (event_meaning e) mid between
    → RanOver m (take (i + 1) (event_meanings es)) old new before after
over-on m es i e old mid new told told_after before between after lt is r (os, more, goes) delivers carried =
    subst (λ l. RanOver m l old new before after) (sym (event-more es i e lt is)) (over-more m (take i (event_meanings es)) (event_meaning e) old mid new os before between after r goes delivers carried)

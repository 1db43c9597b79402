-- What no request asks for passes none, and leaves all as they are; so does what passes none, where no request has a Count.
use Rattle.std.proofs.Common.{◌≡◌, ◌∙◌, ℕ, ◌+◌, Bool, true, false, ◌||◌, List, [], ◌∷◌, Option, Some, None, length, arith, refl, ap, sym, if◌then◌else◌}
use Rattle.std.specs.Prelude.{◌==◌}
use Rattle.std.specs.List.{list_any}
use Rattle.std.specs.Option.{is_some}
use Rattle.std.proofs.lemmas.Bool.{or_parts, or_from, false≢true}
use Rattle.jdwp_event.specs.declared.kind.EventKind.{EventKind}
use Rattle.jdwp_event.specs.declared.kind.EventKind.TheVariants as kind
use Rattle.jdwp_event.specs.declared.kinds_asked.KindsAsked.{KindsAsked}
use Rattle.jdwp_event.specs.EventKinds.{kind_byte}
use Rattle.jdwp_event.specs.Occurrences.{Moved, Entered, Left, Threw, Prepared, Started, RanOut, OccurrenceMeaning, HappeningMeaning}
use Rattle.jdwp_event.specs.Modifiers.{ModifierMeaning}
use Rattle.jdwp_event.specs.Requests.{Request, AskedRequest, Origin}
use Rattle.jdwp_event.specs.Filters.{kinds_of, is_of_kind, passes_modifier, passes, passing, place_of, origin_at, is_count, reached_after, counted, all_counted}
use Rattle.jdwp_event.specs.KindsAsked.{has_kind, asks_for, is_asked, has_count, any_has_count, AreAsked}
use Rattle.jdwp_event.specs.Composites.{composite_by, gathered}
use Rattle.jdwp_event.proofs.Rising.{if_asked}

-- ---- the kinds of requests

or_none : (b : Bool) → b ≡ (b || false)
or_none true = refl
or_none false = refl

pub are_asked : (kinds : KindsAsked) (rs : List Request)
    → kinds.moved ≡ (has_kind (kind_byte kind.SingleStep) rs || has_kind (kind_byte kind.Breakpoint) rs)
    → kinds.entered ≡ has_kind (kind_byte kind.MethodEntry) rs
    → kinds.left ≡ (has_kind (kind_byte kind.MethodExit) rs || has_kind (kind_byte kind.MethodExitWithReturnValue) rs)
    → kinds.threw ≡ has_kind (kind_byte kind.Exception) rs
    → kinds.prepared ≡ has_kind (kind_byte kind.ClassPrepare) rs
    → kinds.started ≡ has_kind (kind_byte kind.ThreadStart) rs
    → kinds.ran_out ≡ has_kind (kind_byte kind.ThreadDeath) rs
    → (o : OccurrenceMeaning) → is_asked kinds o ≡ asks_for o rs
are_asked kinds rs m e l t p s r (Moved place) = m ∙ ap (λ (b : Bool). has_kind (kind_byte kind.SingleStep) rs || b) (or_none (has_kind (kind_byte kind.Breakpoint) rs))
are_asked kinds rs m e l t p s r (Entered place) = e ∙ or_none (has_kind (kind_byte kind.MethodEntry) rs)
are_asked kinds rs m e l t p s r (Left place v) = l ∙ ap (λ (b : Bool). has_kind (kind_byte kind.MethodExit) rs || b) (or_none (has_kind (kind_byte kind.MethodExitWithReturnValue) rs))
are_asked kinds rs m e l t p s r (Threw place thrown) = t ∙ or_none (has_kind (kind_byte kind.Exception) rs)
are_asked kinds rs m e l t p s r (Prepared class) = p ∙ or_none (has_kind (kind_byte kind.ClassPrepare) rs)
are_asked kinds rs m e l t p s r Started = s ∙ or_none (has_kind (kind_byte kind.ThreadStart) rs)
are_asked kinds rs m e l t p s r RanOut = r ∙ or_none (has_kind (kind_byte kind.ThreadDeath) rs)

-- ---- none of them

abbrev among : List EventKind → List Request → Bool
among ks rs = list_any (λ (k : EventKind). has_kind (kind_byte k) rs) ks

first_of_another : (r : Request) (rs : List Request) (ks : List EventKind) → among ks (r ∷ rs) ≡ false → list_any (λ (k : EventKind). kind_byte k == r.asked.kind) ks ≡ false
first_of_another r rs [] e = refl
first_of_another r rs (k ∷ ks) e =
    let both = or_parts (has_kind (kind_byte k) (r ∷ rs)) (among ks (r ∷ rs)) e in
    let one = or_parts (kind_byte k == r.asked.kind) (has_kind (kind_byte k) rs) both.0 in
    or_from (kind_byte k == r.asked.kind) (list_any (λ (k : EventKind). kind_byte k == r.asked.kind) ks) one.0 (first_of_another r rs ks both.1)

others_of_another : (r : Request) (rs : List Request) (ks : List EventKind) → among ks (r ∷ rs) ≡ false → among ks rs ≡ false
others_of_another r rs [] e = refl
others_of_another r rs (k ∷ ks) e =
    let both = or_parts (has_kind (kind_byte k) (r ∷ rs)) (among ks (r ∷ rs)) e in
    let one = or_parts (kind_byte k == r.asked.kind) (has_kind (kind_byte k) rs) both.0 in
    or_from (has_kind (kind_byte k) rs) (among ks rs) one.1 (others_of_another r rs ks both.1)

pub none_passes : (h : HappeningMeaning) (rs : List Request) → asks_for h.occurrence rs ≡ false → passing h rs ≡ []
none_passes h [] e = refl
none_passes h (r ∷ rs) e =
    let other : is_of_kind h.occurrence r.asked.kind ≡ false = first_of_another r rs (kinds_of h.occurrence) e in
    rw other (none_passes h rs (others_of_another r rs (kinds_of h.occurrence) e))

pub none_counted : (h : HappeningMeaning) (rs : List Request) → asks_for h.occurrence rs ≡ false → all_counted h rs ≡ rs
none_counted h [] e = refl
none_counted h (r ∷ rs) e =
    let other : is_of_kind h.occurrence r.asked.kind ≡ false = first_of_another r rs (kinds_of h.occurrence) e in
    rw other (ap (λ (xs : List Request). r ∷ xs) (none_counted h rs (others_of_another r rs (kinds_of h.occurrence) e)))

pub none_match : (h : HappeningMeaning) (rs : List Request) → list_any (passes h) rs ≡ false → passing h rs ≡ []
none_match h [] e = refl
none_match h (r ∷ rs) e =
    let both = or_parts (passes h r) (list_any (passes h) rs) e in
    rw both.0 (none_match h rs both.1)

-- ---- counting leaves the kinds

kind_counted : (h : HappeningMeaning) (r : Request) → (counted h r).asked.kind ≡ r.asked.kind
kind_counted h r = ap (λ (a : AskedRequest). a.kind) (if_asked (is_of_kind h.occurrence r.asked.kind) _ r refl)

has_counted : (h : HappeningMeaning) (byte : ℕ) (rs : List Request) → has_kind byte (all_counted h rs) ≡ has_kind byte rs
has_counted h byte [] = refl
has_counted h byte (r ∷ rs) = rw (kind_counted h r, has_counted h byte rs) refl

among_counted : (h : HappeningMeaning) (ks : List EventKind) (rs : List Request) → among ks (all_counted h rs) ≡ among ks rs
among_counted h [] rs = refl
among_counted h (k ∷ ks) rs = rw (has_counted h (kind_byte k) rs, among_counted h ks rs) refl

modifiers_counted : (h : HappeningMeaning) (r : Request) → (counted h r).asked.modifiers ≡ r.asked.modifiers
modifiers_counted h r = ap (λ (a : AskedRequest). a.modifiers) (if_asked (is_of_kind h.occurrence r.asked.kind) _ r refl)

counts_counted : (h : HappeningMeaning) (rs : List Request) → any_has_count (all_counted h rs) ≡ any_has_count rs
counts_counted h [] = refl
counts_counted h (r ∷ rs) = rw (modifiers_counted h r, counts_counted h rs) refl

pub still_asked : (kinds : KindsAsked) (h : HappeningMeaning) (rs : List Request) → AreAsked kinds rs → AreAsked kinds (all_counted h rs)
still_asked kinds h rs are = (λ o. are.0 o ∙ sym (among_counted h (kinds_of o) rs), are.1 ∙ sym (counts_counted h rs))

-- ---- no Count

kept_if : {X : Type 0} (b : Bool) (x y : X) → x ≡ y → (if b then x else y) ≡ y
kept_if true x y e = e
kept_if false x y e = refl

reached_as_before : (o : Origin) (h : HappeningMeaning) (ms : List ModifierMeaning) (ns : List ℕ) → list_any is_count ms ≡ false → reached_after o h ms ns ≡ ns
reached_as_before o h [] ns e = refl
reached_as_before o h (m ∷ ms) [] e = refl
reached_as_before o h (m ∷ ms) (n ∷ ns) e =
    let both = or_parts (is_count m) (list_any is_count ms) e in
    rw both.0 (ap (λ (xs : List ℕ). n ∷ xs) (kept_if (passes_modifier o h m (n + 1)) (reached_after o h ms ns) ns (reached_as_before o h ms ns both.1)))

as_before : (b : Bool) (r : Request) (reached : List ℕ) (origin : Origin) → reached ≡ r.reached → origin ≡ r.origin → (if b then (record { asked = r.asked; reached = reached; origin = origin }) else r) ≡ r
as_before true r reached origin e f = rw (e, f) refl
as_before false r reached origin e f = refl

unpassed_as_before : (h : HappeningMeaning) (r : Request) → has_count r ≡ false → passes h r ≡ false → counted h r ≡ r
unpassed_as_before h r e f =
    let g : (if passes h r then origin_at (place_of h.occurrence) r.origin else r.origin) ≡ r.origin = rw f refl in
    as_before (is_of_kind h.occurrence r.asked.kind) r _ _ (reached_as_before r.origin h r.asked.modifiers r.reached e) g

left_out : {X : Type 0} (b : Bool) (x : X) (xs : List X) → (if b then x ∷ xs else xs) ≡ [] → (b ≡ false) × (xs ≡ [])
left_out true x xs e = let n : length (x ∷ xs) ≡ 0 = ap length e in absurd (omega arith)
left_out false x xs e = (refl, e)

unpassed : (h : HappeningMeaning) (rs : List Request) → any_has_count rs ≡ false → passing h rs ≡ [] → all_counted h rs ≡ rs
unpassed h [] e f = refl
unpassed h (r ∷ rs) e f =
    let none = or_parts (has_count r) (any_has_count rs) e in
    let out = left_out (passes h r) r (passing h rs) f in
    rw (unpassed_as_before h r none.0 out.0) (ap (λ (xs : List Request). r ∷ xs) (unpassed h rs none.1 out.1))

none_by : (h : HappeningMeaning) (rs : List Request) → None ≡ composite_by h rs → rs ≡ []
none_by h [] e = refl
none_by h (r ∷ rs) e = absurd (false≢true (ap is_some e))

-- what gathers nothing leaves all as they are, where no request has a Count
pub ungathered : (h : HappeningMeaning) (rs : List Request) → any_has_count rs ≡ false → None ≡ gathered h rs → all_counted h rs ≡ rs
ungathered h rs e f = unpassed h rs e (none_by h (passing h rs) f)

pub nothing_found : {X : Type 0} (found : Option X) → is_some found ≡ false → None ≡ found
nothing_found None e = refl
nothing_found (Some x) e = absurd (false≢true (sym e))

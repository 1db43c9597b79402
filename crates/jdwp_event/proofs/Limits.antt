-- The modifiers of a request, one after another.
use Rattle.std.proofs.Common.{◌≡◌, ℕ, ◌<◌, ◌≤◌, zero, suc, Bool, true, false, List, [], ◌∷◌, ◌++◌, length, map, take, drop, get_or, Some, None, refl, ap, sym, ◌∙◌, append-nil, arith, add-one, if◌then◌else◌}
use Rattle.std.proofs.Math.ListN.{set}
use Rattle.std.proofs.lemmas.List.{drop_more}
use Rattle.jdwp_event.specs.declared.modifier.Modifier.{Modifier}
use Rattle.jdwp_event.specs.Modifiers.{ModifierMeaning}
use Rattle.jdwp_event.specs.ModifierMeanings.{modifier_meaning}
use Rattle.jdwp_event.specs.Occurrences.{HappeningMeaning}
use Rattle.jdwp_event.specs.Requests.{Origin, Request, new_request}
use Rattle.jdwp_event.specs.Filters.{is_of_kind, place_of, passes_all, reached_after, origin_at, counted, once_more}
use Rattle.jdwp_event.specs.RequestParts.{LimitMeaning, new_limit, limit_passes, limit_counted, limits_after, asked_modifiers, times_reached, nth_modifier}

-- a list with one element changed
pub set_is : {X : Type 0} (xs : List X) (i : ℕ) (y : X) → i < length xs → take i xs ++ y ∷ drop (suc i) xs ≡ set xs i y
set_is [] i y lt = absurd (omega arith)
set_is (x ∷ xs) zero y lt = refl
set_is (x ∷ xs) (suc i) y lt = ap (λ zs. x ∷ zs) (set_is xs i y (omega arith))

pub limits_stop : (o : Origin) (h : HappeningMeaning) (xs : List LimitMeaning) (i : ℕ) (d : LimitMeaning) → i < length xs → limit_passes o h (get_or xs i d) ≡ false
    → take i xs ++ limits_after o h (drop i xs) ≡ set xs i (limit_counted (get_or xs i d))
limits_stop o h xs i d lt stops = rw (drop_more xs i d lt, stops, add-one i) (set_is xs i (limit_counted (get_or xs i d)) lt)

asked_if : (b : Bool) (xs ys : List LimitMeaning) → asked_modifiers xs ≡ asked_modifiers ys → asked_modifiers (if b then xs else ys) ≡ asked_modifiers ys
asked_if true xs ys e = e
asked_if false xs ys e = refl

pub asked_after : (o : Origin) (h : HappeningMeaning) (ls : List LimitMeaning) → asked_modifiers (limits_after o h ls) ≡ asked_modifiers ls
asked_after o h [] = refl
asked_after o h (l ∷ ls) = ap (λ (ms : List ModifierMeaning). l.modifier ∷ ms) (asked_if (limit_passes o h l) (limits_after o h ls) ls (asked_after o h ls))

times_if : (b : Bool) (xs ys : List LimitMeaning) (zs : List ℕ) → times_reached xs ≡ zs → times_reached (if b then xs else ys) ≡ (if b then zs else times_reached ys)
times_if true xs ys zs e = e
times_if false xs ys zs e = refl

pub times_after : (o : Origin) (h : HappeningMeaning) (ls : List LimitMeaning) → times_reached (limits_after o h ls) ≡ reached_after o h (asked_modifiers ls) (times_reached ls)
times_after o h [] = refl
times_after o h (l ∷ ls) = ap (λ (ns : List ℕ). once_more l.modifier l.reached ∷ ns) (times_if (limit_passes o h l) (limits_after o h ls) ls _ (times_after o h ls))

-- ---- a request

abbrev pub request_of : ℕ → ℕ → ℕ → List LimitMeaning → Origin → Request
request_of id kind policy ls o = record {
  asked = record { id = id; kind = kind; policy = policy; modifiers = asked_modifiers ls };
  reached = times_reached ls;
  origin = o;
}

pub count_all : (h : HappeningMeaning) (id kind policy : ℕ) (now ls new : List LimitMeaning) (o p : Origin) → now ≡ ls → new ≡ limits_after o h now
    → is_of_kind h.occurrence kind ≡ true → passes_all o h (asked_modifiers now) (times_reached now) ≡ true
    → origin_at (place_of h.occurrence) o ≡ p → request_of id kind policy new p ≡ counted h (request_of id kind policy ls o)
count_all h id kind policy now ls new o p is after k all at =
    let e : passes_all o h (asked_modifiers ls) (times_reached ls) ≡ true = rw (← is) all in
    let f : new ≡ limits_after o h ls = rw (← is) after in
    rw (f, k, e, at, asked_after o h ls, times_after o h ls) refl

pub count_some : (h : HappeningMeaning) (id kind policy : ℕ) (now ls new : List LimitMeaning) (o : Origin) → now ≡ ls → new ≡ limits_after o h now
    → is_of_kind h.occurrence kind ≡ true → passes_all o h (asked_modifiers now) (times_reached now) ≡ false
    → request_of id kind policy new o ≡ counted h (request_of id kind policy ls o)
count_some h id kind policy now ls new o is after k some =
    let e : passes_all o h (asked_modifiers ls) (times_reached ls) ≡ false = rw (← is) some in
    let f : new ≡ limits_after o h ls = rw (← is) after in
    rw (f, k, e, asked_after o h ls, times_after o h ls) refl

pub count_none : (h : HappeningMeaning) (id kind policy : ℕ) (ls : List LimitMeaning) (o : Origin) → is_of_kind h.occurrence kind ≡ false
    → request_of id kind policy ls o ≡ counted h (request_of id kind policy ls o)
count_none h id kind policy ls o k = rw k refl

-- ---- a modifier by its place

pub modifier_there : (ls : List LimitMeaning) (i : ℕ) (d : LimitMeaning) → i < length ls → Some (get_or ls i d).modifier ≡ nth_modifier (asked_modifiers ls) i
modifier_there [] i d lt = absurd (omega arith)
modifier_there (l ∷ ls) zero d lt = refl
modifier_there (l ∷ ls) (suc i) d lt = modifier_there ls i d (omega arith)

pub modifier_past : (ls : List LimitMeaning) (i : ℕ) → length ls ≤ i → None ≡ nth_modifier (asked_modifiers ls) i
modifier_past [] i le = refl
modifier_past (l ∷ ls) zero le = absurd (omega arith)
modifier_past (l ∷ ls) (suc i) le = modifier_past ls i (omega arith)

-- ---- new limits

asked_new : (ms : List ModifierMeaning) → asked_modifiers (map new_limit ms) ≡ ms
asked_new [] = refl
asked_new (m ∷ ms) = ap (λ (ns : List ModifierMeaning). m ∷ ns) (asked_new ms)

times_new : (ms : List ModifierMeaning) → times_reached (map new_limit ms) ≡ map (λ (m : ModifierMeaning). 0) ms
times_new [] = refl
times_new (m ∷ ms) = ap (λ (ns : List ℕ). 0 ∷ ns) (times_new ms)

pub new_is : (id kind policy : ℕ) (ls : List LimitMeaning) (rest : List Modifier) (ms : List ModifierMeaning) (o : Origin) → rest ≡ [] → ls ++ map new_limit (map modifier_meaning rest) ≡ map new_limit ms
    → request_of id kind policy ls o ≡ new_request (record { id = id; kind = kind; policy = policy; modifiers = ms }) o
new_is id kind policy ls rest ms o none e =
    let f : ls ++ [] ≡ map new_limit ms = rw none at e in
    let g : ls ≡ map new_limit ms = sym (append-nil ls) ∙ f in
    rw (g, asked_new ms, times_new ms) refl

pub nothing_left : {X : Type 0} (xs : List X) → length xs ≡ 0 → xs ≡ []
nothing_left [] e = refl
nothing_left (x ∷ xs) e = absurd (omega arith)

-- facts on tests, options and lists
use Rattle.std.proofs.Common.{◌≡◌, ℕ, pos, ◌==◌, ◌+◌, ◌<◌, ◌≤◌, Bool, true, false, ◌||◌, cond, not, Some, List, [], ◌∷◌, ◌++◌, map, refl, ◌∙◌, ap, arith, is_some}
use Rattle.std.specs.List.{list_any, filter}
use Rattle.std.specs.Ordering.{int_eq}
use Rattle.std.proofs.lemmas.Bool.Decides.{Decides-int_eq}
use Rattle.std.proofs.lemmas.Bool.{false_from_ne_true}
use Rattle.std.proofs.Math.Nat.{min-eq_left}
use Rattle.jdwp_layout.specs.Meanings.{Object, DatumMeaning, Many}
use Rattle.jdwp_layout.specs.declared.answer.Answer.TheVariants.{Data}
use Rattle.jdwp_event.specs.Requests.{AskedRequest}
use Rattle.jdwp_machine.specs.Meanings.{has}
use Rattle.jdwp_debuggee.specs.Answers.{rising, all_threads}
use Rattle.jdwp_debuggee.specs.State.{State, ids, count_of}
use Rattle.jdwp_debuggee.specs.Facts.{AreBelow}
use Rattle.jdwp_debuggee.specs.ThreadLaws.{has-count, has-rising}
use Rattle.jdwp_mirror.specs.Mirror.{Kept, kept, all_kept, has_other_id, lists, begins_with_object, one_more, COUNT_MOST}

pub more-exact : (j : ℕ) → j + 1 ≤ COUNT_MOST → one_more j ≡ j + 1
more-exact j h = min-eq_left h

pub some-same : (t u : ℕ) → Some t ≡ Some u → t ≡ u
some-same t u h = cc

-- ---- requests, as the mirror keeps them

pub kept-append : (xs ys : List AskedRequest) → all_kept (xs ++ ys) ≡ all_kept xs ++ all_kept ys
kept-append [] ys = refl
kept-append (x ∷ xs) ys = ap (λ l. kept x ∷ l) (kept-append xs ys)

pub kept-filter : (p : Kept → Bool) (rs : List AskedRequest) → all_kept (filter (λ (r : AskedRequest). p (kept r)) rs) ≡ filter p (all_kept rs)
kept-filter p [] = refl
kept-filter p (r ∷ rs) =
    elim (p (kept r)) as (λ b. all_kept (cond b (r ∷ filter (λ (x : AskedRequest). p (kept x)) rs) (filter (λ (x : AskedRequest). p (kept x)) rs)) ≡ cond b (kept r ∷ filter p (all_kept rs)) (filter p (all_kept rs))) [
      | true ↦ ap (λ l. kept r ∷ l) (kept-filter p rs)
      | false ↦ kept-filter p rs
    ]

other-id : (a n : ℕ) → a < n → int_eq (pos a) (pos n) ≡ false
other-id a n h = false_from_ne_true (int_eq (pos a) (pos n)) (λ k. let e : pos a ≡ pos n = (Decides-int_eq (pos a) (pos n)).0 k in let f : a ≡ n = cc in absurd (omega arith))

pub kept-below : (n : ℕ) (rs : List AskedRequest) → AreBelow n rs → filter (has_other_id (pos n)) (all_kept rs) ≡ all_kept rs
kept-below n [] h = refl
kept-below n (r ∷ rs) h =
    ap (λ b. cond (not b) (kept r ∷ filter (has_other_id (pos n)) (all_kept rs)) (filter (has_other_id (pos n)) (all_kept rs))) (other-id r.id n h.0)
    ∙ ap (λ l. kept r ∷ l) (kept-below n rs h.1)

-- ---- a list of all threads

listed-has : (xs : List ℕ) (t : ℕ) → list_any (begins_with_object t) (map (λ (x : ℕ). Object x ∷ []) xs) ≡ has xs t
listed-has [] t = refl
listed-has (x ∷ xs) t = ap (λ b. (x == t) || b) (listed-has xs t)

pub lists-alive : (state : State) (content : List DatumMeaning) (t : ℕ) → Data content ≡ all_threads state → lists content t ≡ is_some (count_of state t)
lists-alive state content t e =
    let f : content ≡ Many (map (λ (x : ℕ). Object x ∷ []) (rising (ids state.threads))) ∷ [] = cc in
    ap (λ c. lists c t) f ∙ (listed-has (rising (ids state.threads)) t ∙ (has-rising (ids state.threads) t ∙ has-count state.threads t))

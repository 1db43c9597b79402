-- Messages that wait, and their data one behind the other.
use Rattle.std.proofs.Common.{◌≡◌, ℕ, ◌+◌, ◌-◌, ◌<◌, ◌≤◌, List, [], ◌∷◌, ◌++◌, length, take, drop, get_or, refl, ap, ◌∙◌, arith}
use Rattle.std.proofs.lemmas.List.{length-drop, take_all, take-append-le, drop-append-le, drop_more}
use Rattle.std.proofs.lemmas.List.Sums.{sum_by-cons, sum_by_push, sum_by-drop_more}
use Rattle.jdwp_show.specs.Items.{Item}
use Rattle.jdwp_judge.specs.declared.entry.Entry.{Entry}
use Rattle.jdwp_judge.specs.Entries.{item_with, kept_with, total, all_with}
use Rattle.jdwp_judge.specs.Heard.{Kept}

pub length-all_with : (entries : List Entry) (bodies : List ℕ) → length (all_with entries bodies) ≡ length entries
length-all_with [] bodies = refl
length-all_with (e ∷ entries) bodies = (let rest = length-all_with entries (drop e.length bodies) in omega (arith, rest))

total-cons : (e : Entry) (entries : List Entry) → total (e ∷ entries) ≡ e.length + total entries
total-cons e entries = sum_by-cons (λ (x : Entry). x.length) e entries

pub total-push : (entries : List Entry) (e : Entry) → total (entries ++ e ∷ []) ≡ total entries + e.length
total-push entries e = sum_by_push (λ (x : Entry). x.length) entries e

-- ---- one message more

push_none : (bodies body : List ℕ) (e : Entry) → length bodies ≡ 0 → e.length ≡ length body → all_with (e ∷ []) (bodies ++ body) ≡ kept_with e body ∷ []
push_none [] body e empty long = ap (λ (l : List ℕ). kept_with e l ∷ []) (take_all e.length body (omega (arith, long)))
push_none (x ∷ bodies) body e empty long = absurd (omega (arith, empty))

pub all_with-push : (entries : List Entry) (bodies body : List ℕ) (e : Entry) → total entries ≡ length bodies → e.length ≡ length body → all_with (entries ++ e ∷ []) (bodies ++ body) ≡ all_with entries bodies ++ kept_with e body ∷ []
all_with-push [] bodies body e fits long = push_none bodies body e (omega (arith, fits)) long
all_with-push (x ∷ entries) bodies body e fits long =
    let sum = total-cons x entries in
    let within : x.length ≤ length bodies = omega (arith, sum, fits) in
    let rest : total entries ≡ length (drop x.length bodies) = omega (arith, sum, fits, length-drop x.length bodies) in
    ap (λ (front : List ℕ). kept_with x front ∷ all_with (entries ++ e ∷ []) (drop x.length (bodies ++ body))) (take-append-le x.length bodies body within)
    ∙ ap (λ (l : List ℕ). kept_with x (take x.length bodies) ∷ all_with (entries ++ e ∷ []) l) (drop-append-le x.length bodies body within)
    ∙ ap (λ (l : List Kept). kept_with x (take x.length bodies) ∷ l) (all_with-push entries (drop x.length bodies) body e rest long)

pub pushed : (old new : List Entry) (front all body : List ℕ) (e : Entry) (x : Item) → total old ≡ length front → new ≡ old ++ e ∷ [] → all ≡ front ++ body → e.length ≡ length body → item_with e body ≡ x
    → all_with new all ≡ all_with old front ++ record { item = x; begun = e.begun; waits = e.waits } ∷ []
pushed old new front all body e x fits entries bodies long is =
    rw (entries, bodies) (all_with-push old front body e fits long) ∙ ap (λ (y : Item). all_with old front ++ record { item = y; begun = e.begun; waits = e.waits } ∷ []) is

-- ---- the loop

-- the next one, and its data
pub next_with : (entries : List Entry) (i : ℕ) (d : Entry) (rest front back : List ℕ) → i < length entries → front ≡ take (get_or entries i d).length rest → back ≡ drop (get_or entries i d).length rest
    → all_with (drop i entries) rest ≡ kept_with (get_or entries i d) front ∷ all_with (drop (i + 1) entries) back
next_with entries i d rest front back inside f b = rw (f, b) (ap (λ (l : List Entry). all_with l rest) (drop_more entries i d inside))

pub next_fits : (entries : List Entry) (i : ℕ) (d : Entry) (rest back : List ℕ) → i < length entries → total (drop i entries) ≡ length rest → back ≡ drop (get_or entries i d).length rest → total (drop (i + 1) entries) ≡ length back
next_fits entries i d rest back inside fits b =
    let sum : total (drop i entries) ≡ (get_or entries i d).length + total (drop (i + 1) entries) = sum_by-drop_more (λ (x : Entry). x.length) entries i d inside in
    let left : length back ≡ length rest - (get_or entries i d).length = ap (λ (l : List ℕ). length l) b ∙ length-drop (get_or entries i d).length rest in
    omega (arith, sum, left, fits)

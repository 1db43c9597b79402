-- Proofs that lists of what is sound fit a packet.
use Rattle.std.proofs.Common.{◌≡◌, ℕ, zero, suc, ◌^◌, ◌≤◌, Bool, true, false, cond, nat_lt, List, [], ◌∷◌, map, filter, take, drop, length, refl, arith, Option, None}
use Rattle.std.proofs.lemmas.Bool.{lt-ltb}
use Rattle.std.proofs.lemmas.List.{length-map}
use Rattle.std.specs.List.{AllByRecursion}
use Rattle.jdwp_wire.specs.declared.data_fault.DataFault.{DataFault}
use Rattle.jdwp_wire.specs.Text.{text_refusal}
use Rattle.jdwp_wire.specs.Listed.{first_refusal, list_refusal}
use Rattle.jdwp_script_machine.specs.Sound.{IsShort}

short_counts : (n : ℕ) → n ≤ 65_536 → nat_lt n (2 ^ 31) ≡ true
short_counts n h = lt-ltb n (2 ^ 31) (omega arith)

pub short_text : (t : List ℕ) → IsShort t → text_refusal t ≡ None
short_text t h = rw (short_counts (length t) h) refl

none_first : {X : Type 0} (refusal : X → Option DataFault) (xs : List X) → AllByRecursion (λ (x : X). refusal x ≡ None) xs → first_refusal refusal xs ≡ None
none_first refusal [] all = refl
none_first refusal (x ∷ xs) all = rw (all.0, none_first refusal xs all.1) refl

pub counted_fits : {X : Type 0} (refusal : X → Option DataFault) (xs : List X) → nat_lt (length xs) (2 ^ 31) ≡ true → AllByRecursion (λ (x : X). refusal x ≡ None) xs → list_refusal refusal xs ≡ None
counted_fits refusal xs few all = rw (few, none_first refusal xs all) refl

pub short_fits : {X : Type 0} (refusal : X → Option DataFault) (xs : List X) → IsShort xs → AllByRecursion (λ (x : X). refusal x ≡ None) xs → list_refusal refusal xs ≡ None
short_fits refusal xs few all = counted_fits refusal xs (short_counts (length xs) few) all

pub each_fits : {A X : Type 0} (P : A → Type 0) (refusal : X → Option DataFault) (entry : A → X) → ((a : A) → P a → refusal (entry a) ≡ None) → (xs : List A) → AllByRecursion P xs → AllByRecursion (λ (x : X). refusal x ≡ None) (map entry xs)
each_fits P refusal entry fits [] all = tt
each_fits P refusal entry fits (x ∷ xs) all = (fits x all.0, each_fits P refusal entry fits xs all.1)

-- the entries of a short list, each of which fits
pub entries_fit : {A X : Type 0} (P : A → Type 0) (refusal : X → Option DataFault) (entry : A → X) → ((a : A) → P a → refusal (entry a) ≡ None) → (xs : List A) → IsShort xs → AllByRecursion P xs → list_refusal refusal (map entry xs) ≡ None
entries_fit P refusal entry fits xs few all = short_fits refusal (map entry xs) (rw (length-map xs entry) few) (each_fits P refusal entry fits xs all)

pub all_filter : {A : Type 0} (P : A → Type 0) (test : A → Bool) (xs : List A) → AllByRecursion P xs → AllByRecursion P (filter test xs)
all_filter P test [] all = tt
all_filter P test (x ∷ xs) all = elim (test x) as (λ (b : Bool). AllByRecursion P (cond b (x ∷ filter test xs) (filter test xs))) [ true ↦ (all.0, all_filter P test xs all.1) | false ↦ all_filter P test xs all.1 ]

length_filter : {A : Type 0} (test : A → Bool) (xs : List A) (n : ℕ) → length xs ≤ n → length (filter test xs) ≤ n
length_filter test [] n h = h
length_filter test (x ∷ xs) n h = elim (test x) as (λ (b : Bool). length (cond b (x ∷ filter test xs) (filter test xs)) ≤ n) [
  | true ↦ let more = length_filter test xs (length xs) (omega arith) in omega arith
  | false ↦ length_filter test xs n (omega arith)
]

pub short_filter : {A : Type 0} (test : A → Bool) (xs : List A) → IsShort xs → IsShort (filter test xs)
short_filter test xs h = length_filter test xs 65_536 h

pub all_take : {A : Type 0} (P : A → Type 0) (n : ℕ) (xs : List A) → AllByRecursion P xs → AllByRecursion P (take n xs)
all_take P zero xs all = tt
all_take P (suc n) [] all = tt
all_take P (suc n) (x ∷ xs) all = (all.0, all_take P n xs all.1)

pub all_drop : {A : Type 0} (P : A → Type 0) (n : ℕ) (xs : List A) → AllByRecursion P xs → AllByRecursion P (drop n xs)
all_drop P zero xs all = all
all_drop P (suc n) [] all = tt
all_drop P (suc n) (x ∷ xs) all = all_drop P n xs all.1

pub length_take : {A : Type 0} (n : ℕ) (xs : List A) → length (take n xs) ≤ length xs
length_take zero xs = omega arith
length_take (suc n) [] = omega arith
length_take (suc n) (x ∷ xs) = let l = length_take n xs in omega arith

pub length_drop : {A : Type 0} (n : ℕ) (xs : List A) → length (drop n xs) ≤ length xs
length_drop zero xs = omega arith
length_drop (suc n) [] = omega arith
length_drop (suc n) (x ∷ xs) = let l = length_drop n xs in omega arith

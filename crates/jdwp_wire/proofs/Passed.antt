-- Reading that keeps nothing: what follows a value is what follows its bytes.
use Rattle.std.proofs.Common.{◌≡◌, ℕ, suc, ◌+◌, ◌-◌, ◌<◌, List, ◌∷◌, length, get_or, drop, Result, Ok, Err, refl, sym, ap, ◌∙◌, arith}
use Rattle.std.proofs.lemmas.List.{drop_more, get_or_default}
use Rattle.jdwp_wire.specs.declared.data_fault.DataFault.{DataFault}
use Rattle.jdwp_wire.specs.Reading.{◌>>=◌, Reader, Fails, passed}
use Rattle.jdwp_wire.specs.Each.{each_at, times_at}
use Rattle.jdwp_wire.proofs.Loop.{fails_along}

pub passed_mapped : {A B : Type 0} (make : A → B) (decoded : Result (A × List ℕ) DataFault) → passed (decoded >>= λ x. Ok (make x.0, x.1)) ≡ passed decoded
passed_mapped make (Ok x) = refl
passed_mapped make (Err e) = refl

-- ---- one after another

passed_push : {X : Type 0} (x : X) (decoded : Result (List X × List ℕ) DataFault) → passed (decoded >>= λ xs. Ok (x ∷ xs.0, xs.1)) ≡ passed decoded
passed_push x (Ok xs) = refl
passed_push x (Err e) = refl

passed_cons : {X : Type 0} (decoded : Result (X × List ℕ) DataFault) (more : List ℕ → Result (List X × List ℕ) DataFault)
    → passed (decoded >>= λ x. more x.1 >>= λ xs. Ok (x.0 ∷ xs.0, xs.1)) ≡ (passed decoded >>= λ rest. passed (more rest))
passed_cons (Ok x) more = passed_push x.0 (more x.1)
passed_cons (Err e) more = refl

module _ {X : Type 0} (decode : Reader X) where
  times_step : (count i : ℕ) (bytes : List ℕ) → i < count → passed (times_at decode (count - i) bytes) ≡ (passed (decode bytes) >>= λ rest. passed (times_at decode (count - (i + 1)) rest))
  times_step count i bytes lt =
      let k : count - i ≡ suc (count - (i + 1)) = omega arith in
      rw k (passed_cons (decode bytes) (times_at decode (count - (i + 1))))

  pub times_go_on : (count i : ℕ) (bytes after : List ℕ) (total : Result (List ℕ) DataFault) → i < count → passed (decode bytes) ≡ Ok after
      → passed (times_at decode (count - i) bytes) ≡ total → passed (times_at decode (count - (i + 1)) after) ≡ total
  times_go_on count i bytes after total lt h so_far =
      let one : passed (times_at decode (count - i) bytes) ≡ passed (times_at decode (count - (i + 1)) after) = times_step count i bytes lt ∙ ap (λ r. r >>= λ rest. passed (times_at decode (count - (i + 1)) rest)) h in
      sym one ∙ so_far

  pub times_end : (e : DataFault) (count i : ℕ) (bytes : List ℕ) (total : Result (List ℕ) DataFault) → i < count → Fails e (passed (decode bytes))
      → passed (times_at decode (count - i) bytes) ≡ total → Fails e total
  times_end e count i bytes total lt h so_far =
      fails_along e (passed (decode bytes)) total (λ f is. sym so_far ∙ times_step count i bytes lt ∙ ap (λ r. r >>= λ rest. passed (times_at decode (count - (i + 1)) rest)) is) h

-- a key is the element at its place, whatever the default
pub each_at_place : {A : Type 0} (ks : List A) (i : ℕ) (d : A) → i < length ks → get_or ks i d ≡ get_or ks i (get_or ks i d)
each_at_place ks i d lt = get_or_default ks i d (get_or ks i d) lt

module _ {A X : Type 0} (decode : A → Reader X) where
  each_step : (ks : List A) (i : ℕ) (k : A) (bytes : List ℕ) → i < length ks → k ≡ get_or ks i k → passed (each_at decode (drop i ks) bytes) ≡ (passed (decode k bytes) >>= λ rest. passed (each_at decode (drop (i + 1) ks) rest))
  each_step ks i k bytes lt is =
      let left : drop i ks ≡ k ∷ drop (i + 1) ks = drop_more ks i k lt ∙ ap (λ (x : A). x ∷ drop (i + 1) ks) (sym is) in
      rw left (passed_cons (decode k bytes) (each_at decode (drop (i + 1) ks)))

  pub each_go_on : (ks : List A) (i : ℕ) (k : A) (bytes after : List ℕ) (total : Result (List ℕ) DataFault) → i < length ks → k ≡ get_or ks i k → passed (decode k bytes) ≡ Ok after
      → passed (each_at decode (drop i ks) bytes) ≡ total → passed (each_at decode (drop (i + 1) ks) after) ≡ total
  each_go_on ks i k bytes after total lt is h so_far =
      let one : passed (each_at decode (drop i ks) bytes) ≡ passed (each_at decode (drop (i + 1) ks) after) = each_step ks i k bytes lt is ∙ ap (λ r. r >>= λ rest. passed (each_at decode (drop (i + 1) ks) rest)) h in
      sym one ∙ so_far

  pub each_end : (e : DataFault) (ks : List A) (i : ℕ) (k : A) (bytes : List ℕ) (total : Result (List ℕ) DataFault) → i < length ks → k ≡ get_or ks i k → Fails e (passed (decode k bytes))
      → passed (each_at decode (drop i ks) bytes) ≡ total → Fails e total
  each_end e ks i k bytes total lt is h so_far =
      fails_along e (passed (decode k bytes)) total (λ f fault. sym so_far ∙ each_step ks i k bytes lt is ∙ ap (λ r. r >>= λ rest. passed (each_at decode (drop (i + 1) ks) rest)) fault) h

-- ---- the verdict

-- a value was read
pub value_of : {X : Type 0} (decoded : Result (X × List ℕ) DataFault) (rest : List ℕ) → passed decoded ≡ Ok rest → (x : X) × (decoded ≡ Ok (x, rest))
value_of {X = X} (Ok (x, after)) rest e = let is : after ≡ rest = cc in (x, ap (λ (r : List ℕ). Ok (x, r)) is)
value_of (Err f) rest e = absurd cc

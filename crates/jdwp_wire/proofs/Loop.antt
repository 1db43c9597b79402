-- Reading one after the other, as a loop does.
use Rattle.std.proofs.Common.{◌≡◌, ℕ, suc, ◌-◌, ◌+◌, ◌≤◌, ◌<◌, List, [], ◌∷◌, ◌++◌, length, get_or, drop, Result, Ok, Err, refl, sym, ap, ◌∙◌, append_assoc, arith}
use Rattle.std.proofs.lemmas.List.{append-nil, drop_more, drop_all}
use Rattle.jdwp_wire.specs.declared.data_fault.DataFault.{DataFault}
use Rattle.jdwp_wire.specs.declared.data_fault.DataFault.TheVariants.{Short, Extra, BadTag, NegativeCount, NotUtf8, BadSize, IdTooWide, NoMemory}
use Rattle.jdwp_wire.specs.Reading.{◌>>=◌, Fails}
use Rattle.jdwp_wire.specs.Each.{each_at, times_at, with_front}

pub regroup : {X : Type 0} (front : List X) (n : X) (read : Result (List X × List ℕ) DataFault) → with_front front (read >>= λ x. Ok (n ∷ x.0, x.1)) ≡ with_front (front ++ n ∷ []) read
regroup {X = X} front n (Ok x) = ap (λ (ns : List X). Ok (ns, x.1)) (simp append_assoc)
regroup front n (Err f) = refl

pub fails_along : {X Y : Type 0} (e : DataFault) (read : Result X DataFault) (total : Result Y DataFault) → ((f : DataFault) → read ≡ Err f → total ≡ Err f) → Fails e read → Fails e total
fails_along (Short n) read total h f = h (Short n) f
fails_along (Extra n) read total h f = h (Extra n) f
fails_along BadTag read total h f = h BadTag f
fails_along NegativeCount read total h f = h NegativeCount f
fails_along NotUtf8 read total h f = h NotUtf8 f
fails_along BadSize read total h f = h BadSize f
fails_along IdTooWide read total h f = h IdTooWide f
fails_along NoMemory read total h f = tt

module _ {X : Type 0} (read : List ℕ → Result (X × List ℕ) DataFault) where
  pub times_go_on : (front : List X) (count i : ℕ) (bytes : List ℕ) (n : X) (after : List ℕ) (total : Result (List X × List ℕ) DataFault) → i < count → read bytes ≡ Ok (n, after)
      → with_front front (times_at read (count - i) bytes) ≡ total → with_front (front ++ n ∷ []) (times_at read (count - (i + 1)) after) ≡ total
  times_go_on front count i bytes n after total lt h so_far =
      let k : count - i ≡ suc (count - (i + 1)) = omega arith in
      let one : with_front front (times_at read (count - i) bytes) ≡ with_front (front ++ n ∷ []) (times_at read (count - (i + 1)) after) = rw (k, h) (regroup front n (times_at read (count - (i + 1)) after)) in
      sym one ∙ so_far

  pub times_end : (e : DataFault) (front : List X) (count i : ℕ) (bytes : List ℕ) (total : Result (List X × List ℕ) DataFault) → i < count → Fails e (read bytes)
      → with_front front (times_at read (count - i) bytes) ≡ total → Fails e total
  times_end e front count i bytes total lt h so_far =
      let k : count - i ≡ suc (count - (i + 1)) = omega arith in
      fails_along e (read bytes) total (λ f is. let one : with_front front (times_at read (count - i) bytes) ≡ Err f = rw (k, is) refl in sym so_far ∙ one) h

  pub times_done : (front : List X) (count i : ℕ) (bytes : List ℕ) (total : Result (List X × List ℕ) DataFault) → count ≤ i → with_front front (times_at read (count - i) bytes) ≡ total → total ≡ Ok (front, bytes)
  times_done front count i bytes total le so_far =
      let k : count - i ≡ 0 = omega arith in
      let one : with_front front (times_at read (count - i) bytes) ≡ Ok (front, bytes) = rw k (ap (λ (ns : List X). Ok (ns, bytes)) (append-nil front)) in
      sym so_far ∙ one

module _ {A X : Type 0} (read : A → List ℕ → Result (X × List ℕ) DataFault) where
  pub each_go_on : (front : List X) (ks : List A) (i : ℕ) (k : A) (bytes : List ℕ) (n : X) (after : List ℕ) (total : Result (List X × List ℕ) DataFault) → i < length ks → k ≡ get_or ks i k → read k bytes ≡ Ok (n, after)
      → with_front front (each_at read (drop i ks) bytes) ≡ total → with_front (front ++ n ∷ []) (each_at read (drop (i + 1) ks) after) ≡ total
  each_go_on front ks i k bytes n after total lt is h so_far =
      let one : with_front front (each_at read (drop i ks) bytes) ≡ with_front (front ++ n ∷ []) (each_at read (drop (i + 1) ks) after) = rw (drop_more ks i k lt, ← is, h) (regroup front n (each_at read (drop (i + 1) ks) after)) in
      sym one ∙ so_far

  pub each_end : (e : DataFault) (front : List X) (ks : List A) (i : ℕ) (k : A) (bytes : List ℕ) (total : Result (List X × List ℕ) DataFault) → i < length ks → k ≡ get_or ks i k → Fails e (read k bytes)
      → with_front front (each_at read (drop i ks) bytes) ≡ total → Fails e total
  each_end e front ks i k bytes total lt is h so_far =
      fails_along e (read k bytes) total (λ f fault. let one : with_front front (each_at read (drop i ks) bytes) ≡ Err f = rw (drop_more ks i k lt, ← is, fault) refl in sym so_far ∙ one) h

  pub each_done : (front : List X) (ks : List A) (i : ℕ) (bytes : List ℕ) (total : Result (List X × List ℕ) DataFault) → length ks ≤ i → with_front front (each_at read (drop i ks) bytes) ≡ total → total ≡ Ok (front, bytes)
  each_done front ks i bytes total le so_far =
      let one : with_front front (each_at read (drop i ks) bytes) ≡ Ok (front, bytes) = rw (drop_all i ks le) (ap (λ (ns : List X). Ok (ns, bytes)) (append-nil front)) in
      sym so_far ∙ one

-- Lists of a JSON value, and reading each of their entries as a loop does.
use Rattle.std.proofs.Common.{◌≡◌, ℕ, Bool, ◌||◌, ◌+◌, ◌≤◌, ◌<◌, List, [], ◌∷◌, ◌++◌, length, get_or, drop, map, Result, Ok, Err, refl, sym, ap, ◌∙◌, append_assoc}
use Rattle.std.specs.List.{list_any}
use Rattle.std.proofs.lemmas.List.{append-nil, drop_more, drop_all, get_or-map}
use Rattle.serde_json.specs.Data.{Data}
use Rattle.serde_json.specs.View.{items_of}
use Rattle.jdwp_script.specs.declared.fault.ScriptFault.{ScriptFault}
use Rattle.jdwp_script.specs.declared.fault.ScriptFault.TheVariants.{NotJson, Missing, IdTwice, IdTooWide, BadReference, OverLimit, NoMemory}
use Rattle.jdwp_script.specs.Reading.{◌>>=◌, Fails, each_of, listed}

pub listed-items_of : (ds : List Data) → listed (items_of ds) ≡ ds
listed-items_of [] = refl
listed-items_of (d ∷ ds) = ap (λ (es : List Data). d ∷ es) (listed-items_of ds)

pub at_map : {A B : Type 0} (f : A → B) (xs : List A) (i : ℕ) (x : A) → i < length xs → x ≡ get_or xs i x → f x ≡ get_or (map f xs) i (f x)
at_map f xs i x lt is = ap f is ∙ sym (get_or-map f xs i x (f x) lt)

pub any_map : {A B : Type 0} (f : A → B) (p : B → Bool) (xs : List A) → list_any p (map f xs) ≡ list_any (λ x. p (f x)) xs
any_map f p [] = refl
any_map f p (x ∷ xs) = ap (λ b. p (f x) || b) (any_map f p xs)

-- what was read before, and what is still read
abbrev pub with_front : {X : Type 0} → List X → Result (List X) ScriptFault → Result (List X) ScriptFault
with_front front read = read >>= λ xs. Ok (front ++ xs)

pub regroup : {X : Type 0} (front : List X) (x : X) (read : Result (List X) ScriptFault) → with_front front (read >>= λ xs. Ok (x ∷ xs)) ≡ with_front (front ++ x ∷ []) read
regroup {X = X} front x (Ok xs) = ap (λ (ns : List X). Ok ns) (simp append_assoc)
regroup front x (Err f) = refl

pub fails_along : {X Y : Type 0} (e : ScriptFault) (read : Result X ScriptFault) (total : Result Y ScriptFault) → ((f : ScriptFault) → read ≡ Err f → total ≡ Err f) → Fails e read → Fails e total
fails_along NotJson read total h f = h NotJson f
fails_along (Missing m) read total h f = h (Missing m) f
fails_along IdTwice read total h f = h IdTwice f
fails_along IdTooWide read total h f = h IdTooWide f
fails_along BadReference read total h f = h BadReference f
fails_along OverLimit read total h f = h OverLimit f
fails_along NoMemory read total h f = tt

module _ {X : Type 0} (read : Data → Result X ScriptFault) where
  pub each_go_on : (front : List X) (ks : List Data) (i : ℕ) (k : Data) (x : X) (total : Result (List X) ScriptFault) → i < length ks → k ≡ get_or ks i k → read k ≡ Ok x
      → with_front front (each_of read (drop i ks)) ≡ total → with_front (front ++ x ∷ []) (each_of read (drop (i + 1) ks)) ≡ total
  each_go_on front ks i k x total lt is h so_far =
      let one : with_front front (each_of read (drop i ks)) ≡ with_front (front ++ x ∷ []) (each_of read (drop (i + 1) ks)) = rw (drop_more ks i k lt, ← is, h) (regroup front x (each_of read (drop (i + 1) ks))) in
      sym one ∙ so_far

  pub each_end : (e : ScriptFault) (front : List X) (ks : List Data) (i : ℕ) (k : Data) (total : Result (List X) ScriptFault) → i < length ks → k ≡ get_or ks i k → Fails e (read k)
      → with_front front (each_of read (drop i ks)) ≡ total → Fails e total
  each_end e front ks i k total lt is h so_far =
      fails_along e (read k) total (λ f fault. let one : with_front front (each_of read (drop i ks)) ≡ Err f = rw (drop_more ks i k lt, ← is, fault) refl in sym so_far ∙ one) h

  pub each_done : (front : List X) (ks : List Data) (i : ℕ) (total : Result (List X) ScriptFault) → length ks ≤ i → with_front front (each_of read (drop i ks)) ≡ total → total ≡ Ok front
  each_done front ks i total le so_far =
      let one : with_front front (each_of read (drop i ks)) ≡ Ok front = rw (drop_all i ks le) (ap (λ (ns : List X). Ok ns) (append-nil front)) in
      sym so_far ∙ one

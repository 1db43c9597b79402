-- Reading several items, one after another, gives exactly what bytes encode.
use Rattle.std.specs.Prelude.{◌≡◌, ℕ, zero, suc, ◌<◌, List, [], ◌∷◌, ◌++◌, length, Result, Ok, Err, refl}
use Rattle.std.proofs.Common.{ap, sym, ◌∙◌, arith, subst, append_assoc, inl, inr}
use Rattle.jdwp_wire.specs.declared.data_fault.DataFault.{DataFault}
use Rattle.jdwp_wire.specs.Reading.{Reader, Encoding, Faults, ◌>>=◌}
use Rattle.jdwp_wire.specs.Each.{each_at, EncodesEach, EachFault, times_at, EncodesAll, TimesFault}
use Rattle.jdwp_wire.specs.Codes.{Found, Again, Blamed, Judged, Codes, bind_ok, bind_err, ok_is, err_is, joined, IsBytes-rest}

abbrev pushed : {X : Type 0} → X → Result (List X × List ℕ) DataFault → Result (List X × List ℕ) DataFault
pushed x r = r >>= λ xs. Ok (x ∷ xs.0, xs.1)

rest_err : {X : Type 0} (r : Result (List X × List ℕ) DataFault) (x : X) (f : DataFault) → pushed x r ≡ Err f → r ≡ Err f
rest_err (Ok xs) x f e = absurd cc
rest_err {X = X} (Err d) x f e = ap (λ (y : DataFault). Err y) (err_is (List X × List ℕ) d f e)

push_err : {X : Type 0} (r : Result (List X × List ℕ) DataFault) (x : X) (f : DataFault) → r ≡ Err f → pushed x r ≡ Err f
push_err r x f e = rw e refl

-- ---- one item for each key

each_found : {A X : Type 0} (decode : A → Reader X) (encodes : A → Encoding X) → ((k : A) → Found (decode k) (encodes k)) → (ks : List A) → Found (each_at decode ks) (EncodesEach encodes ks)
each_found {X = X} decode encodes law [] bytes xs rest fits e =
    let both = ok_is ([], bytes) (xs, rest) e in
    subst (λ (p : List X × List ℕ). (code : List ℕ) × EncodesEach encodes [] p.0 code × (bytes ≡ code ++ p.1)) both ([], refl, refl)
each_found {X = X} decode encodes law (k ∷ ks) bytes xs rest fits e =
    let a = bind_ok (decode k bytes) (λ x. each_at decode ks x.1 >>= λ ys. Ok (x.0 ∷ ys.0, ys.1)) (xs, rest) e in
    let b = bind_ok (each_at decode ks a.0.1) (λ ys. Ok (a.0.0 ∷ ys.0, ys.1)) (xs, rest) a.2 in
    let t = law k bytes a.0.0 a.0.1 fits a.1 in
    let u = each_found decode encodes law ks a.0.1 b.0.0 b.0.1 (IsBytes-rest t.0 a.0.1 bytes t.2 fits) b.1 in
    let parts : bytes ≡ (t.0 ++ u.0) ++ b.0.1 = joined t.0 u.0 b.0.1 bytes a.0.1 t.2 u.2 in
    subst (λ (p : List X × List ℕ). (code : List ℕ) × EncodesEach encodes (k ∷ ks) p.0 code × (bytes ≡ code ++ p.1)) (ok_is (a.0.0 ∷ b.0.0, b.0.1) (xs, rest) b.2)
    (t.0 ++ u.0, (t.0, u.0, t.1, u.1, refl), parts)

each_again : {A X : Type 0} (decode : A → Reader X) (encodes : A → Encoding X) → ((k : A) → Again (decode k) (encodes k)) → (ks : List A) → Again (each_at decode ks) (EncodesEach encodes ks)
each_again decode encodes law [] code [] rest s = rw s refl
each_again decode encodes law [] code (x ∷ xs) rest s = absurd s
each_again decode encodes law (k ∷ ks) code [] rest s = absurd s
each_again decode encodes law (k ∷ ks) code (x ∷ xs) rest (front, back, one, others, e) =
    let regroup : code ++ rest ≡ front ++ (back ++ rest) = rw e (append_assoc front back rest) in
    rw (regroup, law k front x (back ++ rest) one, each_again decode encodes law ks back xs rest others) refl

each_blamed : {A X : Type 0} (decode : A → Reader X) (encodes : A → Encoding X) (faults : A → Faults) → ((k : A) → Codes (decode k) (encodes k) (faults k)) → (ks : List A) → Blamed (each_at decode ks) (EachFault encodes faults ks)
each_blamed decode encodes faults law [] bytes f fits e = absurd cc
each_blamed {A = A} decode encodes faults law (k ∷ ks) bytes f fits e = elim (bind_err (decode k bytes) (λ x. pushed x.0 (each_at decode ks x.1)) f e) [
  | inl first ↦ ([], k, ks, [], [], bytes, refl, refl, refl, (law k).blamed bytes f fits first)
  | inr (x, ok, later) ↦
      let t = (law k).found bytes x.0 x.1 fits ok in
      let b = each_blamed decode encodes faults law ks x.1 f (IsBytes-rest t.0 x.1 bytes t.2 fits) (rest_err (each_at decode ks x.1) x.0 f later) in (
        k ∷ b.0,
        b.1,
        b.2,
        x.0 ∷ b.3,
        t.0 ++ b.4,
        b.5,
        ap (λ (l : List A). k ∷ l) b.6,
        (t.0, b.4, t.1, b.7, refl),
        joined t.0 b.4 b.5 bytes x.1 t.2 b.8,
        b.9,
      )
]

each_judged_at : {A X : Type 0} (decode : A → Reader X) (encodes : A → Encoding X) (faults : A → Faults) → ((k : A) → Codes (decode k) (encodes k) (faults k))
    → (before : List A) (k : A) (after : List A) (xs : List X) (front rest : List ℕ) (f : DataFault) → EncodesEach encodes before xs front → faults k rest f
    → each_at decode (before ++ k ∷ after) (front ++ rest) ≡ Err f
each_judged_at decode encodes faults law [] k after [] front rest f s h = rw (s, (law k).judged rest f h) refl
each_judged_at decode encodes faults law [] k after (x ∷ xs) front rest f s h = absurd s
each_judged_at decode encodes faults law (j ∷ before) k after [] front rest f s h = absurd s
each_judged_at decode encodes faults law (j ∷ before) k after (x ∷ xs) front rest f (one, others, p, q, e) h =
    let regroup : front ++ rest ≡ one ++ (others ++ rest) = rw e (append_assoc one others rest) in
    rw (regroup, (law j).again one x (others ++ rest) p, each_judged_at decode encodes faults law before k after xs others rest f q h) refl

each_judged : {A X : Type 0} (decode : A → Reader X) (encodes : A → Encoding X) (faults : A → Faults) → ((k : A) → Codes (decode k) (encodes k) (faults k)) → (ks : List A) → Judged (each_at decode ks) (EachFault encodes faults ks)
each_judged decode encodes faults law ks bytes f (before, k, after, xs, front, rest, keys, s, parts, h) = rw (keys, parts) (each_judged_at decode encodes faults law before k after xs front rest f s h)

pub each_codes : {A X : Type 0} {decode : A → Reader X} {encodes : A → Encoding X} {faults : A → Faults} → ((k : A) → Codes (decode k) (encodes k) (faults k)) → (ks : List A) → Codes (each_at decode ks) (EncodesEach encodes ks) (EachFault encodes faults ks)
each_codes {decode = decode} {encodes = encodes} {faults = faults} law ks = record {
  found = each_found decode encodes (λ k. (law k).found) ks;
  again = each_again decode encodes (λ k. (law k).again) ks;
  blamed = each_blamed decode encodes faults law ks;
  judged = each_judged decode encodes faults law ks;
}

-- ---- a number of items of one kind

-- so many values, encoded one after another
abbrev pub Times : {X : Type 0} → Encoding X → ℕ → Encoding (List X)
Times encodes n xs code = (length xs ≡ n) × EncodesAll encodes xs code

times_found : {X : Type 0} (decode : Reader X) (encodes : Encoding X) → Found decode encodes → (n : ℕ) → Found (times_at decode n) (Times encodes n)
times_found {X = X} decode encodes law zero bytes xs rest fits e =
    let both = ok_is ([], bytes) (xs, rest) e in
    subst (λ (p : List X × List ℕ). (code : List ℕ) × ((length p.0 ≡ 0) × EncodesAll encodes p.0 code) × (bytes ≡ code ++ p.1)) both ([], (refl, refl), refl)
times_found {X = X} decode encodes law (suc n) bytes xs rest fits e =
    let a = bind_ok (decode bytes) (λ x. times_at decode n x.1 >>= λ ys. Ok (x.0 ∷ ys.0, ys.1)) (xs, rest) e in
    let b = bind_ok (times_at decode n a.0.1) (λ ys. Ok (a.0.0 ∷ ys.0, ys.1)) (xs, rest) a.2 in
    let t = law bytes a.0.0 a.0.1 fits a.1 in
    let u = times_found decode encodes law n a.0.1 b.0.0 b.0.1 (IsBytes-rest t.0 a.0.1 bytes t.2 fits) b.1 in
    let parts : bytes ≡ (t.0 ++ u.0) ++ b.0.1 = joined t.0 u.0 b.0.1 bytes a.0.1 t.2 u.2 in
    let len : length (a.0.0 ∷ b.0.0) ≡ suc n = ap (λ (m : ℕ). suc m) u.1.0 in
    subst (λ (p : List X × List ℕ). (code : List ℕ) × ((length p.0 ≡ suc n) × EncodesAll encodes p.0 code) × (bytes ≡ code ++ p.1)) (ok_is (a.0.0 ∷ b.0.0, b.0.1) (xs, rest) b.2)
    (t.0 ++ u.0, (len, (t.0, u.0, t.1, u.1.1, refl)), parts)

times_again_all : {X : Type 0} (decode : Reader X) (encodes : Encoding X) → Again decode encodes → (xs : List X) (code rest : List ℕ) → EncodesAll encodes xs code → times_at decode (length xs) (code ++ rest) ≡ Ok (xs, rest)
times_again_all decode encodes law [] code rest s = rw s refl
times_again_all decode encodes law (x ∷ xs) code rest (front, back, one, others, e) =
    let regroup : code ++ rest ≡ front ++ (back ++ rest) = rw e (append_assoc front back rest) in
    rw (regroup, law front x (back ++ rest) one, times_again_all decode encodes law xs back rest others) refl

times_again : {X : Type 0} (decode : Reader X) (encodes : Encoding X) → Again decode encodes → (n : ℕ) → Again (times_at decode n) (Times encodes n)
times_again decode encodes law n code xs rest (len, s) = ap (λ (m : ℕ). times_at decode m (code ++ rest)) (sym len) ∙ times_again_all decode encodes law xs code rest s

times_blamed : {X : Type 0} (decode : Reader X) (encodes : Encoding X) (faults : Faults) → Codes decode encodes faults → (n : ℕ) → Blamed (times_at decode n) (TimesFault encodes faults n)
times_blamed decode encodes faults law zero bytes f fits e = absurd cc
times_blamed decode encodes faults law (suc n) bytes f fits e = elim (bind_err (decode bytes) (λ x. pushed x.0 (times_at decode n x.1)) f e) [
  | inl first ↦ ([], [], bytes, omega arith, refl, refl, law.blamed bytes f fits first)
  | inr (x, ok, later) ↦
      let t = law.found bytes x.0 x.1 fits ok in
      let b = times_blamed decode encodes faults law n x.1 f (IsBytes-rest t.0 x.1 bytes t.2 fits) (rest_err (times_at decode n x.1) x.0 f later) in
      let lt : length (x.0 ∷ b.0) < suc n = (let fewer = b.3 in omega (arith, fewer)) in
      (x.0 ∷ b.0, t.0 ++ b.1, b.2, lt, (t.0, b.1, t.1, b.4, refl), joined t.0 b.1 b.2 bytes x.1 t.2 b.5, b.6)
]

times_judged_at : {X : Type 0} (decode : Reader X) (encodes : Encoding X) (faults : Faults) → Codes decode encodes faults
    → (n : ℕ) (xs : List X) (front rest : List ℕ) (f : DataFault) → length xs < n → EncodesAll encodes xs front → faults rest f → times_at decode n (front ++ rest) ≡ Err f
times_judged_at decode encodes faults law zero xs front rest f lt s h = absurd (omega arith)
times_judged_at decode encodes faults law (suc n) [] front rest f lt s h = rw (s, law.judged rest f h) refl
times_judged_at decode encodes faults law (suc n) (x ∷ xs) front rest f lt (one, others, p, q, e) h =
    let regroup : front ++ rest ≡ one ++ (others ++ rest) = rw e (append_assoc one others rest) in
    rw (regroup, law.again one x (others ++ rest) p, times_judged_at decode encodes faults law n xs others rest f (omega arith) q h) refl

times_judged : {X : Type 0} (decode : Reader X) (encodes : Encoding X) (faults : Faults) → Codes decode encodes faults → (n : ℕ) → Judged (times_at decode n) (TimesFault encodes faults n)
times_judged decode encodes faults law n bytes f (xs, front, rest, lt, s, parts, h) = rw parts (times_judged_at decode encodes faults law n xs front rest f lt s h)

pub times_codes : {X : Type 0} {decode : Reader X} {encodes : Encoding X} {faults : Faults} → Codes decode encodes faults → (n : ℕ) → Codes (times_at decode n) (Times encodes n) (TimesFault encodes faults n)
times_codes {decode = decode} {encodes = encodes} {faults = faults} law n = record {
  found = times_found decode encodes law.found n;
  again = times_again decode encodes law.again n;
  blamed = times_blamed decode encodes faults law n;
  judged = times_judged decode encodes faults law n;
}

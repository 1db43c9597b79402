-- Several items, one after another.
use Rattle.std.specs.Prelude.{◌≡◌, ℕ, zero, suc, ◌<◌, List, [], ◌∷◌, ◌++◌, length, Result, Ok, ◌⊎◌}
use Rattle.jdwp_wire.specs.declared.data_fault.DataFault.{DataFault}
use Rattle.jdwp_wire.specs.Reading.{Reader, Encoding, Faults, ◌>>=◌, BeginsWith}

-- ---- one item for each key

abbrev pub each_at : {A X : Type 0} → (A → Reader X) → List A → Reader (List X)
each_at decode [] bytes = Ok ([], bytes)
each_at decode (k ∷ ks) bytes = decode k bytes >>= λ x. each_at decode ks x.1 >>= λ xs. Ok (x.0 ∷ xs.0, xs.1)

abbrev pub EncodesEach : {A X : Type 0} → (A → Encoding X) → List A → Encoding (List X)
EncodesEach encodes [] [] code = code ≡ []
EncodesEach encodes [] (x ∷ xs) code = ⊥
EncodesEach encodes (k ∷ ks) [] code = ⊥
EncodesEach encodes (k ∷ ks) (x ∷ xs) code = (front : List ℕ) × (back : List ℕ) × encodes k x front × EncodesEach encodes ks xs back × (code ≡ front ++ back)

-- The items of the keys before this one are encoded, one after another, and then its item is at fault.
abbrev pub EachFault : {A X : Type 0} → (A → Encoding X) → (A → Faults) → List A → Faults
EachFault {A = A} {X = X} encodes faults ks bytes f =
    (before : List A) × (k : A) × (after : List A) × (xs : List X) × (front : List ℕ) × (rest : List ℕ)
    × (ks ≡ before ++ k ∷ after) × EncodesEach encodes before xs front × (bytes ≡ front ++ rest) × faults k rest f

-- ---- a number of items of one kind

abbrev pub times_at : {X : Type 0} → Reader X → ℕ → Reader (List X)
times_at decode zero bytes = Ok ([], bytes)
times_at decode (suc n) bytes = decode bytes >>= λ x. times_at decode n x.1 >>= λ xs. Ok (x.0 ∷ xs.0, xs.1)

abbrev pub EncodesAll : {X : Type 0} → Encoding X → Encoding (List X)
EncodesAll encodes [] code = code ≡ []
EncodesAll encodes (x ∷ xs) code = (front : List ℕ) × (back : List ℕ) × encodes x front × EncodesAll encodes xs back × (code ≡ front ++ back)

-- Fewer than n values are encoded, one after another, and then a value is at fault.
abbrev pub TimesFault : {X : Type 0} → Encoding X → Faults → ℕ → Faults
TimesFault {X = X} encodes faults n bytes f =
    (xs : List X) × (front : List ℕ) × (rest : List ℕ) × (length xs < n) × EncodesAll encodes xs front × (bytes ≡ front ++ rest) × faults rest f

-- Of several items the first is kept: something in it has to be, or all of it stands in front.
abbrev pub FirstIsKept : {A X : Type 0} → (A → List ℕ → Type 0) → (A → Encoding X) → List A → List ℕ → Type 0
FirstIsKept kept encodes [] bytes = ⊥
FirstIsKept kept encodes (k ∷ ks) bytes = kept k bytes ⊎ BeginsWith (encodes k) bytes

-- what was read before, and what is still read
abbrev pub with_front : {X : Type 0} → List X → Result (List X × List ℕ) DataFault → Result (List X × List ℕ) DataFault
with_front front decoded = decoded >>= λ x. Ok (front ++ x.0, x.1)

-- One item after another, from left to right.
use Rattle.std.specs.Prelude.{◌≡◌, ℕ, List, [], ◌++◌, Bool, true, false, cond, Ok, Err, ◌⊎◌}
use Rattle.jdwp_wire.specs.declared.data_fault.DataFault.{DataFault}
use Rattle.jdwp_wire.specs.Reading.{Reader, Encoding, Faults, ◌>>=◌}

-- ---- one item, and then what it calls for

abbrev pub seq : {A B : Type 0} → Reader A → (A → Reader B) → Reader B
seq decode next bytes = decode bytes >>= λ x. next x.0 x.1

abbrev pub Then : {A B : Type 0} → Encoding A → (A → Encoding B) → Encoding B
Then {A = A} P Q y code = (x : A) × (front : List ℕ) × (back : List ℕ) × P x front × Q x y back × (code ≡ front ++ back)

-- the item is at fault, or it is encoded in front and what follows it is at fault
abbrev pub FirstFault : {A : Type 0} → Encoding A → Faults → (A → Faults) → Faults
FirstFault {A = A} P F G bytes f = F bytes f ⊎ ((x : A) × (front : List ℕ) × (back : List ℕ) × P x front × (bytes ≡ front ++ back) × G x back f)

-- ---- no item

abbrev pub give : {A : Type 0} → A → Reader A
give x bytes = Ok (x, bytes)

abbrev pub Is : {A : Type 0} → A → Encoding A
Is x y code = (y ≡ x) × (code ≡ [])

abbrev pub NoFault : Faults
NoFault bytes f = ⊥

-- ---- a value made of what was read

abbrev pub mapped : {A B : Type 0} → (A → B) → Reader A → Reader B
mapped make decode bytes = decode bytes >>= λ x. Ok (make x.0, x.1)

abbrev pub Made : {A B : Type 0} → (A → B) → Encoding A → Encoding B
Made {A = A} make P y code = (x : A) × (y ≡ make x) × P x code

-- ---- a test on what was read

abbrev pub unless : {A : Type 0} → Bool → DataFault → Reader A → Reader A
unless b d decode bytes = cond b (Err d) (decode bytes)

abbrev pub When : {A : Type 0} → Type 0 → Encoding A → Encoding A
When claim P y code = claim × P y code

abbrev pub UnlessFault : Bool → DataFault → Faults → Faults
UnlessFault b d F bytes f = ((b ≡ true) × (f ≡ d)) ⊎ ((b ≡ false) × F bytes f)

-- ---- nothing that may stand here

abbrev pub refuse : {A : Type 0} → DataFault → Reader A
refuse d bytes = Err d

abbrev pub Nothing : {A : Type 0} → Encoding A
Nothing x code = ⊥

abbrev pub Always : DataFault → Faults
Always d bytes f = f ≡ d

-- Data told as they are read, one thing after another.
use Rattle.std.proofs.Common.{◌≡◌, eqb, true, ℕ, suc, ◌+◌, ◌-◌, ◌<◌, ◌≤◌, List, [], ◌∷◌, ◌++◌, length, get_or, drop, ◌==◌, if◌then◌else◌, Result, Ok, Err, refl, sym, ap, ◌∙◌, append-nil, codes, arith}
use Rattle.std.proofs.lemmas.List.{length-append}
use Rattle.std.proofs.lemmas.List.Concat.{flat_map-append}
use Rattle.jdwp_wire.specs.declared.data_fault.DataFault.{DataFault}
use Rattle.jdwp_wire.specs.declared.data_fault.DataFault.TheVariants.{Extra}
use Rattle.jdwp_wire.specs.Reading.{◌>>=◌, Reader}
use Rattle.jdwp_wire.specs.Each.{each_at, times_at, with_front}
use Rattle.jdwp_wire.specs.Sequence.{mapped}
use Rattle.jdwp_wire.specs.Numbers.{count_at}
use Rattle.jdwp_wire.specs.Listed.{list_at}
use Rattle.jdwp_wire.proofs.Loop.{times_go_on, times_done, each_go_on, each_done}
use Rattle.jdwp_value.specs.Regions.{Region}
use Rattle.jdwp_layout.specs.Meanings.{ScalarMeaning, DatumMeaning, One, Many, Elements}
use Rattle.jdwp_show.specs.declared.text.Text.{Text}
use Rattle.jdwp_show.specs.DataText.{listed, region_text, scalar_text, entry_text, datum_text, data_text}
use Rattle.jdwp_show.specs.Telling.{Grows, IsTold}
use Rattle.jdwp_show.proofs.TextLemmas.{grows_none, grows_as, joined, grown}

-- ---- several

-- So many things were read and told, and these are left.
pub record Told {X : Type 0} (all : List X → List ℕ) (n : ℕ) (start now : Text) (left total : Result (List X × List ℕ) DataFault) : Type 0 where
  pub things : List X
  pub count : length things ≡ n
  pub so_far : with_front things left ≡ total
  pub grows : Grows start (all things) now

front_none : {X : Type 0} (read : Result (List X × List ℕ) DataFault) → with_front [] read ≡ read
front_none (Ok x) = refl
front_none (Err f) = refl

pub told_none : {X : Type 0} (all : List X → List ℕ) (start : Text) (read : Result (List X × List ℕ) DataFault) → all [] ≡ [] → Told all 0 start start read read
told_none all start read none = record { things = []; count = refl; so_far = front_none read; grows = grows_as (sym none) (grows_none start) }

module _ {X : Type 0} (text : X → List ℕ) (separator : ℕ → List ℕ) (all : List X → List ℕ) where
  -- one thing more is a separator and its text more
  abbrev pub Lengthens : Type 0
  Lengthens = (xs : List X) (x : X) → all (xs ++ x ∷ []) ≡ all xs ++ (separator (length xs) ++ text x)

  more_text : Lengthens → (xs : List X) (x : X) (i : ℕ) {start now parted whole : Text} → length xs ≡ i → Grows start (all xs) now → Grows now (separator i) parted → Grows parted (text x) whole → Grows start (all (xs ++ x ∷ [])) whole
  more_text law xs x i count is part one = grown (law xs x ∙ ap (λ (n : ℕ). all xs ++ (separator n ++ text x)) count) is part one

  more_count : (xs : List X) (x : X) (i : ℕ) → length xs ≡ i → length (xs ++ x ∷ []) ≡ i + 1
  more_count xs x i count = omega (arith, length-append xs (x ∷ []))

  pub times_told : Lengthens → (read : Reader X) (count i : ℕ) (bytes after : List ℕ) (start now parted whole : Text) (total : Result (List X × List ℕ) DataFault) → i < count → Grows now (separator i) parted
      → IsTold text parted whole (read bytes) after → Told all i start now (times_at read (count - i) bytes) total → Told all (i + 1) start whole (times_at read (count - (i + 1)) after) total
  times_told law read count i bytes after start now parted whole total lt part one h = record {
    things = h.things ++ one.thing ∷ [];
    count = more_count h.things one.thing i h.count;
    so_far = times_go_on read h.things count i bytes one.thing after total lt one.is h.so_far;
    grows = more_text law h.things one.thing i h.count h.grows part one.grows;
  }

  pub each_told : {A : Type 0} → Lengthens → (read : A → Reader X) (ks : List A) (k : A) (i : ℕ) (bytes after : List ℕ) (start now parted whole : Text) (total : Result (List X × List ℕ) DataFault) → i < length ks → k ≡ get_or ks i k → Grows now (separator i) parted
      → IsTold text parted whole (read k bytes) after → Told all i start now (each_at read (drop i ks) bytes) total → Told all (i + 1) start whole (each_at read (drop (i + 1) ks) after) total
  each_told law read ks k i bytes after start now parted whole total lt is part one h = record {
    things = h.things ++ one.thing ∷ [];
    count = more_count h.things one.thing i h.count;
    so_far = each_go_on read h.things ks i k bytes one.thing after total lt is one.is h.so_far;
    grows = more_text law h.things one.thing i h.count h.grows part one.grows;
  }

pub times_told_end : {X : Type 0} (all : List X → List ℕ) (read : Reader X) (count i : ℕ) (bytes : List ℕ) (start now : Text) (total : Result (List X × List ℕ) DataFault) → count ≤ i
    → Told all i start now (times_at read (count - i) bytes) total → IsTold all start now total bytes
times_told_end all read count i bytes start now total le h = record { thing = h.things; is = times_done read h.things count i bytes total le h.so_far; grows = h.grows }

pub each_told_end : {A X : Type 0} (all : List X → List ℕ) (read : A → Reader X) (ks : List A) (i : ℕ) (bytes : List ℕ) (start now : Text) (total : Result (List X × List ℕ) DataFault) → length ks ≤ i
    → Told all i start now (each_at read (drop i ks) bytes) total → IsTold all start now total bytes
each_told_end all read ks i bytes start now total le h = record { thing = h.things; is = each_done read h.things ks i bytes total le h.so_far; grows = h.grows }

-- data are each after a space
pub data_grow : (xs : List DatumMeaning) (x : DatumMeaning) → data_text (xs ++ x ∷ []) ≡ data_text xs ++ (codes " " ++ datum_text x)
data_grow xs x =
    let spaced : DatumMeaning → List ℕ = λ m. codes " " ++ datum_text m in
    flat_map-append spaced xs (x ∷ []) ∙ ap (λ (l : List ℕ). data_text xs ++ l) (append-nil (spaced x))

-- ---- an entry

-- of one field
pub one_told : {A : Type 0} (read : A → Reader ScalarMeaning) (ks : List A) (d : A) (before whole : Text) (bytes after : List ℕ) → length ks ≡ 1 → IsTold scalar_text before whole (read (get_or ks 0 d) bytes) after → IsTold entry_text before whole (each_at read ks bytes) after
one_told read [] d before whole bytes after one h = absurd (omega (arith, one))
one_told read (k ∷ []) d before whole bytes after one h = record { thing = h.thing ∷ []; is = rw h.is refl; grows = h.grows }
one_told read (k ∷ l ∷ ks) d before whole bytes after one h = absurd (omega (arith, one))

abbrev as_ok : {X : Type 0} → X → List ℕ → Result (X × List ℕ) DataFault
as_ok x rest = Ok (x, rest)

ok_is : {X : Type 0} (x y : X × List ℕ) → as_ok x.0 x.1 ≡ as_ok y.0 y.1 → x ≡ y
ok_is x y e = cc

abbrev behind : {X : Type 0} → X → Result (List X × List ℕ) DataFault → Result (List X × List ℕ) DataFault
behind x more = more >>= λ ys. Ok (x ∷ ys.0, ys.1)

length_by : {X : Type 0} (n : ℕ) (x : X) (more : Result (List X × List ℕ) DataFault) (xs : List X) (rest : List ℕ) → ((ys : List X) → more ≡ Ok (ys, rest) → length ys ≡ n) → behind x more ≡ Ok (xs, rest) → length xs ≡ suc n
length_by {X = X} n x (Ok ys) xs rest h e =
    let same = ok_is (x ∷ ys.0, ys.1) (xs, rest) e in
    let first : xs ≡ x ∷ ys.0 = ap (λ (p : List X × List ℕ). p.0) (sym same) in
    let there : length ys.0 ≡ n = h ys.0 (ap (λ (b : List ℕ). as_ok ys.0 b) (ap (λ (p : List X × List ℕ). p.1) same)) in
    rw (first, there) refl
length_by n x (Err f) xs rest h e = cc

length_from : {X : Type 0} (n : ℕ) (first : Result (X × List ℕ) DataFault) (more : List ℕ → Result (List X × List ℕ) DataFault) (xs : List X) (rest : List ℕ) → ((bytes : List ℕ) (ys : List X) → more bytes ≡ Ok (ys, rest) → length ys ≡ n)
    → (first >>= λ x. behind x.0 (more x.1)) ≡ Ok (xs, rest) → length xs ≡ suc n
length_from n (Ok x) more xs rest h e = length_by n x.0 (more x.1) xs rest (λ ys is. h x.1 ys is) e
length_from n (Err f) more xs rest h e = cc

-- as many are read as there are keys
pub each_length : {A X : Type 0} (read : A → Reader X) (ks : List A) (bytes : List ℕ) (xs : List X) (rest : List ℕ) → each_at read ks bytes ≡ Ok (xs, rest) → length xs ≡ length ks
each_length {X = X} read [] bytes xs rest e =
    let none : List X = [] in
    let same = ok_is (none, bytes) (xs, rest) e in
    ap (λ (p : List X × List ℕ). length p.0) (sym same)
each_length read (k ∷ ks) bytes xs rest e = length_from (length ks) (read k bytes) (λ b. each_at read ks b) xs rest (λ b ys is. each_length read ks b ys rest is) e

brackets : (xs : List ScalarMeaning) → (length xs ≡ 1 → ⊥) → entry_text xs ≡ codes "(" ++ listed scalar_text xs ++ codes ")"
brackets [] many = refl
brackets (x ∷ []) many = absurd (many refl)
brackets (x ∷ y ∷ xs) many = refl

-- of none, or of more than one
pub many_told : {A : Type 0} (read : A → Reader ScalarMeaning) (ks : List A) (before opened told whole : Text) (bytes rest : List ℕ) → (length ks ≡ 1 → ⊥) → Grows before (codes "(") opened → IsTold (listed scalar_text) opened told (each_at read ks bytes) rest
    → Grows told (codes ")") whole → IsTold entry_text before whole (each_at read ks bytes) rest
many_told read ks before opened told whole bytes rest many opens h closes =
    let count : length h.thing ≡ length ks = each_length read ks bytes h.thing rest h.is in
    record { thing = h.thing; is = h.is; grows = grows_as (sym (brackets h.thing (λ one. many (sym count ∙ one)))) (joined opens (joined h.grows closes)) }

-- ---- an item

pub one_item : (read : Reader ScalarMeaning) (before whole : Text) (bytes after : List ℕ) → IsTold scalar_text before whole (read bytes) after → IsTold datum_text before whole (mapped (λ x. One x) read bytes) after
one_item read before whole bytes after h = record { thing = One h.thing; is = rw h.is refl; grows = h.grows }

-- a count, and so many entries between square brackets
pub list_told : (read : Reader (List ScalarMeaning)) (length count : ℕ) (before opened told closed : Text) (bytes rest after : List ℕ) → count_at length bytes ≡ Ok (count, rest) → Grows before (codes "[") opened
    → IsTold (listed entry_text) opened told (times_at read count rest) after → Grows told (codes "]") closed → IsTold datum_text before closed (mapped (λ xs. Many xs) (list_at read length) bytes) after
list_told read length count before opened told closed bytes rest after there opens h closes =
    record { thing = Many h.thing; is = rw (there, h.is) refl; grows = joined opens (joined h.grows closes) }

pub region_told : (read : Reader Region) (region : Region) (before whole : Text) (bytes after : List ℕ) → read bytes ≡ Ok (region, after) → Grows before (region_text region) whole → IsTold datum_text before whole (mapped (λ r. Elements r) read bytes) after
region_told read region before whole bytes after there h = record { thing = Elements region; is = rw there refl; grows = h }

-- ---- all the data

-- nothing may follow them
pub whole_told : (read : Result (List DatumMeaning × List ℕ) DataFault) (count : ℕ) (before whole : Text) (after : List ℕ) → IsTold data_text before whole read after → eqb (length after) 0 ≡ true
    → (told : List DatumMeaning) × ((read >>= λ x. if length x.1 == 0 then Ok x.0 else Err (Extra (count - length x.1))) ≡ Ok told) × Grows before (data_text told) whole
whole_told read count before whole after h none = (h.thing, rw (h.is, none) refl, h.grows)

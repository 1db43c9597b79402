-- The reader of locations gives exactly what bytes encode.
use Rattle.std.specs.Prelude.{◌≡◌, ◌≢◌, ℕ, zero, suc, ◌+◌, ◌^◌, ◌<◌, ◌≤◌, ◌==◌, ◌&&◌, List, [], ◌∷◌, ◌++◌, length, nat_lt, Bool, true, false, None, refl, ◌⊎◌}
use Rattle.std.proofs.Common.{sym, arith, subst, inl, inr}
use Rattle.std.proofs.lemmas.Bool.{ltb-false, lt-ltb}
use Rattle.std.proofs.lemmas.Bool.Decides.{eqb_tells}
use Rattle.std.proofs.lemmas.List.{length-append}
use Rattle.byteorder.specs.Endian.{big_bytes}
use Rattle.byteorder.specs.Numbers.{length-bytes_high_first}
use Rattle.jdwp_wire.specs.declared.data_fault.DataFault.TheVariants.{BadTag}
use Rattle.jdwp_wire.specs.Widths.{Widths}
use Rattle.jdwp_wire.specs.Reading.{Encoding}
use Rattle.jdwp_wire.specs.Sequence.{Then, When}
use Rattle.jdwp_wire.specs.Basic.{EncodesByte}
use Rattle.jdwp_wire.specs.BasicLaws.{byte_codes}
use Rattle.jdwp_wire.specs.Numbers.{EncodesNumber}
use Rattle.jdwp_wire.specs.NumberLaws.{number_codes}
use Rattle.jdwp_wire.specs.Codes.{Again, Codes, seq_codes, unless_codes, codes_as, ok_is, err_is}
use Rattle.jdwp_value.specs.declared.location.TypeTag.TheVariants.{Class, Interface, Array}
use Rattle.jdwp_value.specs.declared.location.Location.{Location}
use Rattle.jdwp_value.specs.declared.location.Location.TheVariants.{Null, At}
use Rattle.jdwp_value.specs.Locations.{type_tag_of, class_of, method_of, index_of, location_canonical, EncodesLocation, location_refusal, NullFault, LocationFault, location_of, location_made, location_at}

abbrev Parts : ℕ → ℕ → ℕ → ℕ → Encoding Location
Parts tag class method index at code = (type_tag_of at ≡ tag) × (class_of at ≡ class) × (method_of at ≡ method) × (index_of at ≡ index) × (code ≡ [])

abbrev zeros : ℕ → ℕ → ℕ → Bool
zeros c m i = (c == 0) && ((m == 0) && (i == 0))

-- whether all three are zero
zeros_tell : (c m i : ℕ) → ((zeros c m i ≡ true) × (c ≡ 0) × (m ≡ 0) × (i ≡ 0)) ⊎ ((zeros c m i ≡ false) × ((c ≡ 0) × (m ≡ 0) × (i ≡ 0) → ⊥))
zeros_tell c m i = elim (eqb_tells c 0) [
  | inr (a, c-not) ↦ inr (rw a refl, λ all. c-not all.0)
  | inl (a, c-zero) ↦ elim (eqb_tells m 0) [
    | inr (b, m-not) ↦ inr (rw (a, b) refl, λ all. m-not all.1)
    | inl (b, m-zero) ↦ elim (eqb_tells i 0) [
      | inr (d, i-not) ↦ inr (rw (a, b, d) refl, λ all. i-not all.2)
      | inl (d, i-zero) ↦ inl (rw (a, b, d) refl, c-zero, m-zero, i-zero)
    ]
  ]
]

type_tag_is : (tag class method index : ℕ) → tag ≢ 0 → tag ≤ 3 → type_tag_of (location_of tag class method index) ≡ tag
type_tag_is zero class method index not le = absurd (not refl)
type_tag_is (suc zero) class method index not le = refl
type_tag_is (suc (suc zero)) class method index not le = refl
type_tag_is (suc (suc (suc zero))) class method index not le = refl
type_tag_is (suc (suc (suc (suc tag)))) class method index not le = absurd (omega arith)

made_again : (tag class method index : ℕ) → Again (location_made tag class method index) (Parts tag class method index)
made_again tag class method index code Null rest (t, c, m, i, e) = rw (← t, ← c, ← m, ← i, e) refl
made_again tag class method index code (At Class k n j) rest (t, c, m, i, e) = rw (← t, ← c, ← m, ← i, e) refl
made_again tag class method index code (At Interface k n j) rest (t, c, m, i, e) = rw (← t, ← c, ← m, ← i, e) refl
made_again tag class method index code (At Array k n j) rest (t, c, m, i, e) = rw (← t, ← c, ← m, ← i, e) refl

made_codes : (tag class method index : ℕ) → (nat_lt 3 tag ≡ false) → Codes (location_made tag class method index) (Parts tag class method index) (NullFault tag class method index)
made_codes tag class method index small = record {
  found = λ bytes x rest fits e. elim (eqb_tells tag 0) [
    | inl (a, t-zero) ↦ elim (zeros_tell class method index) [
      | inl (all, c-zero, m-zero, i-zero) ↦
          subst (λ (p : Location × List ℕ). (code : List ℕ) × Parts tag class method index p.0 code × (bytes ≡ code ++ p.1)) (ok_is (Null, bytes) (x, rest) (rw (a, all) at e))
          ([], (sym t-zero, sym c-zero, sym m-zero, sym i-zero, refl), refl)
      | inr (some, z) ↦ let f = rw (a, some) at e in absurd cc
    ]
    | inr (a, t-not) ↦
        let both = ok_is (location_of tag class method index, bytes) (x, rest) (rw a at e) in
        subst (λ (p : Location × List ℕ). (code : List ℕ) × Parts tag class method index p.0 code × (bytes ≡ code ++ p.1)) both ([], (type_tag_is tag class method index t-not (ltb-false 3 tag small), refl, refl, refl, refl), refl)
  ];
  again = λ code x rest parts. made_again tag class method index code x rest parts;
  blamed = λ bytes f fits e. elim (eqb_tells tag 0) [
    | inl (a, t-zero) ↦ elim (zeros_tell class method index) [
      | inl (all, c-zero, m-zero, i-zero) ↦ let g = rw (a, all) at e in absurd cc
      | inr (some, z) ↦ (sym (err_is (Location × List ℕ) BadTag f (rw (a, some) at e)), t-zero, z)
    ]
    | inr (a, t-not) ↦ let g = rw a at e in absurd cc
  ];
  judged = λ bytes f (is, t-zero, bad). elim (zeros_tell class method index) [
    | inl (all, c-zero, m-zero, i-zero) ↦ absurd (bad (c-zero, m-zero, i-zero))
    | inr (some, z) ↦ rw (t-zero, some, is) refl
  ];
}

abbrev Read : Widths → Encoding Location
Read w = Then EncodesByte (λ tag. When (nat_lt 3 tag ≡ false)
    (Then (EncodesNumber w.reference) (λ class. Then (EncodesNumber w.method) (λ method. Then (EncodesNumber 8) (λ index. Parts tag class method index)))))

read_codes : (w : Widths) (whole : ℕ) → Codes (location_at w whole) (Read w) (LocationFault w whole)
read_codes w whole = seq_codes (byte_codes whole) (λ tag. unless_codes (nat_lt 3 tag) BadTag (λ small.
    seq_codes (number_codes w.reference whole) (λ class. seq_codes (number_codes w.method whole) (λ method. seq_codes (number_codes 8 whole) (λ index. made_codes tag class method index small)))))

tag_small : (at : Location) → nat_lt 3 (type_tag_of at) ≡ false
tag_small Null = refl
tag_small (At Class class method index) = refl
tag_small (At Interface class method index) = refl
tag_small (At Array class method index) = refl

tag_byte : (at : Location) → type_tag_of at < 256
tag_byte Null = omega arith
tag_byte (At Class class method index) = omega arith
tag_byte (At Interface class method index) = omega arith
tag_byte (At Array class method index) = omega arith

read_encodes : (w : Widths) (at : Location) (code : List ℕ) → Read w at code → EncodesLocation w at code
read_encodes w at code (tag, a, b, (tag-fits, a-is), (small, (class, d, e, (class-fits, d-is), (method, f, g, (method-fits, f-is), (index, h, i, (index-fits, h-is), (t-is, c-is, m-is, i-is, i-nil), g-is), e-is), b-is)), code-is) =
    (rw c-is class-fits, rw m-is method-fits, rw i-is index-fits, rw (t-is, c-is, m-is, i-is, code-is, a-is, b-is, d-is, e-is, f-is, g-is, h-is, i-nil) refl)

encodes_read : (w : Widths) (at : Location) (code : List ℕ) → EncodesLocation w at code → Read w at code
encodes_read w at code (class-fits, method-fits, index-fits, code-is) = (
  type_tag_of at,
  type_tag_of at ∷ [],
  _,
  (tag_byte at, refl),
  (
    tag_small at,
    (
      class_of at,
      big_bytes w.reference (class_of at),
      _,
      (class-fits, refl),
      (method_of at, big_bytes w.method (method_of at), _, (method-fits, refl), (index_of at, big_bytes 8 (index_of at), [], (index-fits, refl), (refl, refl, refl, refl, refl), refl), refl),
      refl,
    ),
  ),
  rw code-is refl,
)

pub location_codes : (w : Widths) (whole : ℕ) → Codes (location_at w whole) (EncodesLocation w) (LocationFault w whole)
location_codes w whole = codes_as (EncodesLocation w) (read_encodes w) (encodes_read w) (read_codes w whole)

pub location_unrefused : (w : Widths) (code : List ℕ) (x : Location) → EncodesLocation w x code → location_refusal w x ≡ None
location_unrefused w code x (cf, mf, xf, e) = rw (lt-ltb (class_of x) (256 ^ w.reference) cf, lt-ltb (method_of x) (256 ^ w.method) mf) refl

pub length-location : (w : Widths) (x : Location) → length (location_canonical w x) ≡ 9 + w.reference + w.method
length-location w x =
    let a = length-bytes_high_first w.reference (class_of x) in
    let b = length-bytes_high_first w.method (method_of x) in
    simp (length-append, a, b) (omega arith)

-- Reading a list gives exactly what bytes encode.
use Rattle.std.specs.Prelude.{◌≡◌, ℕ, List, [], ◌∷◌, length, Option, None, refl}
use Rattle.std.proofs.Common.{arith}
use Rattle.byteorder.specs.Endian.{big_bytes}
use Rattle.jdwp_wire.specs.declared.data_fault.DataFault.{DataFault}
use Rattle.jdwp_wire.specs.Reading.{Reader, Encoding, Faults}
use Rattle.jdwp_wire.specs.NumberLaws.{count_codes, counts}
use Rattle.jdwp_wire.specs.Each.{EncodesAll}
use Rattle.jdwp_wire.specs.EachLaws.{times_codes}
use Rattle.jdwp_wire.specs.Listed.{list_at, EncodesList, ListFault, first_refusal, list_refusal}
use Rattle.jdwp_wire.specs.Codes.{Codes, seq_codes, codes_as}

pub list_codes : {X : Type 0} {decode : Reader X} {encodes : Encoding X} {faults : Faults} → Codes decode encodes faults → (whole : ℕ) → Codes (list_at decode whole) (EncodesList encodes) (ListFault encodes faults whole)
list_codes {encodes = encodes} law whole = codes_as (EncodesList encodes)
    (λ xs code (n, front, back, (lt, front-is), (len, all), e). (omega (arith, len, lt), back, all, rw (e, front-is, len) refl))
    (λ xs code (lt, items, all, e). (length xs, big_bytes 4 (length xs), items, (lt, refl), (refl, all), e))
    (seq_codes (count_codes whole) (λ n. times_codes law n))

pub each_unrefused : {X : Type 0} (encodes : Encoding X) (refusal : X → Option DataFault) → ((code : List ℕ) (x : X) → encodes x code → refusal x ≡ None)
    → (xs : List X) (code : List ℕ) → EncodesAll encodes xs code → first_refusal refusal xs ≡ None
each_unrefused encodes refusal law [] code s = refl
each_unrefused encodes refusal law (x ∷ xs) code (front, back, one, others, e) =
    let first = law front x one in
    let rest = each_unrefused encodes refusal law xs back others in
    rw (first, rest) refl

pub list_unrefused : {X : Type 0} (encodes : Encoding X) (refusal : X → Option DataFault) → ((code : List ℕ) (x : X) → encodes x code → refusal x ≡ None)
    → (code : List ℕ) (xs : List X) → EncodesList encodes xs code → list_refusal refusal xs ≡ None
list_unrefused encodes refusal law code xs (small, items, each, e) = rw (counts (length xs) small, each_unrefused encodes refusal law xs items each) refl

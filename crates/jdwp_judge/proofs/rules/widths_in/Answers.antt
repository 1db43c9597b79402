use Rattle.std.proofs.lemmas.Grind.{common_steps}
use Rattle.std.proofs.lemmas.Bool.{le-ltb, le-leb}
use Rattle.std.proofs.lemmas.List.{take_rest}
use Rattle.std.proofs.Common.{◌≡◌, ◌-◌, ◌≤◌, ◌∙◌, ℕ, true, List, length, take, drop, Ok, Err, ap, refl, arith}
use Rattle.byteorder.specs.Endian.{big_number}
use Rattle.jdwp_wire.specs.declared.data_fault.DataFault.TheVariants.{Short, Extra, BadSize}
use Rattle.jdwp_wire.specs.Widths.{Widths, IsWidth}
use Rattle.jdwp_show.specs.Data.{is_width}
use Rattle.jdwp_show.proofs.DataLaws.{widths_at_places, at_places}
use Rattle.jdwp_judge.proofs.rules.widths_in.Goals as goal

width : (n : ℕ) → IsWidth n → is_width n ≡ true
width n h = rw (le-leb 1 n h.0, le-leb n 8 h.1) refl

tells : (body : List ℕ) (w : Widths) (a b c d e : ℕ) → 20 ≤ length body → length body ≤ 20 → a ≡ big_number 4 body → b ≡ big_number 4 (drop 4 body) → c ≡ big_number 4 (drop 8 body) → d ≡ big_number 4 (drop 12 body) → e ≡ big_number 4 (drop 16 body)
    → IsWidth a × IsWidth b × IsWidth c × IsWidth d × IsWidth e → w ≡ record { field = a; method = b; object = c; reference = d; frame = e } → Ok w ≡ widths_at_places body
tells body w a b c d e least most p q r s t good is =
    rw (le-ltb (length body) 20 least, le-ltb 20 (length body) most, ← p, ← q, ← r, ← s, ← t, width a good.0, width b good.1, width c good.2, width d good.3, width e good.4) (ap (λ (x : Widths). Ok x) is)

pub returns-then-body-lt20 : goal.returns-then-body-lt20
returns-then-body-lt20 c =
    let e : Err (Short (length c.args.body.now)) ≡ widths_at_places c.args.body.now = grind (arith, common_steps) in
    e ∙ at_places c.args.body.now

pub returns-then-body-gt20 : goal.returns-then-body-gt20
returns-then-body-gt20 c =
    let e : Err (Extra 20) ≡ widths_at_places c.args.body.now = grind (arith, common_steps) in
    e ∙ at_places c.args.body.now

pub returns-in-Err : goal.returns-in-Err
returns-in-Err c =
    let e : Err BadSize ≡ widths_at_places c.args.body.now = grind (arith, common_steps) in
    e ∙ at_places c.args.body.now

pub returns-in-Ok : goal.returns-in-Ok
returns-in-Ok c =
    let body = c.args.body.now in
    let from : (place : ℕ) → big_number 4 (take (length body - place) (drop place body)) ≡ big_number 4 (drop place body) = λ place. ap (λ (bytes : List ℕ). big_number 4 bytes) (take_rest body place) in
    tells body c.in-Ok.sizes _ _ _ _ _ (omega arith) (omega arith) c.read_u32-field.ensures (c.read_u32-method.ensures ∙ from 4) (c.read_u32-object.ensures ∙ from 8) (c.read_u32-reference.ensures ∙ from 12) (c.read_u32-frame.ensures ∙ from 16)
    (c.in-Ok.ensures.ok.0 refl) c.in-Ok.ensures.widths ∙ at_places body

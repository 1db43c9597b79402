-- What follows an entry is no longer than the bytes that it stands in.
use Rattle.std.proofs.Common.{◌≡◌, ℕ, ◌+◌, ◌≤◌, List, length, Result, Ok, Err, ap, ◌∙◌, arith}
use Rattle.std.specs.Prelude.{IfOk}
use Rattle.std.specs.Borrow.{Bor}
use Rattle.std.specs.Global.{Vec}
use Rattle.std.proofs.lemmas.List.{length-append}
use Rattle.jdwp_wire.specs.declared.data_fault.DataFault.{DataFault}
use Rattle.jdwp_wire.specs.Widths.{Widths}
use Rattle.jdwp_wire.specs.Bytes.{IsBytes}
use Rattle.jdwp_wire.specs.Reading.{Gives}
use Rattle.jdwp_layout.specs.declared.datum.Scalar.{Scalar}
use Rattle.jdwp_layout.specs.Shapes.{EntryShape}
use Rattle.jdwp_layout.specs.Meanings.{entry_meaning}
use Rattle.jdwp_layout.specs.Reads.{entry_at}
use Rattle.jdwp_layout.specs.EntryLaws.{entry_codes}

pub is_shorter : (w : Widths) (whole : ℕ) (entry : EntryShape) (bytes : List ℕ) (r : Result (Vec Scalar × Bor (List ℕ)) DataFault) → IsBytes bytes
    → Gives (λ x. (entry_meaning x.0, x.1.now)) r (entry_at w whole entry bytes) → IfOk r (λ x. length x.1.now ≤ length bytes)
is_shorter w whole entry bytes (Err f) fits e = tt
is_shorter w whole entry bytes (Ok x) fits e =
    let t = (entry_codes w whole entry).found bytes (entry_meaning x.0) x.1.now fits e in
    let both : length bytes ≡ length t.0 + length x.1.now = ap (λ (ys : List ℕ). length ys) t.2 ∙ length-append t.0 x.1.now in
    omega (arith, both)

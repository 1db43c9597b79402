-- What has to be kept of an entry or a list, by what was read of it.
use Rattle.std.proofs.Common.{◌≡◌, ℕ, List, [], ◌∷◌, Option, Some, Ok, ap, ◌++◌, ◌∙◌}
use Rattle.jdwp_wire.specs.Widths.{Widths}
use Rattle.jdwp_wire.specs.Bytes.{IsBytes}
use Rattle.jdwp_wire.specs.Basic.{byte_at}
use Rattle.jdwp_wire.specs.Numbers.{count_at}
use Rattle.jdwp_wire.specs.NumberLaws.{count_codes}
use Rattle.jdwp_wire.specs.Codes.{ok_is}
use Rattle.jdwp_layout.specs.declared.item.Field.{Field}
use Rattle.jdwp_layout.specs.Shapes.{EntryShape}
use Rattle.jdwp_layout.specs.Keeping.{KindIsKept, EntriesAreKept, ListIsKept}

byte_is : (whole kind : ℕ) (bytes rest : List ℕ) → byte_at whole bytes ≡ Ok (kind, rest) → bytes ≡ kind ∷ rest
byte_is whole kind [] rest e = absurd cc
byte_is whole kind (b ∷ bytes) rest e = ap (λ (p : ℕ × List ℕ). p.0 ∷ p.1) (ok_is (b, bytes) (kind, rest) e)

pub kind_is_kept : (fields_of : ℕ → Option (List Field)) (whole kind : ℕ) (fields : List Field) (bytes rest : List ℕ) → fields_of kind ≡ Some fields → byte_at whole bytes ≡ Ok (kind, rest) → KindIsKept fields_of bytes
kind_is_kept fields_of whole kind fields bytes rest found e = (kind, fields, rest, found, byte_is whole kind bytes rest e)

pub list_is_kept : (w : Widths) (whole : ℕ) (entry : EntryShape) (bytes : List ℕ) (n : ℕ) (entries : List ℕ) → IsBytes bytes → count_at whole bytes ≡ Ok (n, entries) → EntriesAreKept w entry n entries → ListIsKept w entry bytes
list_is_kept w whole entry bytes n entries fits e kept =
    let t = (count_codes whole).found bytes n entries fits e in
    (n, entries, t.1.0, t.2 ∙ ap (λ (x : List ℕ). x ++ entries) t.1.1, kept)

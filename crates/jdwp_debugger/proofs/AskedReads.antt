-- What was asked is read by the layout of its row.
use Rattle.std.proofs.Common.{◌≡◌, ℕ, ◌==◌, ◌&&◌, Bool, true, false, not, Option, Some, None, Result, Err, refl}
use Rattle.jdwp_wire.specs.declared.error_code.ErrorCode.{ErrorCode}
use Rattle.jdwp_wire.specs.ErrorCodes.{NOT_IMPLEMENTED}
use Rattle.jdwp_wire.specs.Widths.{Widths}
use Rattle.jdwp_layout.specs.CommandNumbers.{EVENT}
use Rattle.jdwp_layout.specs.CommandTable.{row_at}
use Rattle.jdwp_layout.specs.Reads.{data_at}
use Rattle.jdwp_layout.specs.Rows.{Row, RowShapes}
use Rattle.jdwp_layout.specs.Writes.{data_canonical}
use Rattle.jdwp_action.specs.Actions.{Carried, Content, Raw, Command, carries_out, is_some_shapes}
use Rattle.jdwp_action.specs.CommandReads.{content_read, read_by}
use Rattle.jdwp_action.specs.RowLayouts.{row_request, shapes_request}
use Rattle.jdwp_action.specs.CommandPackets.{carried_bytes}
use Rattle.jdwp_debugger.specs.Asking.{EncodesCommand, EncodesRow, EncodesShapes, ReadsAsAsked, read_where}
use Rattle.jdwp_debugger.proofs.EncodedReads.{ReadsEncoded}

-- the data of a row that is not carried out are not read
abbrev read-shapes : Widths → ℕ → ℕ → Option RowShapes → Carried → Bool → Result Command ErrorCode
read-shapes w set number shapes carried true = content_read set number (data_at w (shapes_request shapes) (carried_bytes w carried))
read-shapes w set number shapes carried false = Err NOT_IMPLEMENTED

abbrev this : ℕ → ℕ → Carried → Command
this set number carried = record { set = set; number = number; carried = carried }

read-content : ReadsEncoded → (w : Widths) (set number : ℕ) (shapes : RowShapes) (carried : Carried) (b : Bool) → EncodesShapes w (Some shapes) carried → read-shapes w set number (Some shapes) carried b ≡ read_where (this set number carried) b
read-content again w set number shapes (Content content) true h = rw (again w shapes.request content (data_canonical w content) h) refl
read-content again w set number shapes (Content content) false h = refl
read-content again w set number shapes (Raw bytes) b h = absurd h

unread : (w : Widths) (set number : ℕ) (carried : Carried) (starred e : Bool) → read-shapes w set number None carried ((not starred && false) && e) ≡ read_where (this set number carried) ((not starred && false) && e)
unread w set number carried true e = refl
unread w set number carried false e = refl

by-shapes : ReadsEncoded → (w : Widths) (set number : ℕ) (shapes : Option RowShapes) (carried : Carried) (starred e : Bool) → EncodesShapes w shapes carried
    → read-shapes w set number shapes carried ((not starred && is_some_shapes shapes) && e) ≡ read_where (this set number carried) ((not starred && is_some_shapes shapes) && e)
by-shapes again w set number None carried starred e h = unread w set number carried starred e
by-shapes again w set number (Some shapes) carried starred e h = read-content again w set number shapes carried ((not starred && true) && e) h

abbrev read-row : Widths → ℕ → ℕ → Option Row → Carried → Bool → Result Command ErrorCode
read-row w set number row carried true = content_read set number (data_at w (row_request row) (carried_bytes w carried))
read-row w set number row carried false = Err NOT_IMPLEMENTED

same-read : (w : Widths) (set number : ℕ) (row : Row) (carried : Carried) (b : Bool) → read-row w set number (Some row) carried b ≡ read-shapes w set number row.shapes carried b
same-read w set number row carried true = refl
same-read w set number row carried false = refl

by-row : ReadsEncoded → (w : Widths) (set number : ℕ) (row : Option Row) (carried : Carried) (e : Bool) → EncodesRow w row carried
    → read-row w set number row carried (carries_out row && e) ≡ read_where (this set number carried) (carries_out row && e)
by-row again w set number None carried e h = absurd h
by-row again w set number (Some row) carried e h =
    rw (same-read w set number row carried ((not row.starred && is_some_shapes row.shapes) && e)) (by-shapes again w set number row.shapes carried row.starred e h)

same-by : (w : Widths) (c : Command) (b : Bool) → read_by w c.set c.number (carried_bytes w c.carried) b ≡ read-row w c.set c.number (row_at c.set c.number) c.carried b
same-by w c true = refl
same-by w c false = refl

pub reads-as-asked : ReadsEncoded → (w : Widths) (c : Command) → EncodesCommand w c → ReadsAsAsked w c
reads-as-asked again w c h =
    rw (same-by w c (carries_out (row_at c.set c.number) && not (c.set == EVENT))) (by-row again w c.set c.number (row_at c.set c.number) c.carried (not (c.set == EVENT)) h)

-- What is sent for an answer (JDWP specification, "Packets": a reply's error code and data), and the answer to IDSizes.
use Rattle.std.specs.Prelude.{◌≡◌, ◌≢◌, ℕ, ◌∷◌, List, [], Option, Some, None, IsSome, pos}
use Rattle.jdwp_wire.specs.ErrorCodes.{NONE}
use Rattle.jdwp_wire.specs.Widths.{Widths}
use Rattle.jdwp_wire.specs.declared.error_code.ErrorCode.{ErrorCode}
use Rattle.jdwp_layout.specs.CommandTable.{row_at}
use Rattle.jdwp_layout.specs.Grammar.{EncodesData}
use Rattle.jdwp_layout.specs.Meanings.{DatumMeaning, Int, One, raw_bytes}
use Rattle.jdwp_layout.specs.Shapes.{ItemShape}
use Rattle.jdwp_layout.specs.Writes.{data_canonical, data_refusal}
use Rattle.jdwp_layout.specs.declared.answer.Answer.{Answer}
use Rattle.jdwp_layout.specs.declared.answer.Answer.TheVariants.{Data, Error}
use Rattle.jdwp_action.specs.RowLayouts.{row_reply}

-- the error code of a reply
abbrev pub error_of : Answer → ErrorCode
error_of (Data content) = NONE
error_of (Error error) = error

-- the data of a reply as they are written; none where the command was refused
abbrev pub answer_bytes : Widths → Answer → List ℕ
answer_bytes w (Data content) = data_canonical w content
answer_bytes w (Error error) = []

-- ---- data that can be written

-- in a layout; where there is none, bytes
abbrev pub AreWritable : Widths → Option (List ItemShape) → List DatumMeaning → Type 0
AreWritable w None content = IsSome (raw_bytes content)
AreWritable w (Some shapes) content = data_refusal w shapes content ≡ None

-- an answer to a command of this set and number, in the layout of its row's reply; in a raw row, bytes
abbrev pub IsWritable : Widths → ℕ → ℕ → Answer → Type 0
IsWritable w set number (Data content) = AreWritable w (row_reply (row_at set number)) content
IsWritable w set number (Error error) = error.0 ≢ NONE.0

-- ---- data that can be read

-- The data of an answer are encoded by the bytes that are sent for it, in the layout of the reply's row: so whoever reads them by that
-- layout reads the answer. In a raw row they are bytes, and whoever takes the bytes that come has the answer. Where a command was refused
-- there are no data, and the error is one.
abbrev pub EncodesReply : Widths → Option (List ItemShape) → List DatumMeaning → Type 0
EncodesReply w None content = IsSome (raw_bytes content)
EncodesReply w (Some shapes) content = EncodesData w shapes content (data_canonical w content)

abbrev pub EncodesAnswer : Widths → ℕ → ℕ → Answer → Type 0
EncodesAnswer w set number (Data content) = EncodesReply w (row_reply (row_at set number)) content
EncodesAnswer w set number (Error error) = error.0 ≢ NONE.0

-- ---- the widths of ids

-- field, method, object, reference type and frame
abbrev pub sizes_answer : Widths → Answer
sizes_answer w = Data (One (Int (pos w.field)) ∷ One (Int (pos w.method)) ∷ One (Int (pos w.object)) ∷ One (Int (pos w.reference)) ∷ One (Int (pos w.frame)) ∷ [])

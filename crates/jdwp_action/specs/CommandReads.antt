-- What the data of a command read as (JDWP specification, "Protocol Details").
use Rattle.std.specs.Prelude.{ℕ, Bool, true, false, List, Result, Ok, Err}
use Rattle.jdwp_wire.specs.ErrorCodes.{NOT_IMPLEMENTED, ILLEGAL_ARGUMENT}
use Rattle.jdwp_wire.specs.Widths.{Widths}
use Rattle.jdwp_wire.specs.declared.data_fault.DataFault.{DataFault}
use Rattle.jdwp_wire.specs.declared.error_code.ErrorCode.{ErrorCode}
use Rattle.jdwp_layout.specs.CommandTable.{row_at}
use Rattle.jdwp_layout.specs.Meanings.{DatumMeaning}
use Rattle.jdwp_layout.specs.Reads.{data_at}
use Rattle.jdwp_action.specs.Actions.{Content, Raw, Command, is_implemented}
use Rattle.jdwp_action.specs.RowLayouts.{row_request}

abbrev pub with_content : ℕ → ℕ → List DatumMeaning → Command
with_content set number content = record { set = set; number = number; carried = Content content }

-- data that do not read are refused
abbrev pub content_read : ℕ → ℕ → Result (List DatumMeaning) DataFault → Result Command ErrorCode
content_read set number (Ok content) = Ok (with_content set number content)
content_read set number (Err fault) = Err ILLEGAL_ARGUMENT

-- the data of a command that is not implemented are not read
abbrev pub read_by : Widths → ℕ → ℕ → List ℕ → Bool → Result Command ErrorCode
read_by w set number bytes false = Err NOT_IMPLEMENTED
read_by w set number bytes true = content_read set number (data_at w (row_request (row_at set number)) bytes)

-- The command of a set and a number with these bytes as its data, or the error that it is refused with.
abbrev pub command_read : Widths → ℕ → ℕ → List ℕ → Result Command ErrorCode
command_read w set number bytes = read_by w set number bytes (is_implemented (record { set = set; number = number; carried = Raw bytes }))

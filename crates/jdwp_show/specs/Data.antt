-- Which data do not read (JDWP specification, "Protocol Details": the layouts of the commands and their replies).
use Rattle.std.specs.Prelude.{ℕ, ℤ, pos, negsuc, ◌&&◌, nat_le, List, [], ◌∷◌, Bool, Option, Some, None, Result, Ok, Err, if◌then◌else◌}
use Rattle.jdwp_wire.specs.declared.data_fault.DataFault.{DataFault}
use Rattle.jdwp_wire.specs.declared.data_fault.DataFault.TheVariants.{BadSize}
use Rattle.jdwp_wire.specs.Reading.{◌>>=◌}
use Rattle.jdwp_wire.specs.Widths.{Widths}
use Rattle.jdwp_layout.specs.Shapes.{ItemShape}
use Rattle.jdwp_layout.specs.CommandNumbers.{is_command, ID_SIZES}
use Rattle.jdwp_layout.specs.Rows.{Row, RowShapes}
use Rattle.jdwp_layout.specs.CommandTable.{row_at}
use Rattle.jdwp_layout.specs.Meanings.{DatumMeaning, One, Int}
use Rattle.jdwp_layout.specs.Reads.{data_at}
use Rattle.jdwp_show.specs.declared.command_number.CommandNumber.{CommandNumber}
use Rattle.jdwp_show.specs.declared.table.Table.{Table}
use Rattle.jdwp_show.specs.declared.terms.Terms.{Terms}
use Rattle.jdwp_show.specs.Tables.{row_under}

-- ---- by the layout of the command

-- the layouts of the command; None where the table has no such command, or does not read its data
abbrev pub shapes_in : Option Row → Option RowShapes
shapes_in None = None
shapes_in (Some row) = row.shapes

abbrev pub shapes_of : CommandNumber → Option RowShapes
shapes_of command = shapes_in (row_at command.set command.number)

-- the same in a table
abbrev pub shapes_under : Table → CommandNumber → Option RowShapes
shapes_under table command = shapes_in (row_under table command.set command.number)

abbrev pub fault_in : {A : Type 0} → Result A DataFault → Option DataFault
fault_in (Ok x) = None
fault_in (Err fault) = Some fault

-- the first fault of data under a layout, where the widths of ids are known
abbrev pub layout_fault : Option Widths → List ItemShape → List ℕ → Option DataFault
layout_fault None layout body = None
layout_fault (Some widths) layout body = fault_in (data_at widths layout body)

abbrev pub request_by : Option Widths → Option RowShapes → List ℕ → Option DataFault
request_by widths None body = None
request_by widths (Some shapes) body = layout_fault widths shapes.request body

abbrev pub reply_by : Option Widths → Option RowShapes → List ℕ → Option DataFault
reply_by widths None body = None
reply_by widths (Some shapes) body = layout_fault widths shapes.reply body

-- the data of a command
abbrev pub request_fault : Terms → CommandNumber → List ℕ → Option DataFault
request_fault terms command body = request_by terms.sizes (shapes_under terms.table command) body

-- ---- VirtualMachine.IDSizes: the reply has five ints, the widths of ids, each 1 to 8

abbrev pub is_id_sizes : CommandNumber → Bool
is_id_sizes command = is_command ID_SIZES command.set command.number

abbrev pub is_width : ℕ → Bool
is_width n = nat_le 1 n && nat_le n 8

-- an int as a width: 1 to 8
abbrev pub width_of : ℤ → Result ℕ DataFault
width_of (pos n) = if is_width n then Ok n else Err BadSize
width_of (negsuc n) = Err BadSize

-- five ints, each 1 to 8, as the widths of fields, methods, objects, reference types and frames
abbrev pub widths_of_data : List DatumMeaning → Result Widths DataFault
widths_of_data (One (Int first) ∷ One (Int second) ∷ One (Int third) ∷ One (Int fourth) ∷ One (Int fifth) ∷ []) =
    width_of first >>= λ field. width_of second >>= λ method. width_of third >>= λ object. width_of fourth >>= λ reference. width_of fifth >>= λ frame.
    Ok (record { field = field; method = method; object = object; reference = reference; frame = frame })
widths_of_data items = Err BadSize

-- the widths that data tell under a layout
abbrev pub widths_by : Widths → List ItemShape → List ℕ → Result Widths DataFault
widths_by widths layout body = data_at widths layout body >>= widths_of_data

-- no id stands in the reply, so that it reads alike with any widths
abbrev pub NO_IDS : Widths
NO_IDS = record { field = 8; method = 8; object = 8; reference = 8; frame = 8 }

abbrev pub widths_under : Option RowShapes → List ℕ → Result Widths DataFault
widths_under None body = Err BadSize
widths_under (Some shapes) body = widths_by NO_IDS shapes.reply body

-- the widths in such data, or the first fault: too few bytes, too many, or another width
unfoldable pub widths_in : List ℕ → Result Widths DataFault
widths_in body = widths_under (shapes_of (record { set = ID_SIZES.set; number = ID_SIZES.number })) body

-- the data of a reply without an error to this command
abbrev pub reply_fault : Terms → Option CommandNumber → List ℕ → Option DataFault
reply_fault terms None body = None
reply_fault terms (Some command) body =
    if is_id_sizes command then fault_in (widths_in body) else reply_by terms.sizes (shapes_under terms.table command) body

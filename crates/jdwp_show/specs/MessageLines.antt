-- A message as a line.
use Rattle.std.specs.Prelude.{ℕ, ◌==◌, List, [], ◌++◌, Option, Some, None, Result, Ok, Err, if◌then◌else◌, codes, decimal}
use Rattle.jdwp_wire.specs.declared.data_fault.DataFault.{DataFault}
use Rattle.jdwp_wire.specs.declared.packet.PacketKind.{PacketKind}
use Rattle.jdwp_wire.specs.declared.packet.PacketKind.TheVariants as kind
use Rattle.jdwp_wire.specs.ErrorCodes.{NONE}
use Rattle.jdwp_wire.specs.Streams.{Handshake, Packet}
use Rattle.jdwp_wire.specs.Widths.{Widths}
use Rattle.jdwp_layout.specs.declared.item.Layout.{Layout}
use Rattle.jdwp_layout.specs.Shapes.{ItemShape, shape}
use Rattle.jdwp_layout.specs.Rows.{Row, RowShapes}
use Rattle.jdwp_layout.specs.CommandTable.{row_at}
use Rattle.jdwp_layout.specs.Meanings.{DatumMeaning}
use Rattle.jdwp_layout.specs.Reads.{data_at}
use Rattle.jdwp_show.specs.declared.capture_line.Sender.{Sender}
use Rattle.jdwp_show.specs.declared.capture_line.Sender.TheVariants.{Debugger, Target}
use Rattle.jdwp_show.specs.declared.command_number.CommandNumber.{CommandNumber}
use Rattle.jdwp_show.specs.declared.terms.Terms.{Terms}
use Rattle.jdwp_show.specs.Data.{shapes_under, layout_fault}
use Rattle.jdwp_show.specs.DataText.{data_text, raw_text}
use Rattle.jdwp_show.specs.Found.{Found, Sent, Faulty}

-- ---- data, by the layout of their command

abbrev pub read_text : Result (List DatumMeaning) DataFault → List ℕ → List ℕ
read_text (Ok items) body = data_text items
read_text (Err fault) body = raw_text body

-- as they are, where the command is not known or its data are not read, or the widths of ids are not known
abbrev pub body_text : Option Widths → Option (List ItemShape) → List ℕ → List ℕ
body_text None layout body = raw_text body
body_text (Some widths) None body = raw_text body
body_text (Some widths) (Some layout) body = read_text (data_at widths layout body) body

-- the first fault of such data, where they are read
abbrev pub body_fault : Option Widths → Option (List ItemShape) → List ℕ → Option DataFault
body_fault widths None body = None
body_fault widths (Some layout) body = layout_fault widths layout body

abbrev pub request_in : Option RowShapes → Option (List ItemShape)
request_in None = None
request_in (Some shapes) = Some shapes.request

abbrev pub reply_in : Option RowShapes → Option (List ItemShape)
reply_in None = None
reply_in (Some shapes) = Some shapes.reply

abbrev pub request_text : Terms → CommandNumber → List ℕ → List ℕ
request_text terms command body = body_text terms.sizes (request_in (shapes_under terms.table command)) body

-- a reply with an error has no data to read
abbrev pub reply_text : Terms → CommandNumber → ℕ → List ℕ → List ℕ
reply_text terms command error body = body_text terms.sizes (if error == NONE.0 then reply_in (shapes_under terms.table command) else None) body

-- ---- lines

abbrev pub name_in : Option Row → CommandNumber → List ℕ
name_in None command = decimal command.set ++ codes "." ++ decimal command.number
name_in (Some row) command = row.set_name ++ codes "." ++ row.name

-- `ThreadReference.Suspend`, or the numbers of the set and the command where no table has such a command
abbrev pub name_text : CommandNumber → List ℕ
name_text command = name_in (row_at command.set command.number) command

-- `>` for the debugger, and `<` for the target
abbrev pub mark : Sender → List ℕ
mark Debugger = codes ">"
mark Target = codes "<"

abbrev pub hello_line : Sender → List ℕ
hello_line sender = mark sender ++ codes " hello"

-- `> 1 ThreadReference.Suspend`
abbrev pub command_start : Sender → ℕ → CommandNumber → List ℕ
command_start sender id command = mark sender ++ codes " " ++ decimal id ++ codes " " ++ name_text command

-- `< 1 reply ThreadReference.Suspend 0`
abbrev pub reply_start : Sender → ℕ → CommandNumber → ℕ → List ℕ
reply_start sender id command error = mark sender ++ codes " " ++ decimal id ++ codes " reply " ++ name_text command ++ codes " " ++ decimal error

-- A reply is to the command that waits under its id; one to none breaks a rule, and has no line.
abbrev pub packet_line : Terms → Option CommandNumber → Sender → ℕ → PacketKind → List ℕ → List ℕ
packet_line terms waits sender id (kind.Command set number) body =
    let command : CommandNumber = record { set = set; number = number } in
    command_start sender id command ++ request_text terms command body ++ codes "\n"
packet_line terms None sender id (kind.Reply error) body = []
packet_line terms (Some command) sender id (kind.Reply error) body = reply_start sender id command error.0 ++ reply_text terms command error.0 body ++ codes "\n"

-- with a newline at its end; a frame fault has no line
abbrev pub found_line : Terms → Option CommandNumber → Sender → Found → List ℕ
found_line terms waits sender (Sent Handshake) = hello_line sender ++ codes "\n"
found_line terms waits sender (Sent (Packet header body)) = packet_line terms waits sender header.id header.kind body
found_line terms waits sender (Faulty fault) = []

-- a layout that was found, apart from where it lies in memory
abbrev pub found_shape : Option Layout → Option (List ItemShape)
found_shape None = None
found_shape (Some layout) = Some (shape layout)

-- What can be told of a session that goes on: the lines of `show` and the first fault, as far as nothing that may still be sent can change them.
use Rattle.std.specs.Prelude.{ℕ, ◌+◌, ◌==◌, ◌&&◌, nat_lt, List, [], ◌++◌, length, Bool, false, not, Option, Some, None, if◌then◌else◌}
use Rattle.jdwp_wire.specs.declared.packet.PacketKind.{PacketKind}
use Rattle.jdwp_wire.specs.declared.packet.PacketKind.TheVariants as kind
use Rattle.jdwp_wire.specs.ErrorCodes.{NONE}
use Rattle.jdwp_wire.specs.Streams.{Handshake, Packet}
use Rattle.jdwp_wire.specs.Widths.{Widths}
use Rattle.jdwp_layout.specs.Shapes.{ItemShape}
use Rattle.jdwp_show.specs.declared.capture_fault.CaptureFault.{CaptureFault}
use Rattle.jdwp_show.specs.declared.capture_line.Sender.TheVariants.{Debugger, Target}
use Rattle.jdwp_show.specs.declared.command_number.CommandNumber.{CommandNumber}
use Rattle.jdwp_show.specs.declared.table.Table.{Table}
use Rattle.jdwp_show.specs.declared.table.Table.TheVariants.{Standard}
use Rattle.jdwp_show.specs.declared.terms.Terms.{Terms}
use Rattle.jdwp_show.specs.CaptureLines.{lines_after, last_lines}
use Rattle.jdwp_show.specs.Data.{shapes_under, is_id_sizes}
use Rattle.jdwp_show.specs.Found.{Found, Sent, Faulty}
use Rattle.jdwp_show.specs.Items.{Item, items_of}
use Rattle.jdwp_show.specs.Lines.{Line, sent_by}
use Rattle.jdwp_show.specs.MessageLines.{request_in, reply_in}
use Rattle.jdwp_show.specs.Rules.{waiting_for}
use Rattle.jdwp_show.specs.Sessions.{first_answer, unanswered, widths_answer, terms_of, fault_answer}

-- ---- which messages wait for the widths of ids

-- Where widths of ids are told, data are shown by their layout, and where none ever are, as they are. Only where there are neither items nor bytes is that the same.
abbrev pub has_layout : Option (List ItemShape) → List ℕ → Bool
has_layout None body = false
has_layout (Some layout) body = nat_lt 0 (length layout + length body)

-- A reply to VirtualMachine.IDSizes tells widths or is at fault, whichever hold.
abbrev pub reply_wants_widths : Table → Option CommandNumber → List ℕ → Bool
reply_wants_widths table None body = false
reply_wants_widths table (Some command) body = not (is_id_sizes command) && has_layout (reply_in (shapes_under table command)) body

abbrev pub packet_wants_widths : Table → Option CommandNumber → PacketKind → List ℕ → Bool
packet_wants_widths table waits (kind.Command set number) body = has_layout (request_in (shapes_under table (record { set = set; number = number }))) body
packet_wants_widths table waits (kind.Reply error) body = if error.0 == NONE.0 then reply_wants_widths table waits body else false

-- the line of what was found, or its fault, is another by the widths of ids
abbrev pub wants_widths : Table → Option CommandNumber → Found → Bool
wants_widths table waits (Sent Handshake) = false
wants_widths table waits (Sent (Packet header body)) = packet_wants_widths table waits header.kind body
wants_widths table waits (Faulty fault) = false

-- as a question of each item and those before it
abbrev pub widths_wanted : Table → List Item → Item → Option Item
widths_wanted table before item = if wants_widths table (waiting_for before item.found) item.found then Some item else None

-- ---- of which items all is known

-- Which widths hold for the whole session, once that is sure: an item tells them, or breaks a rule of frames, ends or ids, and then none hold.
abbrev pub settled : List Item → Option (Option Widths)
settled items = first_answer widths_answer items

abbrev pub known_by : Table → Option (Option Widths) → List Item → List Item
known_by table (Some widths) items = items
known_by table None items = unanswered (widths_wanted table) [] items

-- Once the widths are settled all items are known; before that those in front of the first that wants them.
abbrev pub known : Table → List Item → List Item
known table items = known_by table (settled items) items

-- ---- what is told

-- the lines of the items before the first that breaks a rule, where data are read so
abbrev pub lines_under : Terms → List Item → List ℕ
lines_under terms items = lines_after terms [] (unanswered (fault_answer terms) [] items)

abbrev pub fault_under : Terms → List Item → Option (ℕ × CaptureFault)
fault_under terms items = first_answer (fault_answer terms) items

abbrev pub lines_told : Table → List Item → List ℕ
lines_told table items = lines_under (terms_of table items) (known table items)

abbrev pub fault_told : Table → List Item → Option (ℕ × CaptureFault)
fault_told table items = fault_under (terms_of table items) (known table items)

-- ---- of a session, as the pieces that its ends sent so far, each of any length

-- the lines that are told
abbrev pub told_under : Table → List Line → List ℕ
told_under table pieces = lines_told table (items_of pieces)

-- the first fault, and the number, from 1, of the piece in which its last byte stands, if it is told
abbrev pub told_fault_under : Table → List Line → Option (ℕ × CaptureFault)
told_fault_under table pieces = fault_told table (items_of pieces)

-- ---- of a session that has ended: what `show` says of a capture with these lines

abbrev pub whole_fault_under : Table → List Line → Option (ℕ × CaptureFault)
whole_fault_under table pieces = fault_under (terms_of table (items_of pieces)) (items_of pieces)

-- where this is the first fault
abbrev pub whole_by : Table → Option (ℕ × CaptureFault) → List Line → List ℕ
whole_by table fault pieces = lines_under (terms_of table (items_of pieces)) (items_of pieces) ++ last_lines fault (sent_by Debugger pieces) (sent_by Target pieces) (items_of pieces)

abbrev pub whole_under : Table → List Line → List ℕ
whole_under table pieces = whole_by table (whole_fault_under table pieces) pieces

-- ---- by the standard's table

abbrev pub told : List Line → List ℕ
told pieces = told_under Standard pieces

abbrev pub told_fault : List Line → Option (ℕ × CaptureFault)
told_fault pieces = told_fault_under Standard pieces

abbrev pub whole : List Line → List ℕ
whole pieces = whole_under Standard pieces

abbrev pub whole_fault : List Line → Option (ℕ × CaptureFault)
whole_fault pieces = whole_fault_under Standard pieces

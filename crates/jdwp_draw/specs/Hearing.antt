-- What the mirror of a debugger hears of a message of a capture: the reply to a command that waits, and a composite of events (JDWP
-- specification, "Packets" and "Protocol Details"). Data are read by the layout of their command; where it has none, or the widths of
-- ids are not known, they stay as they are.
use Rattle.std.specs.Prelude.{ℕ, ◌==◌, List, [], ◌∷◌, length, Option, Some, None, option_map, Result, Ok, Err, if◌then◌else◌}
use Rattle.std.specs.Result.{result_ok}
use Rattle.jdwp_wire.specs.declared.data_fault.DataFault.{DataFault}
use Rattle.jdwp_wire.specs.declared.error_code.ErrorCode.{ErrorCode}
use Rattle.jdwp_wire.specs.declared.packet.PacketKind.{PacketKind}
use Rattle.jdwp_wire.specs.declared.packet.PacketKind.TheVariants as kind
use Rattle.jdwp_wire.specs.ErrorCodes.{NONE}
use Rattle.jdwp_wire.specs.Streams as streams
use Rattle.jdwp_wire.specs.Widths.{Widths}
use Rattle.jdwp_layout.specs.CommandNumbers.{is_command, COMPOSITE}
use Rattle.jdwp_layout.specs.Meanings.{DatumMeaning}
use Rattle.jdwp_layout.specs.Meanings as meanings
use Rattle.jdwp_layout.specs.Reads.{data_at}
use Rattle.jdwp_layout.specs.Shapes.{ItemShape}
use Rattle.jdwp_layout.specs.declared.answer.Answer.{Answer}
use Rattle.jdwp_layout.specs.declared.answer.Answer.TheVariants.{Data, Error}
use Rattle.jdwp_event.specs.Composites.{CompositeMeaning}
use Rattle.jdwp_event.specs.CompositeBytes.{composite_at}
use Rattle.jdwp_action.specs.Actions.{Carried, Content, Raw, Command}
use Rattle.jdwp_mirror.specs.Messages.{Message, Reply, Report}
use Rattle.jdwp_draw.specs.declared.sender.Sender.{Sender}
use Rattle.jdwp_draw.specs.declared.sender.Sender.TheVariants.{Debugger, Target}
use Rattle.jdwp_show.specs.declared.command_number.CommandNumber.{CommandNumber}
use Rattle.jdwp_show.specs.Data.{shapes_of}
use Rattle.jdwp_show.specs.MessageLines.{request_in, reply_in}

abbrev pub numbered : ℕ → ℕ → CommandNumber
numbered set number = record { set = set; number = number }

-- ---- data

-- what data say under a layout; None where they are not read
abbrev pub content_found : Option Widths → Option (List ItemShape) → List ℕ → Option (List DatumMeaning)
content_found None layout bytes = None
content_found (Some w) None bytes = None
content_found (Some w) (Some layout) bytes = result_ok (data_at w layout bytes)

abbrev pub carried_of : Option (List DatumMeaning) → List ℕ → Carried
carried_of None bytes = Raw bytes
carried_of (Some content) bytes = Content content

abbrev pub content_of : Option (List DatumMeaning) → List ℕ → List DatumMeaning
content_of None bytes = meanings.Raw bytes ∷ []
content_of (Some content) bytes = content

-- the command of a set and a number with these data
abbrev pub command_of : Option Widths → ℕ → ℕ → List ℕ → Command
command_of widths set number bytes =
    record { set = set; number = number; carried = carried_of (content_found widths (request_in (shapes_of (numbered set number))) bytes) bytes }

-- the answer to a command of a set and a number with this error code and these data
abbrev pub answer_of : Option Widths → ℕ → ℕ → ErrorCode → List ℕ → Answer
answer_of widths set number error bytes =
    if error.0 == NONE.0 then Data (content_of (content_found widths (reply_in (shapes_of (numbered set number))) bytes) bytes) else Error error

-- ---- composites

-- what all of the bytes are
abbrev pub whole : Result (CompositeMeaning × List ℕ) DataFault → Option CompositeMeaning
whole (Ok x) = if length x.1 == 0 then Some x.0 else None
whole (Err fault) = None

abbrev pub composite_of : Option Widths → List ℕ → Option CompositeMeaning
composite_of None bytes = None
composite_of (Some w) bytes = whole (composite_at w (length bytes) bytes)

-- ---- messages

abbrev pub reply_heard : Option Widths → Option Command → ErrorCode → List ℕ → Option Message
reply_heard widths None error bytes = None
reply_heard widths (Some c) error bytes = Some (Reply None c (answer_of widths c.set c.number error bytes))

abbrev pub packet_heard : Option Widths → Option Command → PacketKind → List ℕ → Option Message
packet_heard widths waits (kind.Command set number) bytes = if is_command COMPOSITE set number then option_map (λ c. Report c) (composite_of widths bytes) else None
packet_heard widths waits (kind.Reply error) bytes = reply_heard widths waits error bytes

-- what is heard of a message, where these commands wait under their ids: nothing of what the debugger itself sends
abbrev pub heard : Option Widths → (ℕ → Option Command) → Sender → streams.Message → Option Message
heard widths waits sender streams.Handshake = None
heard widths waits Debugger (streams.Packet header body) = None
heard widths waits Target (streams.Packet header body) = packet_heard widths (waits header.id) header.kind body

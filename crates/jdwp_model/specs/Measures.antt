-- How many bytes messages have with ids of these widths, and which commands can't be sent in packets of so many bytes at most (JDWP
-- specification, "JDWP Handshake" and "JDWP Packets"): what both ends measure.
use Rattle.std.specs.Prelude.{ℕ, ◌+◌, nat_lt, not, length, Option, Some, None, if◌then◌else◌}
use Rattle.jdwp_wire.specs.Handshake.{handshake_bytes}
use Rattle.jdwp_wire.specs.Limits.{Limits}
use Rattle.jdwp_wire.specs.Widths.{Widths}
use Rattle.jdwp_layout.specs.Writes.{data_canonical}
use Rattle.jdwp_event.specs.Composites.{composite_data}
use Rattle.jdwp_action.specs.Actions.{Command}
use Rattle.jdwp_action.specs.CommandPackets.{is_for_target, packet_length}
use Rattle.jdwp_action.specs.AnswerPackets.{answer_bytes}
use Rattle.jdwp_mirror.specs.Messages.{Call, Greets, Asks, Message, Handshake, Reply, Report}
use Rattle.jdwp_model.specs.Events
use Rattle.jdwp_model.specs.Events.{AskRefusal}
use Rattle.jdwp_model.specs.World.{Measure}

abbrev pub call_size : Widths → Call → ℕ
call_size w Greets = length handshake_bytes
call_size w (Asks ticket c) = packet_length w c

-- behind the 11 bytes of a packet's header
abbrev pub message_size : Widths → Message → ℕ
message_size w Handshake = length handshake_bytes
message_size w (Reply ticket c answer) = 11 + length (answer_bytes w answer)
message_size w (Report c) = 11 + length (data_canonical w (composite_data c))

-- the first that applies
abbrev pub unfit : Widths → Limits → Command → Option AskRefusal
unfit w limits c =
    if not (is_for_target w c) then Some Events.BadCommand else
    (if nat_lt limits.packet (packet_length w c) then Some Events.TooLong else None)

abbrev pub measured : Widths → Limits → Measure
measured w limits = record { call = call_size w; message = message_size w; unfit = unfit w limits }

-- Commands that ask for a reply, and the replies to them.
use Rattle.std.specs.Prelude.{ℕ, List, Bool, true, false, Option, is_some}
use Rattle.std.specs.List.{count_by}
use Rattle.jdwp_wire.specs.declared.packet.PacketKind.{PacketKind}
use Rattle.jdwp_wire.specs.declared.packet.PacketKind.TheVariants as kind
use Rattle.jdwp_wire.specs.Streams.{Handshake, Packet}
use Rattle.jdwp_show.specs.declared.capture_line.Sender.{Sender}
use Rattle.jdwp_show.specs.declared.capture_line.Sender.TheVariants.{Debugger, Target}
use Rattle.jdwp_show.specs.declared.command_number.CommandNumber.{CommandNumber}
use Rattle.jdwp_show.specs.Found.{Found, Sent, Faulty}
use Rattle.jdwp_show.specs.Items.{Item}

-- a command of the debugger asks for a reply
abbrev pub packet_asks : Sender → PacketKind → Bool
packet_asks Debugger (kind.Command set number) = true
packet_asks Debugger (kind.Reply error) = false
packet_asks Target (kind.Command set number) = false
packet_asks Target (kind.Reply error) = false

-- a reply of the target answers one
abbrev pub packet_answers : Sender → PacketKind → Bool
packet_answers Debugger (kind.Command set number) = false
packet_answers Debugger (kind.Reply error) = false
packet_answers Target (kind.Command set number) = false
packet_answers Target (kind.Reply error) = true

abbrev pub asks : Sender → Found → Bool
asks sender (Sent Handshake) = false
asks sender (Sent (Packet header body)) = packet_asks sender header.kind
asks sender (Faulty fault) = false

abbrev pub answers : Sender → Found → Bool
answers sender (Sent Handshake) = false
answers sender (Sent (Packet header body)) = packet_answers sender header.kind
answers sender (Faulty fault) = false

-- how many commands of the debugger are among the items, and how many replies of the target
abbrev pub count_asked : List Item → ℕ
count_asked items = count_by (λ item. asks item.sender item.found) items

abbrev pub count_answered : List Item → ℕ
count_answered items = count_by (λ item. answers item.sender item.found) items

-- how many commands wait in a row
abbrev pub some_in : List (Option CommandNumber) → ℕ
some_in row = count_by is_some row

-- The rules of a session, and which of them an item breaks after the items before it.
use Rattle.std.specs.Prelude.{◌≡◌, ℕ, ◌==◌, ◌&&◌, nat_le, List, length, Bool, true, false, Option, Some, None, is_some, option_map, fold, if◌then◌else◌}
use Rattle.std.specs.List.{list_any}
use Rattle.std.specs.Option.{option_or}
use Rattle.jdwp_wire.specs.declared.packet.PacketKind.{PacketKind}
use Rattle.jdwp_wire.specs.declared.packet.PacketKind.TheVariants as kind
use Rattle.jdwp_wire.specs.ErrorCodes.{NONE}
use Rattle.jdwp_wire.specs.Streams.{Handshake, Packet}
use Rattle.jdwp_layout.specs.CommandNumbers.{is_command, EVENT, COMPOSITE}
use Rattle.jdwp_show.specs.declared.capture_fault.CaptureFault.{CaptureFault}
use Rattle.jdwp_show.specs.declared.capture_fault.CaptureFault.TheVariants.{Frame, IdInUse, UnknownReply, BadData, ErrorWithData, WrongWay}
use Rattle.jdwp_show.specs.declared.capture_line.Sender.{Sender}
use Rattle.jdwp_show.specs.declared.capture_line.Sender.TheVariants.{Debugger, Target}
use Rattle.jdwp_show.specs.declared.command_number.CommandNumber.{CommandNumber}
use Rattle.jdwp_show.specs.declared.terms.Terms.{Terms}
use Rattle.jdwp_show.specs.Found.{Found, Sent, Faulty}
use Rattle.jdwp_show.specs.Items.{Item}
use Rattle.jdwp_show.specs.Data.{request_fault, reply_fault}

-- ---- what the items before say

abbrev pub is_handshake : Found → Bool
is_handshake (Sent Handshake) = true
is_handshake (Sent (Packet header body)) = false
is_handshake (Faulty fault) = false

abbrev pub is_debugger : Sender → Bool
is_debugger Debugger = true
is_debugger Target = false

-- the debugger's handshake is among them
abbrev pub has_begun : List Item → Bool
has_begun items = list_any (λ item. is_debugger item.sender && is_handshake item.found) items

-- A command of the debugger waits under its id for its reply. A reply of the target ends the wait under its id.
abbrev pub waits_after : ℕ → Sender → ℕ → PacketKind → Option CommandNumber → Option CommandNumber
waits_after id Debugger this (kind.Command set number) before = if this == id then Some (record { set = set; number = number }) else before
waits_after id Debugger this (kind.Reply error) before = before
waits_after id Target this (kind.Command set number) before = before
waits_after id Target this (kind.Reply error) before = if this == id then None else before

abbrev pub waits_after_found : ℕ → Sender → Found → Option CommandNumber → Option CommandNumber
waits_after_found id sender (Sent Handshake) before = before
waits_after_found id sender (Sent (Packet header body)) before = waits_after id sender header.id header.kind before
waits_after_found id sender (Faulty fault) before = before

-- the command that waits under an id after these items: the last of them that speaks of the id decides
abbrev pub waiting : List Item → ℕ → Option CommandNumber
waiting items id = fold (λ before item. waits_after_found id item.sender item.found before) None items

-- what waits under the id of what was found
abbrev pub under : (ℕ → Option CommandNumber) → Found → Option CommandNumber
under waits (Sent Handshake) = None
under waits (Sent (Packet header body)) = waits header.id
under waits (Faulty fault) = None

abbrev pub waiting_for : List Item → Found → Option CommandNumber
waiting_for items found = under (waiting items) found

-- ---- the rules of frames, ends and ids

-- a command of the debugger, where this one waits under its id
abbrev pub command_fault : Option CommandNumber → PacketKind → Option CaptureFault
command_fault waits (kind.Command set number) = if nat_le EVENT set then Some WrongWay else (if is_some waits then Some IdInUse else None)
command_fault waits (kind.Reply error) = Some WrongWay

-- a packet of the target, where this command waits under its id: Event.Composite, or a reply
abbrev pub target_fault : Option CommandNumber → PacketKind → Option CaptureFault
target_fault waits (kind.Command set number) = if is_command COMPOSITE set number then None else Some WrongWay
target_fault waits (kind.Reply error) = if is_some waits then None else Some UnknownReply

abbrev pub order_fault : Bool → Option CommandNumber → Sender → Found → Option CaptureFault
order_fault begun waits sender (Faulty fault) = Some (Frame fault)
order_fault begun waits Debugger (Sent Handshake) = None
order_fault begun waits Target (Sent Handshake) = if begun then None else Some WrongWay
order_fault begun waits Debugger (Sent (Packet header body)) = command_fault waits header.kind
order_fault begun waits Target (Sent (Packet header body)) = target_fault waits header.kind

-- ---- the rule of data

abbrev pub packet_data_fault : Terms → Option CommandNumber → Sender → PacketKind → List ℕ → Option CaptureFault
packet_data_fault terms waits sender (kind.Command set number) body = option_map BadData (request_fault terms (record { set = set; number = number }) body)
packet_data_fault terms waits Debugger (kind.Reply error) body = None
packet_data_fault terms waits Target (kind.Reply error) body =
    if error.0 == NONE.0 then option_map BadData (reply_fault terms waits body) else (if length body == 0 then None else Some ErrorWithData)

abbrev pub data_fault : Terms → Option CommandNumber → Sender → Found → Option CaptureFault
data_fault terms waits sender (Sent Handshake) = None
data_fault terms waits sender (Sent (Packet header body)) = packet_data_fault terms waits sender header.kind body
data_fault terms waits sender (Faulty fault) = None

-- ---- both

-- the rule of frames, ends and ids that the item breaks
abbrev pub order_fault_of : List Item → Item → Option CaptureFault
order_fault_of before item = order_fault (has_begun before) (waiting_for before item.found) item.sender item.found

-- the rule that the item breaks: that of data is the last to be looked at
abbrev pub fault_of : Terms → List Item → Item → Option CaptureFault
fault_of terms before item = option_or (order_fault_of before item) (data_fault terms (waiting_for before item.found) item.sender item.found)

-- What was found breaks no rule, where this command waits under its id, whether the debugger's handshake was before it or not.
pub record Holds (terms : Terms) (waits : Option CommandNumber) (sender : Sender) (found : Found) : Type 0 where
  pub begun : Bool
  pub none_broken : option_or (order_fault begun waits sender found) (data_fault terms waits sender found) ≡ None

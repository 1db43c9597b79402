-- Which command waits under an id, and which widths of ids hold, as relations.
use Rattle.std.specs.Prelude.{◌≡◌, ℕ, ◌==◌, ◌&&◌, not, Bool, true, false, List, ◌∷◌, ◌++◌, Some, None}
use Rattle.std.specs.List.{AllByRecursion}
use Rattle.jdwp_wire.specs.declared.packet.Header.{Header}
use Rattle.jdwp_wire.specs.declared.packet.PacketKind.{PacketKind}
use Rattle.jdwp_wire.specs.declared.packet.PacketKind.TheVariants as kind
use Rattle.jdwp_wire.specs.Streams.{Handshake, Packet}
use Rattle.jdwp_wire.specs.Widths.{Widths}
use Rattle.jdwp_show.specs.declared.capture_line.Sender.{Sender}
use Rattle.jdwp_show.specs.declared.capture_line.Sender.TheVariants.{Debugger, Target}
use Rattle.jdwp_show.specs.declared.command_number.CommandNumber.{CommandNumber}
use Rattle.jdwp_show.specs.Found.{Found, Sent, Faulty}
use Rattle.jdwp_show.specs.Items.{Item}
use Rattle.jdwp_show.specs.Rules.{waiting_for, order_fault_of}
use Rattle.jdwp_show.specs.Sessions.{told_widths}

-- ---- commands that wait

-- the item is this command of the debugger, under this id
pub record IsCommand (id : ℕ) (command : CommandNumber) (item : Item) : Type 0 where
  pub header : Header
  pub body : List ℕ
  pub is_packet : item.found ≡ Sent (Packet header body)
  pub by_debugger : item.sender ≡ Debugger
  pub under_id : header.id ≡ id
  pub is_command : header.kind ≡ kind.Command command.set command.number

abbrev pub is_reply : PacketKind → Bool
is_reply (kind.Command set number) = false
is_reply (kind.Reply error) = true

-- what was found is a command of the debugger or a reply of the target, under this id
abbrev pub speaks_of : ℕ → Sender → Found → Bool
speaks_of id sender (Sent Handshake) = false
speaks_of id sender (Faulty fault) = false
speaks_of id Debugger (Sent (Packet header body)) = not (is_reply header.kind) && (header.id == id)
speaks_of id Target (Sent (Packet header body)) = is_reply header.kind && (header.id == id)

abbrev pub IsSilent : ℕ → Item → Type 0
IsSilent id item = speaks_of id item.sender item.found ≡ false

-- the command stands among the items, and none behind it speaks of its id
pub record Waits (items : List Item) (id : ℕ) (command : CommandNumber) : Type 0 where
  pub before : List Item
  pub item : Item
  pub after : List Item
  pub items_are : items ≡ before ++ item ∷ after
  pub is_command : IsCommand id command item
  pub none_behind : AllByRecursion (IsSilent id) after

-- ---- widths of ids

-- an item neither tells widths nor breaks a rule of frames, ends or ids, these standing before it
pub record GoesOn (before : List Item) (item : Item) : Type 0 where
  pub holds : order_fault_of before item ≡ None
  pub tells_none : told_widths (waiting_for before item.found) item.sender item.found ≡ None

-- The item is the first that tells widths, and none up to it breaks a rule of frames, ends or ids.
pub record TellsWidths (items : List Item) (widths : Widths) : Type 0 where
  pub before : List Item
  pub item : Item
  pub after : List Item
  pub items_are : items ≡ before ++ item ∷ after
  pub earlier_go_on : (first : List Item) (other : Item) (others : List Item) → before ≡ first ++ other ∷ others → GoesOn first other
  pub holds : order_fault_of before item ≡ None
  pub tells : told_widths (waiting_for before item.found) item.sender item.found ≡ Some widths

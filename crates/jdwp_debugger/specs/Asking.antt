-- What asking a command does, and why a debugger refuses to (JDWP specification, "Packets": ids are unique among the outstanding commands
-- of one source).
use Rattle.std.specs.Prelude.{◌≡◌, ℕ, ◌+◌, ◌^◌, ◌%◌, ◌<◌, ◌≤◌, ◌==◌, nat_le, nat_lt, Bool, true, false, ◌||◌, not, List, [], ◌∷◌, ◌++◌, length, Option, Some, None, Result, Ok, Err, if◌then◌else◌}
use Rattle.std.specs.List.{list_any}
use Rattle.jdwp_wire.specs.ErrorCodes.{NOT_IMPLEMENTED}
use Rattle.jdwp_wire.specs.Widths.{Widths}
use Rattle.jdwp_wire.specs.Frames.{IsPacket, packet_bytes}
use Rattle.jdwp_wire.specs.declared.error_code.ErrorCode.{ErrorCode}
use Rattle.jdwp_wire.specs.declared.packet.Header.{Header}
use Rattle.jdwp_wire.specs.declared.packet.PacketKind.TheVariants as packet
use Rattle.jdwp_layout.specs.CommandTable.{row_at}
use Rattle.jdwp_layout.specs.Grammar.{EncodesData}
use Rattle.jdwp_layout.specs.Meanings.{meanings}
use Rattle.jdwp_layout.specs.Rows.{Row, RowShapes}
use Rattle.jdwp_layout.specs.Shapes.{shape}
use Rattle.jdwp_layout.specs.Writes.{data_canonical}
use Rattle.jdwp_end.specs.declared.phase.Phase.TheVariants.{Established}
use Rattle.jdwp_end.specs.Ends.{is_open, is_paused, with_enqueued}
use Rattle.jdwp_action.specs.Actions.{Carried, Content, Raw, Command, is_implemented}
use Rattle.jdwp_action.specs.CommandPackets.{carried_bytes, is_for_target, packet_length}
use Rattle.jdwp_action.specs.CommandReads.{command_read}
use Rattle.jdwp_watch.specs.Ledgers.{put_of}
use Rattle.jdwp_debugger.specs.FollowingKept.{ledger_put}
use Rattle.jdwp_debugger.specs.declared.asking.Refused.{Refused}
use Rattle.jdwp_debugger.specs.declared.asking.Refused.TheVariants.{Closed, NotReady, Busy, BadCommand, TooLong, NoMemory}
use Rattle.jdwp_debugger.specs.declared.asking.Body.{Body}
use Rattle.jdwp_debugger.specs.declared.asking.Body.TheVariants as body
use Rattle.jdwp_debugger.specs.Debuggers.{Asked, Debugger}
use Rattle.jdwp_mirror.specs.Messages.{LAST_TICKET}

-- ---- the command's packet

abbrev pub command_header : Widths → ℕ → Command → Header
command_header w id c = record { length = packet_length w c; id = id; kind = packet.Command c.set c.number }

-- the command as it is sent under an id
abbrev pub command_bytes : Widths → ℕ → Command → List ℕ
command_bytes w id c = packet_bytes (command_header w id c) (carried_bytes w c.carried)

-- the same of what was found to fit
abbrev pub body_bytes : Widths → Body → List ℕ
body_bytes w (body.Laid layout items) = data_canonical w (meanings items.now)
body_bytes w (body.Raw bytes) = bytes.now

-- its bytes encode it
abbrev pub EncodesBody : Widths → Body → Type 0
EncodesBody w (body.Laid layout items) = EncodesData w (shape layout) (meanings items.now) (data_canonical w (meanings items.now))
EncodesBody w (body.Raw bytes) = Unit {0}

-- What a command carries is encoded by the bytes that are sent for it, in the layout of its row: so whoever reads them by that layout
-- reads what was asked. Raw bytes are not read.
abbrev pub EncodesShapes : Widths → Option RowShapes → Carried → Type 0
EncodesShapes w None (Raw bytes) = Unit {0}
EncodesShapes w (Some shapes) (Content content) = EncodesData w shapes.request content (data_canonical w content)
EncodesShapes w shapes carried = ⊥

abbrev pub EncodesRow : Widths → Option Row → Carried → Type 0
EncodesRow w None carried = ⊥
EncodesRow w (Some row) carried = EncodesShapes w row.shapes carried

abbrev pub EncodesCommand : Widths → Command → Type 0
EncodesCommand w c = EncodesRow w (row_at c.set c.number) c.carried

-- A command reads as itself where a target carries out its row, and is refused unread else.
abbrev pub read_where : Command → Bool → Result Command ErrorCode
read_where c true = Ok c
read_where c false = Err NOT_IMPLEMENTED

-- What a target whose ids are so wide makes of the data that are sent for a command.
abbrev pub ReadsAsAsked : Widths → Command → Type 0
ReadsAsAsked w c = command_read w c.set c.number (carried_bytes w c.carried) ≡ read_where c (is_implemented c)

-- ---- why a command is not asked

-- as many commands wait for replies as may, so much waits to leave that the end is paused, or all tickets were given
abbrev pub is_busy : Debugger → Bool
is_busy d = nat_le d.end.limits.pending (length d.pending) || (is_paused d.end || nat_le LAST_TICKET d.tickets)

abbrev pub refusal_by : Option Widths → Debugger → Command → Option Refused
refusal_by None d c = Some NotReady
refusal_by (Some w) d c =
    if is_busy d then Some Busy else
    (if not (is_for_target w c) then Some BadCommand else
    (if nat_lt d.end.limits.packet (packet_length w c) then Some TooLong else None))

-- the first that applies
abbrev pub refusal_of_ask : Debugger → Command → Option Refused
refusal_of_ask d c = if is_open d.end then refusal_by d.sizes d c else Some Closed

-- Want of memory refuses only what nothing else does.
abbrev pub IsRefusal : Refused → Option Refused → Type 0
IsRefusal NoMemory refusal = refusal ≡ None
IsRefusal e refusal = refusal ≡ Some e

-- ---- the id of a packet

abbrev pub is_under : ℕ → Asked → Bool
is_under id p = p.id == id

-- a command waits for its reply under this id
abbrev pub is_outstanding : List Asked → ℕ → Bool
is_outstanding pending id = list_any (is_under id) pending

-- so many ids on: 0 follows 4,294,967,295
abbrev pub id_after : ℕ → ℕ → ℕ
id_after from n = (from + n) % 2 ^ 32

-- The first id from this one on that is not outstanding: so many before it were passed over, as they are.
pub record IsNextFree (pending : List Asked) (from : ℕ) (id : ℕ) : Type 0 where
  pub passed : ℕ
  pub is : id ≡ id_after from passed
  pub free : is_outstanding pending id ≡ false
  pub others : (n : ℕ) → n < passed → is_outstanding pending (id_after from n) ≡ true

-- ---- what asking does

-- The packet is put behind what waits to leave, and the command behind those that wait for replies, under the next ticket.
abbrev pub asked : Widths → ℕ → Command → Debugger → Debugger
asked w id c d = record d {
  end = with_enqueued (command_bytes w id c) d.end;
  pending = d.pending ++ record { id = id; ticket = Some (record { 0 = d.tickets + 1 }); command = c } ∷ [];
  next_id = id_after id 1;
  tickets = d.tickets + 1;
  ledger = ledger_put (put_of c) d.ledger;
}

-- A command was asked, after the target's handshake and once the widths of ids were known: under the next free id, in a packet within the
-- limit, whose bytes encode the command.
pub record HasAsked (command : Command) (old : Debugger) (new : Debugger) : Type 0 where
  pub established : old.end.phase ≡ Established
  pub widths : Widths
  pub known : old.sizes ≡ Some widths
  pub id : ℕ
  pub next : IsNextFree old.pending old.next_id id
  pub encoded : EncodesCommand widths command
  pub sendable : IsPacket old.end.limits.packet (command_header widths id command) (carried_bytes widths command.carried)
  pub is : new ≡ asked widths id command old

-- A command that may be asked: what it carries in so wide ids, and that its packet of so many bytes has room. Its length is told in four
-- bytes.
pub record IsAdmitted (d : Debugger) (command : Command) (widths : Widths) (carried : Body) (size : ℕ) : Type 0 where
  pub unrefused : refusal_of_ask d command ≡ None
  pub known : d.sizes ≡ Some widths
  pub bytes : body_bytes widths carried ≡ carried_bytes widths command.carried
  pub encodes : EncodesBody widths carried → EncodesCommand widths command
  pub size_is : size ≡ packet_length widths command
  pub size_most : size ≤ d.end.limits.packet
  pub size_fits : size < 2 ^ 32
  pub few : length d.pending < d.end.limits.pending
  pub room : length d.end.outgoing < d.end.limits.packet
  pub left : d.tickets < LAST_TICKET

-- The packet of a command that may be asked, and that it has room.
pub record MayLeave (d : Debugger) (command : Command) (id : ℕ) (bytes : List ℕ) : Type 0 where
  pub unrefused : refusal_of_ask d command ≡ None
  pub widths : Widths
  pub known : d.sizes ≡ Some widths
  pub bytes_are : bytes ≡ command_bytes widths id command
  pub encoded : EncodesCommand widths command
  pub sendable : IsPacket d.end.limits.packet (command_header widths id command) (carried_bytes widths command.carried)
  pub size_most : length bytes ≤ d.end.limits.packet
  pub few : length d.pending < d.end.limits.pending
  pub room : length d.end.outgoing < d.end.limits.packet
  pub left : d.tickets < LAST_TICKET

-- What packets from a target say to a debugger by their bytes (JDWP specification, "Packets" and "Protocol Details"), or why they are
-- refused: a reply by the layout of the command that it answers, a composite by its own.
use Rattle.std.specs.Prelude.{◌≡◌, ℕ, ◌==◌, Bool, List, [], ◌∷◌, length, slice_get, Option, Some, None, Result, Ok, Err, unwrap_or, if◌then◌else◌}
use Rattle.std.specs.List.{position_from}
use Rattle.jdwp_wire.specs.declared.data_fault.DataFault.{DataFault}
use Rattle.jdwp_wire.specs.declared.error_code.ErrorCode.{ErrorCode}
use Rattle.jdwp_wire.specs.ErrorCodes.{NONE}
use Rattle.jdwp_wire.specs.Widths.{Widths}
use Rattle.jdwp_wire.specs.declared.packet.PacketKind.{PacketKind}
use Rattle.jdwp_wire.specs.declared.packet.PacketKind.TheVariants as kind
use Rattle.jdwp_layout.specs.declared.answer.Answer.{Answer}
use Rattle.jdwp_layout.specs.declared.answer.Answer.TheVariants.{Data, Error}
use Rattle.jdwp_layout.specs.CommandNumbers.{COMPOSITE, is_command}
use Rattle.jdwp_layout.specs.CommandTable.{row_at}
use Rattle.jdwp_layout.specs.Meanings.{DatumMeaning, Raw}
use Rattle.jdwp_layout.specs.Reads.{data_at}
use Rattle.jdwp_layout.specs.Shapes.{ItemShape}
use Rattle.jdwp_event.specs.Composites.{CompositeMeaning}
use Rattle.jdwp_event.specs.CompositeBytes.{composite_at}
use Rattle.jdwp_action.specs.Actions.{Command}
use Rattle.jdwp_action.specs.RowLayouts.{row_reply}
use Rattle.jdwp_debugger.specs.declared.faults.DebuggerFault.{DebuggerFault}
use Rattle.jdwp_debugger.specs.declared.faults.DebuggerFault.TheVariants.{UnknownReply, BadReply, TooManyParked, BadEvent, NoMemory}
use Rattle.jdwp_debugger.specs.declared.order.Order.{Order}
use Rattle.jdwp_debugger.specs.declared.order.Order.TheVariants.{One, Apart}
use Rattle.jdwp_debugger.specs.declared.pending.Ticket.{Ticket}
use Rattle.jdwp_debugger.specs.Debuggers.{Asked, Parked}
use Rattle.jdwp_mirror.specs.Faults.{PARKED_MOST, is_bad_reply}
use Rattle.jdwp_mirror.specs.Widths.{widths_in}

-- ---- composites

-- a value that is read, and nothing behind it
abbrev pub whole : {X : Type 0} → Result (X × List ℕ) DataFault → Option X
whole (Ok x) = if length x.1 == 0 then Some x.0 else None
whole (Err fault) = None

-- the composite that all of these bytes are
abbrev pub composite_in : Widths → List ℕ → Option CompositeMeaning
composite_in w bytes = whole (composite_at w (length bytes) bytes)

-- in front of the others, where all of them are composites
abbrev pub with_first : Option CompositeMeaning → Option (List CompositeMeaning) → Option (List CompositeMeaning)
with_first None cs = None
with_first (Some c) None = None
with_first (Some c) (Some cs) = Some (c ∷ cs)

-- the composites that waited
abbrev pub composites_in : Widths → List Parked → Option (List CompositeMeaning)
composites_in w [] = Some []
composites_in w (p ∷ ps) = with_first (composite_in w p.body) (composites_in w ps)

-- ---- answers

-- the bytes of a reply whose data are not read, as they are
abbrev pub raw_data : List ℕ → List DatumMeaning
raw_data bytes = Raw bytes ∷ []

abbrev pub content_in : Result (List DatumMeaning) DataFault → Option Answer
content_in (Ok content) = Some (Data content)
content_in (Err fault) = None

abbrev pub data_by : Widths → Option (List ItemShape) → List ℕ → Option Answer
data_by w None bytes = Some (Data (raw_data bytes))
data_by w (Some shape) bytes = content_in (data_at w shape bytes)

-- the answer of a reply with this error code and these data: an error has no data
abbrev pub answer_in : Widths → Command → ErrorCode → List ℕ → Option Answer
answer_in w c e bytes =
    if e.0 == NONE.0 then data_by w (row_reply (row_at c.set c.number)) bytes else (if length bytes == 0 then Some (Error e) else None)

-- the same by the order: a target that sends replies by a thread of its own may put into a reply with an error what it had written of its
-- data by then, which say nothing
abbrev pub answer_by : Order → Widths → Command → ErrorCode → List ℕ → Option Answer
answer_by One w c e bytes = answer_in w c e bytes
answer_by Apart w c e bytes = if e.0 == NONE.0 then data_by w (row_reply (row_at c.set c.number)) bytes else Some (Error e)

-- an answer that a debugger can use
abbrev pub unless_bad : Command → Option Answer → Option Answer
unless_bad c None = None
unless_bad c (Some answer) = if is_bad_reply c answer then None else Some answer

-- ---- the widths of ids

-- the widths by which replies are read; before they are known IDSizes alone waits for its reply, in which no id stands
abbrev pub EIGHT : Widths
EIGHT = record { field = 8; method = 8; object = 8; reference = 8; frame = 8 }

abbrev pub widths_by : Option Widths → Widths
widths_by sizes = unwrap_or sizes EIGHT

-- ---- which command a reply answers

abbrev pub has_id : ℕ → Asked → Bool
has_id id asked = asked.id == id

-- the place of the command that waits under an id
abbrev pub place_of : ℕ → List Asked → Option ℕ
place_of id pending = position_from (has_id id) 0 pending

-- ---- what a packet says

-- The data of a composite, to be read once the widths of ids are known; a composite; the answer to the command at a place, which has
-- this ticket; and the answer to IDSizes at a place, with its widths and the composites that waited for them.
pub data News : Type 0 where
  Waits : List ℕ → News
  Happens : CompositeMeaning → News
  Answers : ℕ → ℕ → Answer → News
  Measures : ℕ → Answer → Widths → List CompositeMeaning → News

-- What a debugger reads packets by: the order in which the target sends, the widths of ids, if it knows them, the composites that wait for them, and the commands that wait
-- for replies.
pub record Reading : Type 0 where
  pub order : Order
  pub sizes : Option Widths
  pub parked : List Parked
  pub pending : List Asked

abbrev pub event_says_by : Option CompositeMeaning → Result News DebuggerFault
event_says_by None = Err BadEvent
event_says_by (Some c) = Ok (Happens c)

-- a composite: it waits where the widths of ids are not known, behind four others at most
abbrev pub event_says : Option Widths → List Parked → List ℕ → Result News DebuggerFault
event_says None parked bytes = if length parked == PARKED_MOST then Err TooManyParked else Ok (Waits bytes)
event_says (Some w) parked bytes = event_says_by (composite_in w bytes)

-- the widths, and with them what waited
abbrev pub with_composites : ℕ → Answer → Widths → Option (List CompositeMeaning) → Result News DebuggerFault
with_composites place answer w None = Err BadEvent
with_composites place answer w (Some cs) = Ok (Measures place answer w cs)

abbrev pub sizes_say : List Parked → ℕ → Answer → Option Widths → Result News DebuggerFault
sizes_say parked place answer None = Err BadReply
sizes_say parked place answer (Some w) = with_composites place answer w (composites_in w parked)

abbrev pub answer_says : List Parked → ℕ → Option Ticket → Option Answer → Result News DebuggerFault
answer_says parked place ticket None = Err BadReply
answer_says parked place (Some k) (Some answer) = Ok (Answers place k.0 answer)
answer_says parked place None (Some answer) = sizes_say parked place answer (widths_in answer)

-- the reply to a command
abbrev pub reply_says : Reading → ErrorCode → List ℕ → ℕ → Asked → Result News DebuggerFault
reply_says r e bytes place asked = answer_says r.parked place asked.ticket (unless_bad asked.command (answer_by r.order (widths_by r.sizes) asked.command e bytes))

abbrev pub reply_to : Reading → ErrorCode → List ℕ → ℕ → Option Asked → Result News DebuggerFault
reply_to r e bytes place None = Err UnknownReply
reply_to r e bytes place (Some asked) = reply_says r e bytes place asked

abbrev pub reply_at : Reading → ErrorCode → List ℕ → Option ℕ → Result News DebuggerFault
reply_at r e bytes None = Err UnknownReply
reply_at r e bytes (Some place) = reply_to r e bytes place (slice_get r.pending place)

-- What a packet of this id and kind with these data says, or why it is refused: a reply is one to the command that waits under its id,
-- and a command is Event.Composite.
abbrev pub says : Reading → ℕ → PacketKind → List ℕ → Result News DebuggerFault
says r id (kind.Command set number) bytes = if is_command COMPOSITE set number then event_says r.sizes r.parked bytes else Err BadEvent
says r id (kind.Reply e) bytes = reply_at r e bytes (place_of id r.pending)

-- ---- what calls answer

-- what there has to be, or else this fault
abbrev pub required : {X : Type 0} → DebuggerFault → Option X → Result X DebuggerFault
required fault None = Err fault
required fault (Some x) = Ok x

-- want of memory says nothing of a packet
abbrev pub Fails : {Y : Type 0} → DebuggerFault → Result Y DebuggerFault → Type 0
Fails NoMemory said = Unit {0}
Fails fault said = said ≡ Err fault

-- what a call answered is what a packet says, unless memory ran out
abbrev pub Tells : {X Y : Type 0} → (X → Y) → Result X DebuggerFault → Result Y DebuggerFault → Type 0
Tells meaning (Ok x) said = said ≡ Ok (meaning x)
Tells meaning (Err fault) said = Fails fault said

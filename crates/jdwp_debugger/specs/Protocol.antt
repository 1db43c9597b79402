-- What a debugger's turns and questions do, in the protocol's words (JDWP specification, "JDWP Packets", and "Protocol Details":
-- VirtualMachine, ThreadReference, EventRequest and Event.Composite). All of it follows from what they answer and leave (`DebuggerTurns`,
-- `Asking`).
use Rattle.std.specs.Prelude.{◌≡◌, ℕ, ◌+◌, ◌++◌, ◌∷◌, false, List, [], length, remove, slice_get, Option, Some, None, Result, Ok, Err}
use Rattle.std.specs.Option.{option_map}
use Rattle.jdwp_wire.specs.Frames.{packet_bytes}
use Rattle.jdwp_wire.specs.Streams.{Packet, Whole}
use Rattle.jdwp_wire.specs.Widths.{Widths}
use Rattle.jdwp_wire.specs.declared.error_code.ErrorCode.{ErrorCode}
use Rattle.jdwp_wire.specs.declared.packet.Header.{Header}
use Rattle.jdwp_wire.specs.declared.packet.PacketKind.TheVariants as kind
use Rattle.jdwp_layout.specs.Meanings.{DatumMeaning}
use Rattle.jdwp_layout.specs.declared.answer.Answer.{Answer}
use Rattle.jdwp_layout.specs.declared.answer.Answer.TheVariants.{Data}
use Rattle.jdwp_end.specs.Ends.{front_of, is_open}
use Rattle.jdwp_action.specs.Actions.{Action, Command, action_of}
use Rattle.jdwp_action.specs.CommandPackets.{carried_bytes}
use Rattle.jdwp_debugger.specs.declared.faults.DebuggerFault.{DebuggerFault}
use Rattle.jdwp_debugger.specs.declared.turning.Read.{Read}
use Rattle.jdwp_debugger.specs.Asking.{IsNextFree}
use Rattle.jdwp_debugger.specs.declared.pending.Ticket.{Ticket}
use Rattle.jdwp_debugger.specs.Debuggers.{Asked, Debugger, Unanswered, at_place, unanswered}
use Rattle.jdwp_debugger.specs.Holding.{is_held}
use Rattle.jdwp_debugger.specs.DebuggerTurns.{Answered, Told, read_meaning}
use Rattle.jdwp_debugger.specs.News.{answer_by, place_of, widths_by}
use Rattle.jdwp_mirror.specs.KnownThreads.{count_in}
use Rattle.jdwp_mirror.specs.Mirrors.{empty_mirror}

-- ---- what is seen of a debugger

-- the suspend count that the mirror has of a thread, none where the thread is not known
abbrev pub count : Debugger → ℕ → Option ℕ
count d t = count_in d.mirror.threads t

-- the session is over, and nothing is known any more: the end is closed, and the mirror is empty
abbrev pub IsOver : Debugger → Type 0
IsOver d = (is_open d.end ≡ false) × (d.mirror ≡ empty_mirror)

-- no thread is held for suspended, and of none is a suspend count known
abbrev pub HoldsNobody : Debugger → Type 0
HoldsNobody d = (t : ℕ) → (is_held d t ≡ false) × (count d t ≡ None)

-- ---- the connection is lost

-- the number of the ticket at a place, and that of the command at a place among those that wait under tickets, in the order asked
abbrev pub ticket_at : List Ticket → ℕ → Option ℕ
ticket_at tickets place = option_map (λ (k : Ticket). k.0) (slice_get tickets place)

abbrev pub ticket_asked : List Asked → ℕ → Option ℕ
ticket_asked pending place = option_map (λ (u : Unanswered). u.ticket) (at_place (unanswered pending) place)

-- Each command that waits under a ticket is told as lost, once, in the order asked, and nothing else is.
abbrev pub LosesEach : List Asked → List Ticket → Type 0
LosesEach pending lost = (place : ℕ) → ticket_at lost place ≡ ticket_asked pending place

-- ---- turns

-- a turn told this
abbrev pub Tells : Told → Result Read DebuggerFault → Type 0
Tells told (Ok read) = read_meaning read ≡ told
Tells told (Err fault) = ⊥

-- An answer is told under the ticket of its own command: a reply was in front, the command that was asked under this ticket waited under the
-- reply's id, the answer is what the reply's data are in the layout of this command's reply, and the command waits no longer.
pub record AnswersOwn (ticket : ℕ) (answer : Answer) (old new : Debugger) : Type 0 where
  pub header : Header
  pub body : List ℕ
  pub used : ℕ
  pub front : front_of old.end ≡ Whole (Packet header body) used
  pub error : ErrorCode
  pub is_reply : header.kind ≡ kind.Reply error
  pub place : ℕ
  pub under : place_of header.id old.pending ≡ Some place
  pub asked : Asked
  pub waited : slice_get old.pending place ≡ Some asked
  pub of_ticket : asked.ticket ≡ Some (record { 0 = ticket })
  pub reads : answer_by old.order (widths_by old.sizes) asked.command error body ≡ Some answer
  pub settled : new.pending ≡ remove old.pending place

-- A turn told an answer without an error, with this content, to a command that asks this: the command waited under the id of the packet in
-- front.
pub record Hears (action : Action) (content : List DatumMeaning) (old : Debugger) (result : Result Read DebuggerFault) : Type 0 where
  pub header : Header
  pub body : List ℕ
  pub used : ℕ
  pub front : front_of old.end ≡ Whole (Packet header body) used
  pub place : ℕ
  pub under : place_of header.id old.pending ≡ Some place
  pub asked : Asked
  pub waited : slice_get old.pending place ≡ Some asked
  pub asks : action_of asked.command ≡ action
  pub ticket : ℕ
  pub told : Tells (Answered ticket (Data content)) result

-- ---- questions

-- What waits to leave has one packet more, the last, of the command's set and number, with its data in ids of the widths that are known;
-- its length is that of its header, 11 bytes, and of its data; and its id is the next under which no command waited.
pub record PutsPacket (command : Command) (old new : Debugger) : Type 0 where
  pub widths : Widths
  pub known : old.sizes ≡ Some widths
  pub header : Header
  pub put : new.end.outgoing ≡ old.end.outgoing ++ packet_bytes header (carried_bytes widths command.carried)
  pub kind : header.kind ≡ kind.Command command.set command.number
  pub length : header.length ≡ 11 + length (carried_bytes widths command.carried)
  pub next : IsNextFree old.pending old.next_id header.id

-- The command waits for its reply, behind those that waited, under this ticket.
pub record WaitsUnder (ticket : ℕ) (command : Command) (old new : Debugger) : Type 0 where
  pub id : ℕ
  pub waits : new.pending ≡ old.pending ++ record { id = id; ticket = Some (record { 0 = ticket }); command = command } ∷ []

-- Which packets a debugger refuses, by their bytes and as both ends mean them.
use Rattle.std.specs.Prelude.{◌≡◌, ℕ, ◌≤◌, ◌⊎◌, true, false, List, [], map, length, slice_get, Option, Some, None, is_some}
use Rattle.std.specs.Option.{option_map}
use Rattle.jdwp_wire.specs.Widths.{Widths}
use Rattle.jdwp_wire.specs.declared.packet.Header.{Header}
use Rattle.jdwp_wire.specs.declared.packet.PacketKind.TheVariants as kind
use Rattle.jdwp_layout.specs.CommandNumbers.{COMPOSITE}
use Rattle.jdwp_layout.specs.declared.answer.Answer.{Answer}
use Rattle.jdwp_event.specs.CompositeBytes.{EncodesComposite}
use Rattle.jdwp_event.specs.Composites.{CompositeMeaning}
use Rattle.jdwp_action.specs.Actions.{Command}
use Rattle.jdwp_action.specs.AnswerPackets.{EncodesAnswer, answer_bytes, error_of}
use Rattle.jdwp_debugger.specs.declared.pending.Ticket as code
use Rattle.jdwp_debugger.specs.Debuggers.{AreOwn, Asked, Debugger, IsSizesAlone}
use Rattle.jdwp_debugger.specs.DebuggerTurns.{refusal, reports}
use Rattle.jdwp_debugger.specs.FaultNumbers.{fault_number, packet_fault_number}
use Rattle.jdwp_debugger.specs.News.{composites_in, place_of}
use Rattle.jdwp_debugger.specs.Orders.{fault_in}
use Rattle.jdwp_mirror.specs.Faults.{PARKED_MOST, Reader, is_waited_for}
use Rattle.jdwp_mirror.specs.KnownThreads.{count_in}
use Rattle.jdwp_mirror.specs.Messages.{Message, Handshake, Reply, Report, Ticket}
use Rattle.jdwp_mirror.specs.Mirrors.{empty_mirror}
use Rattle.jdwp_mirror.specs.Widths.{widths_in}

-- ---- what a debugger knows as it reads packets, as both ends mean it

abbrev pub ticket_meaning : Option code.Ticket → Ticket
ticket_meaning ticket = option_map (λ (k : code.Ticket). k.0) ticket

abbrev pub waiting_meaning : List Asked → List (Ticket × Command)
waiting_meaning pending = map (λ (p : Asked). (ticket_meaning p.ticket, p.command)) pending

-- where these are the composites that wait for the widths of ids
abbrev pub reader_of : Debugger → List CompositeMeaning → Reader
reader_of d waiting = record { greeted = true; ready = is_some d.sizes; parked = reports waiting; pending = waiting_meaning d.pending; counts = count_in d.mirror.threads }

-- How a debugger stands that reads packets, while these composites wait: what it keeps in an open session.
pub record Stands (d : Debugger) (waiting : List CompositeMeaning) : Type 0 where
  pub own : AreOwn d.pending
  pub alone : d.sizes ≡ None → IsSizesAlone d.pending
  pub unlearned : d.sizes ≡ None → d.mirror ≡ empty_mirror
  pub unparked : (w : Widths) → d.sizes ≡ Some w → d.parked ≡ []
  pub few : length d.parked ≤ PARKED_MOST
  pub as_many : length waiting ≡ length d.parked

-- ---- packets that are messages

-- before the widths of ids are known any data may be those of a composite
abbrev pub EncodesReport : Option Widths → CompositeMeaning → List ℕ → Type 0
EncodesReport None c body = Unit {0}
EncodesReport (Some w) c body = EncodesComposite w c body

-- in ids of the widths that are known, or of any
abbrev pub AreMaybe : Option Widths → Widths → Type 0
AreMaybe None w = Unit {0}
AreMaybe (Some known) w = known ≡ w

-- The command waits under this id with this ticket, these data are those of the answer, and where it tells widths of ids, the composites
-- that waited are those in ids so wide.
pub record Answers (d : Debugger) (waiting : List CompositeMeaning) (id : ℕ) (ticket : Ticket) (command : Command) (answer : Answer) (body : List ℕ) : Type 0 where
  pub place : ℕ
  pub under : place_of id d.pending ≡ Some place
  pub asked : Asked
  pub at : slice_get d.pending place ≡ Some asked
  pub ticket_is : ticket_meaning asked.ticket ≡ ticket
  pub command_is : asked.command ≡ command
  pub widths : Widths
  pub known : AreMaybe d.sizes widths
  pub encoded : EncodesAnswer widths command.set command.number answer
  pub data_are : body ≡ answer_bytes widths answer
  pub told : (w : Widths) → widths_in answer ≡ Some w → composites_in w d.parked ≡ Some waiting

-- nothing waits under the id, and no command with this ticket
abbrev pub AnswersNone : List Asked → ℕ → Ticket → Type 0
AnswersNone pending id ticket = (place_of id pending ≡ None) × (is_waited_for ticket (waiting_meaning pending) ≡ false)

-- A packet of this header and data is a message; a handshake is none.
abbrev pub EncodesMessage : Debugger → List CompositeMeaning → Header → List ℕ → Message → Type 0
EncodesMessage d waiting header body Handshake = ⊥
EncodesMessage d waiting header body (Report c) = (header.kind ≡ kind.Command COMPOSITE.set COMPOSITE.number) × EncodesReport d.sizes c body
EncodesMessage d waiting header body (Reply ticket command answer) =
    (header.kind ≡ kind.Reply (error_of answer)) × (Answers d waiting header.id ticket command answer body ⊎ AnswersNone d.pending header.id ticket)

-- ---- what is refused

-- A packet that encodes a message is refused for what the message is refused for.
abbrev pub IsJudgedAs : Debugger → List CompositeMeaning → Header → List ℕ → Message → Type 0
IsJudgedAs d waiting header body message =
    option_map fault_number (refusal d header body) ≡ option_map packet_fault_number (fault_in d.order (reader_of d waiting) message)

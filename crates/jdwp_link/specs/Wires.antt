-- Messages under way, each under the id that it bears, and the commands that wait for replies (JDWP specification, "JDWP Packets": a
-- reply has the id of its command).
use Rattle.std.specs.Prelude.{◌≡◌, ℕ, ◌⊎◌, List, [], ◌∷◌, ◌++◌, Option, Some, None, is_some, true}
use Rattle.std.specs.List.{AllByRecursion}
use Rattle.std.specs.Option.{option_map}
use Rattle.jdwp_wire.specs.Streams as streams
use Rattle.jdwp_wire.specs.Streams.{IsSendable}
use Rattle.jdwp_wire.specs.Widths.{Widths}
use Rattle.jdwp_layout.specs.Writes.{data_canonical}
use Rattle.jdwp_layout.specs.declared.answer.Answer.{Answer}
use Rattle.jdwp_event.specs.CompositeBytes.{EncodesComposite}
use Rattle.jdwp_event.specs.Composites.{composite_data}
use Rattle.jdwp_action.specs.Actions.{Command}
use Rattle.jdwp_action.specs.AnswerPackets.{sizes_answer, EncodesAnswer}
use Rattle.jdwp_action.specs.CommandPackets.{carried_bytes}
use Rattle.jdwp_mirror.specs.Messages.{Ticket, Call, Greets, Asks, Message, Handshake, Reply, Report, id_sizes}
use Rattle.jdwp_target.specs.Sends.{reply_to, report_of}
use Rattle.jdwp_debugger.specs.Asking.{EncodesCommand, command_header}
use Rattle.jdwp_debugger.specs.Debuggers.{Asked}
use Rattle.jdwp_debugger.specs.declared.pending.Ticket as code
use Rattle.jdwp_model.specs.World.{Packet}

-- a message under its id, which a handshake has not
abbrev pub CallWire : Type 0
CallWire = ℕ × Call

abbrev pub PacketWire : Type 0 → Type 0
PacketWire S = ℕ × Packet S

abbrev pub without_ids : {A : Type 0} → List (ℕ × A) → List A
without_ids [] = []
without_ids (p ∷ ps) = p.1 ∷ without_ids ps

-- ---- as they are sent

abbrev pub call_sent : Widths → ℕ → Call → streams.Message
call_sent w id Greets = streams.Handshake
call_sent w id (Asks k c) = streams.Packet (command_header w id c) (carried_bytes w c.carried)

abbrev pub message_sent : Widths → ℕ → Message → streams.Message
message_sent w id Handshake = streams.Handshake
message_sent w id (Reply k c answer) = reply_to w id answer
message_sent w id (Report c) = report_of w id c

abbrev pub calls_sent : Widths → List CallWire → List streams.Message
calls_sent w [] = []
calls_sent w (p ∷ ps) = call_sent w p.0 p.1 ∷ calls_sent w ps

abbrev pub packets_sent : {S : Type 0} → Widths → List (PacketWire S) → List streams.Message
packets_sent w [] = []
packets_sent w (p ∷ ps) = message_sent w p.0 p.1.0 ∷ packets_sent w ps

-- ---- that they can be read

-- What has no ticket is IDSizes, which a debugger asks by itself.
abbrev pub SuitsTicket : Ticket → Command → Type 0
SuitsTicket None c = c ≡ id_sizes
SuitsTicket (Some k) c = Unit {0}

abbrev pub IsCall : Widths → Call → Type 0
IsCall w Greets = Unit {0}
IsCall w (Asks k c) = EncodesCommand w c × SuitsTicket k c

-- the reply to IDSizes tells these widths
abbrev pub TellsWidths : Widths → Ticket → Answer → Type 0
TellsWidths w None answer = answer ≡ sizes_answer w
TellsWidths w (Some k) answer = Unit {0}

abbrev pub IsMessage : Widths → Message → Type 0
IsMessage w Handshake = Unit {0}
IsMessage w (Reply k c answer) = EncodesAnswer w c.set c.number answer × TellsWidths w k answer
IsMessage w (Report c) = EncodesComposite w c (data_canonical w (composite_data c))

-- each is a handshake, or a packet within the limit that says what was meant
abbrev pub AreCalls : Widths → ℕ → List CallWire → Type 0
AreCalls w limit wires = AllByRecursion (λ (p : CallWire). IsSendable limit (call_sent w p.0 p.1) × IsCall w p.1) wires

abbrev pub ArePackets : {S : Type 0} → Widths → ℕ → List (PacketWire S) → Type 0
ArePackets {S} w limit wires = AllByRecursion (λ (p : PacketWire S). IsSendable limit (message_sent w p.0 p.1.0) × IsMessage w p.1.0) wires

-- ---- what waits for replies

-- an id, and the command that waits under it with its ticket
abbrev pub Waiting : Type 0
Waiting = ℕ × (Ticket × Command)

abbrev pub ticket_of : Option code.Ticket → Ticket
ticket_of ticket = option_map (λ (k : code.Ticket). k.0) ticket

abbrev pub waiting : List Asked → List Waiting
waiting [] = []
waiting (p ∷ ps) = (p.id, (ticket_of p.ticket, p.command)) ∷ waiting ps

-- the commands whose replies are under way
abbrev pub replied : {S : Type 0} → List (PacketWire S) → List Waiting
replied [] = []
replied ((id, (Reply k c answer, then)) ∷ ps) = (id, (k, c)) ∷ replied ps
replied ((id, (Report c, then)) ∷ ps) = replied ps
replied ((id, (Handshake, then)) ∷ ps) = replied ps

-- the commands that are under way
abbrev pub asked : List CallWire → List Waiting
asked [] = []
asked ((id, Asks k c) ∷ ps) = (id, (k, c)) ∷ asked ps
asked ((id, Greets) ∷ ps) = asked ps

abbrev pub IsAmong : Waiting → List Waiting → Type 0
IsAmong p [] = ⊥
IsAmong p (q ∷ qs) = (q ≡ p) ⊎ IsAmong p qs

-- Each command that is under way, each that is deferred, and each whose reply is under way, waits at the debugger under the same id with
-- the same ticket.
abbrev pub Awaits : {S : Type 0} → List Asked → List (PacketWire S) → List Waiting → List CallWire → Type 0
Awaits pending from deferred to = (p : Waiting) → IsAmong p (replied from ++ (deferred ++ asked to)) → IsAmong p (waiting pending)

-- ---- what is deferred

-- these commands as they were sent
abbrev pub deferred_sent : Widths → List Waiting → List streams.Message
deferred_sent w [] = []
deferred_sent w (p ∷ ps) = call_sent w p.0 (Asks p.1.0 p.1.1) ∷ deferred_sent w ps

-- each says what was meant
abbrev pub AreDeferred : Widths → List Waiting → Type 0
AreDeferred w wires = AllByRecursion (λ (p : Waiting). IsCall w (Asks p.1.0 p.1.1)) wires

-- ---- tickets

-- all that waits has a ticket
abbrev pub HaveTickets : List Asked → Type 0
HaveTickets pending = AllByRecursion (λ (p : Asked). is_some p.ticket ≡ true) pending

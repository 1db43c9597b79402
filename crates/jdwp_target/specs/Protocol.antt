-- What a turn and a step do, in the protocol's words (JDWP specification, "JDWP Packets", and "Protocol Details": VirtualMachine,
-- ThreadReference, EventRequest and Event.Composite). All of it follows from what they answer and leave (`Turns`).
use Rattle.std.specs.Prelude.{◌≡◌, ◌≢◌, ℕ, ◌+◌, ◌++◌, List, [], ◌∷◌, Option, Some, Result, Ok, false}
use Rattle.std.specs.Option.{option_map}
use Rattle.jdwp_wire.specs.ErrorCodes.{NONE}
use Rattle.jdwp_wire.specs.Streams.{Message, Packet, Whole, message_bytes}
use Rattle.jdwp_wire.specs.declared.error_code.ErrorCode.{ErrorCode}
use Rattle.jdwp_wire.specs.declared.packet.Header.{Header}
use Rattle.jdwp_wire.specs.declared.packet.PacketKind.TheVariants as kind
use Rattle.jdwp_layout.specs.declared.answer.Answer.{Answer}
use Rattle.jdwp_end.specs.Ends.{End, HasPacketWith, front_of, is_open}
use Rattle.jdwp_event.specs.Composites.{CompositeMeaning, gathered}
use Rattle.jdwp_event.specs.Modifiers.{ModifierMeaning}
use Rattle.jdwp_event.specs.Requests.{Request}
use Rattle.jdwp_machine.specs.Meanings.{Meaning}
use Rattle.jdwp_action.specs.Actions.{Action, Command, action_of}
use Rattle.jdwp_action.specs.AnswerPackets.{error_of}
use Rattle.jdwp_debuggee.specs.Answering.{read_as}
use Rattle.jdwp_debuggee.specs.Answers.{int_answer}
use Rattle.jdwp_debuggee.specs.State.{count_of, count_or_zero}
use Rattle.jdwp_target.specs.declared.target.Stepped.{Stepped}
use Rattle.jdwp_target.specs.declared.target.Stepped.TheVariants.{Reported}
use Rattle.jdwp_target.specs.declared.target.TargetFault.{TargetFault}
use Rattle.jdwp_target.specs.declared.target.Turn.{Turn}
use Rattle.jdwp_target.specs.declared.target.Turn.TheVariants.{Replied}
use Rattle.jdwp_target.specs.Sends.{reply_to, report_of}
use Rattle.jdwp_target.specs.Targets.{Target}

-- ---- what is seen of a target

-- a thread's suspend count, none where it is not alive
abbrev pub count : {S : Type 0} → Target S → ℕ → Option ℕ
count v t = count_of v.moment.state t

-- the event requests, by rising id
abbrev pub requests : {S : Type 0} → Target S → List Request
requests v = v.moment.state.requests

-- ---- what changes

-- each live thread's suspend count changes so, and the same threads live
abbrev pub EachCount : {S : Type 0} → (ℕ → ℕ) → Target S → Target S → Type 0
EachCount change old new = (t : ℕ) → count new t ≡ option_map change (count old t)

-- the suspend count of this thread changes so, and that of each other stays
abbrev pub OneCount : {S : Type 0} → ℕ → (ℕ → ℕ) → Target S → Target S → Type 0
OneCount t change old new = (count new t ≡ option_map change (count old t)) × ((u : ℕ) → u ≢ t → count new u ≡ count old u)

-- The session is over: each live thread's suspend count is 0, there are no event requests, and the end is closed. The machine stays.
pub record IsOver {S : Type 0} (old new : Target S) : Type 0 where
  pub counts : EachCount (λ n. 0) old new
  pub requests : new.moment.state.requests ≡ []
  pub closed : is_open new.end ≡ false
  pub machine : new.moment.machine ≡ old.moment.machine

-- ---- replies

-- what is put behind the bytes that waited to leave begins with this packet
abbrev pub Puts : Message → End → End → Type 0
Puts message old new = (rest : List ℕ) × (new.outgoing ≡ old.outgoing ++ (message_bytes message ++ rest))

-- The packet in front has this id, and a reply with this id and this error code is put behind the bytes that waited to leave.
abbrev pub HasReplied : {S : Type 0} → Meaning S → ℕ → ErrorCode → Target S → Target S → Type 0
HasReplied m id error old new =
    ((header : Header) × (used : ℕ) × HasPacketWith header used old.end × (header.id ≡ id))
    × ((answer : Answer) × (error_of answer ≡ error) × Puts (reply_to (m.sizes old.moment.machine) id answer) old.end new.end)

-- A turn answered a command without an error: the packet in front has this header and these data; it is of this set and number; the data
-- read; what the command asks is this; and the turn tells a reply with its id and the error code NONE.
pub record Answers {S : Type 0} (m : Meaning S) (action : Action) (old : Target S) (result : Result Turn TargetFault) : Type 0 where
  pub header : Header
  pub body : List ℕ
  pub used : ℕ
  pub front : front_of old.end ≡ Whole (Packet header body) used
  pub set : ℕ
  pub number : ℕ
  pub is_command : header.kind ≡ kind.Command set number
  pub command : Command
  pub reads : read_as old.settings.profile (m.sizes old.moment.machine) set number body ≡ Ok command
  pub asks : action_of command ≡ action
  pub answered : result ≡ Ok (Replied header.id NONE)

-- ---- event requests

-- There is one request more, the last, of this kind, this policy and these modifiers, and the reply with this packet id tells its id.
pub record AddsRequest {S : Type 0} (m : Meaning S) (id event_kind policy : ℕ) (modifiers : List ModifierMeaning) (old new : Target S) : Type 0 where
  pub request : Request
  pub added : requests new ≡ requests old ++ request ∷ []
  pub of_kind : request.asked.kind ≡ event_kind
  pub of_policy : request.asked.policy ≡ policy
  pub of_modifiers : request.asked.modifiers ≡ modifiers
  pub told : Puts (reply_to (m.sizes old.moment.machine) id (int_answer request.asked.id)) old.end new.end

-- ---- steps

-- A step of this thread was reported, by this composite: that of all requests that the happening passes, with the most suspending of their
-- policies.
abbrev pub IsReported : {S : Type 0} → Meaning S → ℕ → CompositeMeaning → Target S → Result Stepped TargetFault → Type 0
IsReported m t c old result = (result ≡ Ok Reported) × (gathered (m.next old.moment.machine t) (requests old) ≡ Some c)

-- it is put behind the bytes that waited to leave, under the next id of the target's packets
abbrev pub PutsReport : {S : Type 0} → Meaning S → CompositeMeaning → Target S → Target S → Type 0
PutsReport m c old new = Puts (report_of (m.sizes old.moment.machine) old.moment.state.next_packet c) old.end new.end

-- the suspend count that a thread had, 0 where it was not alive
abbrev pub count_before : {S : Type 0} → Target S → ℕ → ℕ
count_before v t = count_or_zero v.moment.state t

-- each thread that lives now has the suspend count that it had
abbrev pub KeepsCounts : {S : Type 0} → Target S → Target S → Type 0
KeepsCounts old new = (t n : ℕ) → count new t ≡ Some n → n ≡ count_before old t

-- each thread that lives now has one more than it had
abbrev pub RaisesCounts : {S : Type 0} → Target S → Target S → Type 0
RaisesCounts old new = (t n : ℕ) → count new t ≡ Some n → n ≡ count_before old t + 1

-- this one has one more than it had, and each other thread that lives now what it had
abbrev pub RaisesCountOf : {S : Type 0} → ℕ → Target S → Target S → Type 0
RaisesCountOf t old new = ((n : ℕ) → count new t ≡ Some n → n ≡ count_before old t + 1) × ((u n : ℕ) → u ≢ t → count new u ≡ Some n → n ≡ count_before old u)

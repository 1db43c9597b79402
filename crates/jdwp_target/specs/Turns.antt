-- What turns and steps of a target over any machine answer, and what they leave.
use Rattle.std.specs.Prelude.{◌≡◌, ℕ, ⊤, Bool, true, false, ◌||◌, ◌&&◌, not, List, [], Option, Some, None, Result, Ok, Err, MatchResult}
use Rattle.jdwp_wire.specs.Streams.{Message, Handshake, Packet, NextMessage, Whole, More, Fault, AreSendable}
use Rattle.jdwp_wire.specs.declared.packet.PacketKind.{PacketKind}
use Rattle.jdwp_wire.specs.declared.packet.PacketKind.TheVariants as kind
use Rattle.jdwp_end.specs.Ends.{is_established, is_paused}
use Rattle.jdwp_event.specs.Composites.{CompositeMeaning}
use Rattle.jdwp_machine.specs.Meanings.{Meaning}
use Rattle.jdwp_debuggee.specs.Answering.{read_as}
use Rattle.jdwp_action.specs.AnswerPackets.{EncodesAnswer, error_of}
use Rattle.jdwp_debuggee.specs.StepParts.{is_ready}
use Rattle.jdwp_debuggee.specs.Steps.{Step, may_step, occurs, start_event}
use Rattle.jdwp_debuggee.specs.Wants.{MayWantAsRead}
use Rattle.jdwp_target.specs.declared.target.Stepped.{Stepped}
use Rattle.jdwp_target.specs.declared.target.Stepped.TheVariants.{Frozen, Quiet, Reported, Ended}
use Rattle.jdwp_target.specs.declared.target.TargetFault.{TargetFault}
use Rattle.jdwp_target.specs.declared.target.TargetFault.TheVariants.{Frame, NoMemory}
use Rattle.jdwp_target.specs.declared.target.Turn.{Turn}
use Rattle.jdwp_target.specs.declared.target.Turn.TheVariants.{Nothing, Hello, Replied, Ignored, Deferred}
use Rattle.jdwp_target.specs.Sends.{EncodesSent, IsEncoded}
use Rattle.jdwp_debuggee.specs.Deferring.{released_at}
use Rattle.jdwp_target.specs.Standings.{Handles, Steps, carried_out}
use Rattle.jdwp_target.specs.Deeds.{Does, Releases, defers, perform}
use Rattle.jdwp_target.specs.Targets.{Target, full_standing, lost_target, with_handled, with_release, with_step}

-- ---- turns

-- what is told of a message that is handled
abbrev pub told_of_packet : {S : Type 0} → Meaning S → Target S → ℕ → PacketKind → List ℕ → Turn
told_of_packet m old id (kind.Command set number) body =
    Replied id (error_of (carried_out m old.settings old.moment (read_as old.settings.profile (m.sizes old.moment.machine) set number body)).answer)
told_of_packet m old id (kind.Reply error) body = Ignored

abbrev pub told_of : {S : Type 0} → Meaning S → Target S → Message → Turn
told_of m old Handshake = Hello
told_of m old (Packet header body) = told_of_packet m old header.id header.kind body

-- what a turn tells of a message, by whether it is put off
abbrev pub told_where : {S : Type 0} → Meaning S → Target S → Message → Bool → Turn
told_where m old Handshake deferred = Hello
told_where m old (Packet header body) true = Deferred header.id
told_where m old (Packet header body) false = told_of_packet m old header.id header.kind body

-- the messages that may call for memory where they are handled: the commands for which the debuggee may want it, as it stands
abbrev pub kind_needs_memory : {S : Type 0} → Meaning S → Target S → PacketKind → List ℕ → Type 0
kind_needs_memory m old (kind.Command set number) body = MayWantAsRead m old.settings old.moment (read_as old.settings.profile (m.sizes old.moment.machine) set number body)
kind_needs_memory m old (kind.Reply error) body = ⊥

abbrev pub NeedsMemoryToHandle : {S : Type 0} → Meaning S → Target S → Message → Type 0
NeedsMemoryToHandle m old Handshake = ⊥
NeedsMemoryToHandle m old (Packet header body) = kind_needs_memory m old header.kind body

-- the data of a packet are some
abbrev pub HasData : Message → Type 0
HasData Handshake = ⊥
HasData (Packet header body) = body ≡ [] → ⊥

-- and at a turn: one that puts a command off keeps its data, if there are any
abbrev pub NeedsMemoryWhere : {S : Type 0} → Meaning S → Target S → Message → Bool → Type 0
NeedsMemoryWhere m old message true = HasData message
NeedsMemoryWhere m old message false = NeedsMemoryToHandle m old message

abbrev pub NeedsMemory : {S : Type 0} → Meaning S → Target S → Message → Type 0
NeedsMemory m old message = NeedsMemoryWhere m old message (defers (full_standing old) message)

-- What a turn answers, and what the target is after it, by what there is to handle.
abbrev pub TurnsAt : {S : Type 0} → Meaning S → NextMessage → Target S → Result Turn TargetFault → Target S → Type 0
TurnsAt m (Whole message used) old result new =
    MatchResult result
    (λ turn. (turn ≡ told_where m old message (defers (full_standing old) message)) × (new ≡ with_handled m message used old))
    (λ fault. (fault ≡ NoMemory) × NeedsMemory m old message × (new ≡ old))
TurnsAt m More old result new = (result ≡ Ok Nothing) × (new ≡ old)
TurnsAt m (Fault fault) old result new = (result ≡ Err (Frame fault)) × (new ≡ lost_target old)

-- What is sent for a message that is handled is encoded by its bytes: VM_START behind the first handshake of the target's life, and the
-- answer to a command.
abbrev pub EncodesStart : {S : Type 0} → Meaning S → Target S → Bool → Type 0
EncodesStart m old true = ⊤
EncodesStart m old false = IsEncoded (m.sizes old.moment.machine) (Some (start_event old.settings old.moment.state))

abbrev pub EncodesByKind : {S : Type 0} → Meaning S → Target S → PacketKind → List ℕ → Type 0
EncodesByKind m old (kind.Command set number) body =
    EncodesAnswer (m.sizes old.moment.machine) set number (carried_out m old.settings old.moment (read_as old.settings.profile (m.sizes old.moment.machine) set number body)).answer
EncodesByKind m old (kind.Reply error) body = ⊤

abbrev pub EncodesFor : {S : Type 0} → Meaning S → Target S → Message → Type 0
EncodesFor m old Handshake = EncodesStart m old old.moment.state.handshaken
EncodesFor m old (Packet header body) = EncodesByKind m old header.kind body

-- What a turn sends is encoded by its bytes; nothing is sent for a command that is put off.
abbrev pub EncodesUnless : {S : Type 0} → Meaning S → Target S → Message → Bool → Type 0
EncodesUnless m old message true = ⊤
EncodesUnless m old message false = EncodesFor m old message

abbrev pub EncodesNext : {S : Type 0} → Meaning S → NextMessage → Target S → Type 0
EncodesNext m (Whole message used) old = EncodesUnless m old message (defers (full_standing old) message)
EncodesNext m More old = ⊤
EncodesNext m (Fault fault) old = ⊤

-- What a turn sends are the handshake and packets within the limit.
abbrev pub SendsAt : {S : Type 0} → Meaning S → NextMessage → Target S → Type 0
SendsAt m (Whole message used) old = AreSendable old.end.limits.packet (perform m old.settings (full_standing old) (Does (Handles message))).sends
SendsAt m More old = ⊤
SendsAt m (Fault fault) old = ⊤

-- ---- releases

-- the deferred command that a release at this place answers, and the others; there is none where the session is closed or paused
abbrev pub at_place : {S : Type 0} → Target S → Option (Message × List Message) → Bool → Option (Message × List Message)
at_place old found true = found
at_place old found false = None

abbrev pub deferred_at : {S : Type 0} → ℕ → Target S → Option (Message × List Message)
deferred_at place old = at_place old (released_at place old.deferred) (is_established old.end && not (is_paused old.end))

-- What a release answers, and what the target is after it, by which command it answers.
abbrev pub ReleasesAt : {S : Type 0} → Meaning S → ℕ → Option (Message × List Message) → Target S → Result Turn TargetFault → Target S → Type 0
ReleasesAt m place None old result new = (result ≡ Ok Nothing) × (new ≡ old)
ReleasesAt m place (Some (message, others)) old result new =
    MatchResult result
    (λ turn. (turn ≡ told_of m old message) × (new ≡ with_release m place old))
    (λ fault. (fault ≡ NoMemory) × NeedsMemoryToHandle m old message × (new ≡ old))

-- What a release sends is encoded by its bytes.
abbrev pub EncodesReleased : {S : Type 0} → Meaning S → Option (Message × List Message) → Target S → Type 0
EncodesReleased m None old = ⊤
EncodesReleased m (Some (message, others)) old = EncodesFor m old message

-- What a release sends are packets within the limit.
abbrev pub SendsReleased : {S : Type 0} → Meaning S → ℕ → Option (Message × List Message) → Target S → Type 0
SendsReleased m place None old = ⊤
SendsReleased m place (Some released) old = AreSendable old.end.limits.packet (perform m old.settings (full_standing old) (Releases place)).sends

-- ---- steps

-- as much as a packet may have waits to leave, or the thread may not step
abbrev pub is_frozen : {S : Type 0} → Meaning S → ℕ → Target S → Bool
is_frozen m t v = is_paused v.end || not (may_step m v.settings v.moment t)

abbrev pub told_of_sends : Option CompositeMeaning → Stepped
told_of_sends None = Quiet
told_of_sends (Some c) = Reported

abbrev pub told_by_end : Option CompositeMeaning → Bool → Stepped
told_by_end sends true = Ended
told_by_end sends false = told_of_sends sends

abbrev pub told_of_step : {S : Type 0} → Step S → Stepped
told_of_step o = told_by_end o.sends o.ends

-- What a step answers, and what the target is after it, by whether it is frozen.
abbrev pub StepsWhere : {S : Type 0} → Meaning S → ℕ → Target S → Stepped → Target S → Bool → Type 0
StepsWhere m t old stepped new true = (stepped ≡ Frozen) × (new ≡ old)
StepsWhere m t old stepped new false = (stepped ≡ told_of_step (occurs m old.moment t)) × (new ≡ with_step m t old)

-- What a step sends is encoded by its bytes.
abbrev pub EncodesWhere : {S : Type 0} → Meaning S → ℕ → Target S → Bool → Type 0
EncodesWhere m t old true = ⊤
EncodesWhere m t old false = EncodesSent (m.sizes old.moment.machine) old.end.phase (occurs m old.moment t).sends

-- What a step sends are packets within the limit.
abbrev pub SendsWhere : {S : Type 0} → Meaning S → ℕ → Target S → Bool → Type 0
SendsWhere m t old true = ⊤
SendsWhere m t old false = AreSendable old.end.limits.packet (perform m old.settings (full_standing old) (Does (Steps t))).sends

abbrev pub StepsAt : {S : Type 0} → Meaning S → ℕ → Target S → Result Stepped TargetFault → Target S → Type 0
StepsAt m t old result new =
    MatchResult result
    (λ stepped. StepsWhere m t old stepped new (is_frozen m t old))
    (λ fault. (fault ≡ NoMemory) × (is_paused old.end ≡ false) × (is_ready old.settings old.moment.state t ≡ true) × (new ≡ old))

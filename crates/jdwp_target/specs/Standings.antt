-- What a target over any machine does in a session, one act after the other (JDWP specification, "JDWP Handshake", "JDWP Packets", and
-- "Protocol Details": VirtualMachine.Dispose, VirtualMachine.Exit and Event.Composite).
use Rattle.std.specs.Prelude.{◌≡◌, ℕ, ◌+◌, Bool, true, false, List, [], ◌∷◌, ◌++◌, Option, Some, None, Result, Ok, Err}
use Rattle.jdwp_wire.specs.Streams.{Message, Handshake, Packet}
use Rattle.jdwp_wire.specs.Widths.{Widths}
use Rattle.jdwp_wire.specs.declared.error_code.ErrorCode.{ErrorCode}
use Rattle.jdwp_wire.specs.declared.packet.PacketKind.{PacketKind}
use Rattle.jdwp_wire.specs.declared.packet.PacketKind.TheVariants as kind
use Rattle.jdwp_end.specs.declared.phase.Phase.{Phase}
use Rattle.jdwp_end.specs.declared.phase.Phase.TheVariants.{Closed, AwaitingHandshake, Established}
use Rattle.jdwp_end.specs.Ends.{is_open_phase}
use Rattle.jdwp_event.specs.Composites.{CompositeMeaning, vm_death}
use Rattle.jdwp_machine.specs.Meanings.{Meaning}
use Rattle.jdwp_action.specs.Actions.{Command}
use Rattle.jdwp_debuggee.specs.Answering.{read_as}
use Rattle.jdwp_debuggee.specs.Effects.{Effect, effect, refused}
use Rattle.jdwp_debuggee.specs.Settings.{Settings}
use Rattle.jdwp_debuggee.specs.State.{Moment, reset, with_packet}
use Rattle.jdwp_debuggee.specs.Steps.{Step, may_step, occurs, start_event, handshaken}
use Rattle.jdwp_target.specs.Sends.{reply_to, report_of}

-- An act: a message of the debugger's is handled, a thread is stepped, or the connection is lost.
pub data Act : Type 0 where
  Handles : Message → Act
  Steps : ℕ → Act
  Loses : Act

-- what acts change: the moment of the debuggee, and the phase of the session
pub record Standing (S : Type 0) : Type 0 where
  pub moment : Moment S
  pub phase : Phase

-- how a target stands after an act, and what is sent for it
pub record Reaction (S : Type 0) : Type 0 where
  pub after : Standing S
  pub sends : List Message

abbrev pub stands : {S : Type 0} → Moment S → Phase → Standing S
stands now phase = record { moment = now; phase = phase }

-- it stands so, and nothing is sent
abbrev pub silent : {S : Type 0} → Standing S → Reaction S
silent after = record { after = after; sends = [] }

-- the session is established, as any message that is handled finds or makes it
abbrev pub established : {S : Type 0} → Standing S → Standing S
established now = record now { phase = Established }

-- ---- the handshake

-- It is answered, and the first of the target's life is followed by VM_START, which takes a packet id and whose policy ALL suspends
-- every thread.
abbrev pub greets_by : {S : Type 0} → Meaning S → Settings → Standing S → Bool → Reaction S
greets_by m settings now true = record (silent now) { sends = Handshake ∷ [] }
greets_by m settings now false = record (silent now) {
  after = record now { moment = record now.moment { state = handshaken settings now.moment.state } };
  sends = Handshake ∷ report_of (m.sizes now.moment.machine) now.moment.state.next_packet (start_event settings now.moment.state) ∷ [];
}

-- ---- commands

-- VM_DEATH takes a packet id
abbrev pub after_death : {S : Type 0} → Moment S → Moment S
after_death now = record now { state = with_packet now.state }

-- a command as it was read, or why it is refused
abbrev pub carried_out : {S : Type 0} → Meaning S → Settings → Moment S → Result Command ErrorCode → Effect S
carried_out m settings now (Ok c) = effect m settings now c
carried_out m settings now (Err e) = refused now e

abbrev pub phase_after : Bool → Phase
phase_after true = Closed
phase_after false = Established

-- The reply is put behind the effect, and where the machine died VM_DEATH behind the reply.
abbrev pub replies_by : {S : Type 0} → Standing S → Widths → ℕ → Effect S → Bool → Reaction S
replies_by now w id e true = record (silent now) {
  after = record now { moment = after_death e.after; phase = Closed };
  sends = reply_to w id e.answer ∷ report_of w e.after.state.next_packet vm_death ∷ [];
}
replies_by now w id e false = record (silent now) {
  after = record now { moment = e.after; phase = phase_after e.closes };
  sends = reply_to w id e.answer ∷ [];
}

abbrev pub replies : {S : Type 0} → Standing S → Widths → ℕ → Effect S → Reaction S
replies now w id e = replies_by now w id e e.dies

-- a reply that comes to a target is ignored
abbrev pub handles_packet : {S : Type 0} → Meaning S → Settings → Standing S → ℕ → PacketKind → List ℕ → Reaction S
handles_packet m settings now id (kind.Command set number) body =
    replies now (m.sizes now.moment.machine) id (carried_out m settings now.moment (read_as settings.profile (m.sizes now.moment.machine) set number body))
handles_packet m settings now id (kind.Reply error) body = silent now

-- a message, in an established session
abbrev pub handles : {S : Type 0} → Meaning S → Settings → Standing S → Message → Reaction S
handles m settings now Handshake = greets_by m settings now now.moment.state.handshaken
handles m settings now (Packet header body) = handles_packet m settings now header.id header.kind body

-- ---- steps

abbrev pub reports : Widths → ℕ → Option CompositeMeaning → List Message
reports w id None = []
reports w id (Some c) = report_of w id c ∷ []

-- how the target stands behind a step, before anything is sent for it
abbrev pub behind : {S : Type 0} → Step S → Standing S → Standing S
behind o now = record now { moment = o.after }

-- What a step calls for, where the target stands so behind it. In a session whose handshake is done what the step reports is sent; and where
-- the machine died, VM_DEATH, and the session closes.
abbrev pub steps_in_session : {S : Type 0} → Widths → ℕ → Step S → Standing S → Bool → Reaction S
steps_in_session w id o now true = record (silent now) {
  after = record now { moment = after_death o.after; phase = Closed };
  sends = reports w id o.sends ++ report_of w o.after.state.next_packet vm_death ∷ [];
}
steps_in_session w id o now false = record (silent now) { sends = reports w id o.sends }

-- Where the handshake is waited for, or there is no session, nothing is sent, and the session closes where the machine died.
abbrev pub steps_apart : {S : Type 0} → Standing S → Bool → Reaction S
steps_apart now true = silent (record now { phase = Closed })
steps_apart now false = silent now

-- by the phase of the session
abbrev pub steps_at : {S : Type 0} → Widths → ℕ → Step S → Standing S → Phase → Reaction S
steps_at w id o now Established = steps_in_session w id o now o.dies
steps_at w id o now AwaitingHandshake = steps_apart now o.dies
steps_at w id o now Closed = steps_apart now o.dies

-- a step is made where the target stands so, and what it reports is sent
abbrev pub reports_step : {S : Type 0} → Widths → ℕ → Step S → Standing S → Reaction S
reports_step w id o now = steps_at w id o (behind o now) now.phase

-- nothing happens where the thread may not step
abbrev pub steps_by : {S : Type 0} → Meaning S → Standing S → ℕ → Bool → Reaction S
steps_by m now t false = silent now
steps_by m now t true = reports_step (m.sizes now.moment.machine) now.moment.state.next_packet (occurs m now.moment t) now

-- ---- all of it

abbrev pub reset_moment : {S : Type 0} → Moment S → Moment S
reset_moment now = record now { state = reset now.state }

-- what each act does
abbrev pub react : {S : Type 0} → Meaning S → Settings → Standing S → Act → Reaction S
react m settings now (Handles message) = handles m settings (established now) message
react m settings now (Steps t) = steps_by m now t (may_step m settings now.moment t)
react m settings now Loses = silent (record now { moment = reset_moment now.moment; phase = Closed })

-- the messages that these acts handled
abbrev pub handled : List Act → List Message
handled [] = []
handled (Handles message ∷ acts) = message ∷ handled acts
handled (Steps t ∷ acts) = handled acts
handled (Loses ∷ acts) = handled acts

-- how many steps these acts made
abbrev pub steps_made : List Act → ℕ
steps_made [] = 0
steps_made (Handles message ∷ acts) = steps_made acts
steps_made (Steps t ∷ acts) = steps_made acts + 1
steps_made (Loses ∷ acts) = steps_made acts

-- ---- when

-- Where an act may come, by how the target stands: a message is handled in an open session alone, and a thread is stepped that may make a
-- step. The connection may be lost at any time; that closes the session, so nothing is handled behind it.
abbrev pub MayCome : {S : Type 0} → Meaning S → Settings → Standing S → Act → Type 0
MayCome m settings now (Handles message) = is_open_phase now.phase ≡ true
MayCome m settings now (Steps t) = may_step m settings now.moment t ≡ true
MayCome m settings now Loses = Unit {0}

-- whether the connection is lost in these acts
abbrev pub has_loss : List Act → Bool
has_loss [] = false
has_loss (Handles message ∷ acts) = has_loss acts
has_loss (Steps t ∷ acts) = has_loss acts
has_loss (Loses ∷ acts) = true

-- Parts of a turn, as the code makes them one after the other.
use Rattle.std.specs.Prelude.{◌≡◌, ◌≤◌, ℕ, ◌+◌, Bool, true, false, ◌||◌, ◌&&◌, List, [], ◌∷◌, length}
use Rattle.jdwp_wire.specs.Streams.{Message, Packet, Whole, AreSendable}
use Rattle.jdwp_wire.specs.Widths.{Widths}
use Rattle.jdwp_wire.specs.declared.packet.Header.{Header}
use Rattle.jdwp_wire.specs.declared.packet.PacketKind.{PacketKind}
use Rattle.jdwp_wire.specs.declared.packet.PacketKind.TheVariants as kind
use Rattle.jdwp_wire.specs.Limits.{least_packet_limit}
use Rattle.jdwp_end.specs.declared.phase.Phase.TheVariants.{Established}
use Rattle.jdwp_end.specs.Ends.{End, closed_end, front_of}
use Rattle.jdwp_event.specs.Composites.{vm_death}
use Rattle.jdwp_machine.specs.Meanings.{Meaning}
use Rattle.jdwp_action.specs.AnswerPackets.{EncodesAnswer}
use Rattle.jdwp_debuggee.specs.Answering.{read_as}
use Rattle.jdwp_debuggee.specs.Debuggees.{Debuggee, at_moment, visiting, with_state}
use Rattle.jdwp_debuggee.specs.Effects.{Effect}
use Rattle.jdwp_debuggee.specs.Sending.{IsSent, sent_bytes, sent_error}
use Rattle.jdwp_debuggee.specs.State.{with_packet}
use Rattle.jdwp_debuggee.specs.Wants.{MayWantAsRead}
use Rattle.jdwp_debuggee.specs.declared.reply.Sent.{Sent}
use Rattle.jdwp_debuggee.specs.Deferring.{is_deferrable}
use Rattle.jdwp_target.specs.Deeds.{defers}
use Rattle.jdwp_target.specs.Sends.{packet_with, report_of}
use Rattle.jdwp_target.specs.Standings.{carried_out, handles, stands}
use Rattle.jdwp_target.specs.StepParts.{debuggee_after, end_after}
use Rattle.jdwp_target.specs.Targets.{Target, full_standing}
use Rattle.jdwp_target.specs.Visits.{visits_handled, visits_read}
use Rattle.jdwp_target.specs.declared.deferral.DeferredCommand.{DeferredCommand}
use Rattle.jdwp_target.specs.declared.turning.Done.{Done}

-- a packet with this header, of so many bytes, stands in front of a target, which puts it off
abbrev pub HasDeferred : {S : Type 0} → Header → ℕ → Target S → Type 0
HasDeferred header used t = (body : List ℕ) × (front_of t.end ≡ Whole (Packet header body) used) × (defers (full_standing t) (Packet header body) ≡ true)

-- a packet with this header, of so many bytes, stands in front of a target, which handles it at once
abbrev pub HasAtOnce : {S : Type 0} → Header → ℕ → Target S → Type 0
HasAtOnce header used t = (body : List ℕ) × (front_of t.end ≡ Whole (Packet header body) used) × (defers (full_standing t) (Packet header body) ≡ false)

-- what is kept of a command in a packet with this header and these data
abbrev pub IsCopied : Header → List ℕ → DeferredCommand → Type 0
IsCopied header body c = (header.kind ≡ kind.Command c.set c.number) × (c.id ≡ header.id) × (c.body.items ≡ body)

-- A command was carried out or refused: what became of the debuggee, and its visits; what is sent, which fits a packet, and has no data where the
-- machine died; and whether the session closes.
pub record IsDone {S : Type 0} (w : Widths) (e : Effect S) (visits : ℕ) (old new : Debuggee S) (done : Done) : Type 0 where
  pub after : new ≡ visiting visits (at_moment e.after old)
  pub sends : IsSent w e.answer done.sent
  pub fits : least_packet_limit ≤ old.settings.limits.packet → 11 + length (sent_bytes w done.sent) ≤ old.settings.limits.packet
  pub dies : done.dies ≡ e.dies
  pub bare : done.dies ≡ true → length (sent_bytes w done.sent) ≡ 0
  pub closes : done.closes ≡ (e.dies || e.closes)
  pub handshaken : e.after.state.handshaken ≡ old.moment.state.handshaken

-- A command of this set and number with these data was read, and carried out or refused. What it is answered is encoded by the bytes that are sent.
pub record IsCarriedOut {S : Type 0} (m : Meaning S) (old new : Debuggee S) (set number : ℕ) (body : List ℕ) (done : Done) : Type 0 where
  pub becomes : IsDone (m.sizes old.moment.machine) (carried_out m old.settings old.moment (read_as old.settings.profile (m.sizes old.moment.machine) set number body))
      (visits_read m old.settings old.moment (read_as old.settings.profile (m.sizes old.moment.machine) set number body) old.visits) old new done
  pub encoded : EncodesAnswer (m.sizes old.moment.machine) set number (carried_out m old.settings old.moment (read_as old.settings.profile (m.sizes old.moment.machine) set number body)).answer

-- The command in a packet of this kind, with these data, was carried out or refused, and so it was for the command of this id.
abbrev pub IsAnswered : {S : Type 0} → Meaning S → Debuggee S → Debuggee S → ℕ → PacketKind → List ℕ → ℕ → Done → Type 0
IsAnswered m old new id k body n done =
    (set : ℕ) × (number : ℕ) × (k ≡ kind.Command set number) × (n ≡ id) × IsCarriedOut m old new set number body done

-- whether a packet of this kind is put off, where those that may be are
abbrev pub puts_off : Bool → PacketKind → Bool
puts_off defers (kind.Command set number) = defers && is_deferrable set
puts_off defers (kind.Reply error) = false

-- a command for which memory may be wanted, as the debuggee stands
abbrev pub IsWanting : {S : Type 0} → Meaning S → Debuggee S → PacketKind → List ℕ → Type 0
IsWanting m d k body =
    (set : ℕ) × (number : ℕ) × (k ≡ kind.Command set number) × MayWantAsRead m d.settings d.moment (read_as d.settings.profile (m.sizes d.moment.machine) set number body)

-- what is sent for a command, as the reply to the command of this id
abbrev pub reply_of : Widths → ℕ → Sent → Message
reply_of w id sent = packet_with id (kind.Reply (sent_error sent)) (sent_bytes w sent)

-- VM_DEATH follows where the machine died, and takes a packet id
abbrev pub deaths : Widths → ℕ → Bool → List Message
deaths w id true = report_of w id vm_death ∷ []
deaths w id false = []

abbrev pub after_deaths : {S : Type 0} → Bool → Debuggee S → Debuggee S
after_deaths true d = with_state (with_packet d.moment.state) d
after_deaths false d = d

abbrev pub closed_where : Bool → End → End
closed_where true end = closed_end end
closed_where false end = end

-- A message was handled, which was taken off this end before: the debuggee, and the end behind it; and what is sent are the handshake and
-- packets within the limit.
pub record IsHandled {S : Type 0} (m : Meaning S) (message : Message) (old new : Debuggee S) (end after : End) : Type 0 where
  pub debuggee : new ≡ visiting (visits_handled m old.settings old.moment message old.visits)
      (debuggee_after (handles m old.settings (stands old.moment Established) message) old)
  pub left : after ≡ end_after (handles m old.settings (stands old.moment Established) message) end
  pub handshaken : new.moment.state.handshaken ≡ true
  pub sends : AreSendable end.limits.packet (handles m old.settings (stands old.moment Established) message).sends

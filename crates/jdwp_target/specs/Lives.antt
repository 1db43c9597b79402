-- What a target sends over its whole life, session after session, and how its composites are numbered
-- (JDWP specification, "Packets": the id; "Event": Composite).
use Rattle.std.specs.Prelude.{◌≡◌, ℕ, ◌+◌, ◌%◌, ◌^◌, Bool, true, false, List, [], ◌∷◌, ◌++◌, if◌then◌else◌, slice_index, EachIndex}
use Rattle.jdwp_wire.specs.Streams.{Message, Handshake, Packet}
use Rattle.jdwp_wire.specs.declared.packet.PacketKind.{PacketKind}
use Rattle.jdwp_wire.specs.declared.packet.PacketKind.TheVariants as kind
use Rattle.jdwp_end.specs.declared.phase.Phase.{Phase}
use Rattle.jdwp_end.specs.declared.phase.Phase.TheVariants.{Closed, AwaitingHandshake, Established}
use Rattle.jdwp_layout.specs.CommandNumbers.{COMPOSITE, is_command}
use Rattle.jdwp_machine.specs.Meanings.{Meaning}
use Rattle.jdwp_debuggee.specs.Settings.{Settings}
use Rattle.jdwp_debuggee.specs.State.{new_state}
use Rattle.jdwp_target.specs.Standings.{stands}
use Rattle.jdwp_target.specs.Deeds.{Deed, FullStanding, perform, with_none_deferred}

-- What happens in a life: a session begins, or a deed is done.
pub data LifeDeed : Type 0 where
  Begins : LifeDeed
  Goes : Deed → LifeDeed

-- a session begins where none is open and the machine lives
abbrev pub begun_by : {S : Type 0} → FullStanding S → Phase → Bool → FullStanding S
begun_by now Closed true = with_none_deferred (stands now.standing.moment AwaitingHandshake) now.deferring
begun_by now Closed false = now
begun_by now AwaitingHandshake alive = now
begun_by now Established alive = now

abbrev pub begun : {S : Type 0} → FullStanding S → FullStanding S
begun now = begun_by now now.standing.phase now.standing.moment.state.alive

-- what is sent for all that happens
abbrev pub sent_in_life : {S : Type 0} → Meaning S → Settings → FullStanding S → List LifeDeed → List Message
sent_in_life m settings now [] = []
sent_in_life m settings now (Begins ∷ rest) = sent_in_life m settings (begun now) rest
sent_in_life m settings now (Goes deed ∷ rest) = (perform m settings now deed).sends ++ sent_in_life m settings (perform m settings now deed).after rest

-- the ids of the composites among messages, in order
abbrev pub id_if_composite : ℕ → PacketKind → List ℕ
id_if_composite id (kind.Command set number) = if is_command COMPOSITE set number then id ∷ [] else []
id_if_composite id (kind.Reply error) = []

abbrev pub composite_ids : List Message → List ℕ
composite_ids [] = []
composite_ids (Handshake ∷ messages) = composite_ids messages
composite_ids (Packet header body ∷ messages) = id_if_composite header.id header.kind ++ composite_ids messages

-- the first is 1, and so on, modulo 2 ^ 32
abbrev pub AreNumbered : List ℕ → Type 0
AreNumbered ids = EachIndex ids (λ k. slice_index ids k ≡ (k + 1) % 2 ^ 32)

-- Over the life of every target, from its making on, its composites are numbered in the order sent; VM_START and VM_DEATH are among them.
abbrev pub NumbersComposites : {S : Type 0} → Meaning S → Type 0
NumbersComposites {S} m = (settings : Settings) (s : S) (life : List LifeDeed)
    → AreNumbered (composite_ids (sent_in_life m settings (with_none_deferred (stands (record { state = new_state (m.live s); machine = s }) Closed) false) life))

-- What a turn did, by what it answered.
use Rattle.std.proofs.Common.{◌≡◌, ◌≢◌, ℕ, Bool, true, false, List, Option, Some, None, Ok, Err, refl}
use Rattle.jdwp_wire.specs.declared.frame.FrameFault.{FrameFault}
use Rattle.jdwp_wire.specs.declared.packet.PacketKind.{PacketKind}
use Rattle.jdwp_wire.specs.declared.packet.PacketKind.TheVariants as kind
use Rattle.jdwp_wire.specs.Streams.{Message, Handshake, Packet, NextMessage, Whole, More, Fault}
use Rattle.jdwp_machine.specs.Meanings.{Meaning}
use Rattle.jdwp_target.specs.declared.target.TargetFault.{TargetFault}
use Rattle.jdwp_target.specs.declared.target.TargetFault.TheVariants.{Frame, NoMemory}
use Rattle.jdwp_target.specs.declared.target.Turn.{Turn}
use Rattle.jdwp_target.specs.declared.target.Turn.TheVariants.{Nothing}
use Rattle.jdwp_target.specs.Targets.{Target, full_standing, lost_target, with_handled, with_release}
use Rattle.jdwp_target.specs.Deeds.{defers}
use Rattle.jdwp_target.specs.Turns.{ReleasesAt, TurnsAt, told_of_packet, told_where}
use Rattle.jdwp_engine.specs.Outcome.{CallsForMemory}

pub handled-Whole : {S : Type 0} (m : Meaning S) (next : NextMessage) (old new : Target S) (turn : Turn) → TurnsAt m next old (Ok turn) new → turn ≢ Nothing
    → (message : Message) × (used : ℕ) × (next ≡ Whole message used) × (new ≡ with_handled m message used old)
handled-Whole m (Whole message used) old new turn h some = (message, used, refl, h.1)
handled-Whole m More old new turn h some = absurd (some cc)
handled-Whole m (Fault fault) old new turn h some = absurd (let e = h.0 in cc)

-- a message is told of
packet-told : {S : Type 0} (m : Meaning S) (old : Target S) (id : ℕ) (k : PacketKind) (body : List ℕ) → Nothing ≡ told_of_packet m old id k body → ⊥
packet-told m old id (kind.Command set number) body e = cc
packet-told m old id (kind.Reply error) body e = cc

message-told : {S : Type 0} (m : Meaning S) (old : Target S) (message : Message) (b : Bool) → Nothing ≡ told_where m old message b → ⊥
message-told m old Handshake b e = cc
message-told m old (Packet header body) true e = cc
message-told m old (Packet header body) false e = packet-told m old header.id header.kind body e

pub nothing-More : {S : Type 0} (m : Meaning S) (next : NextMessage) (old new : Target S) → TurnsAt m next old (Ok Nothing) new → (next ≡ More) × (new ≡ old)
nothing-More m (Whole message used) old new h = absurd (message-told m old message (defers (full_standing old) message) h.0)
nothing-More m More old new h = (refl, h.1)
nothing-More m (Fault fault) old new h = absurd (let e = h.0 in cc)

pub frame-Fault : {S : Type 0} (m : Meaning S) (next : NextMessage) (old new : Target S) (fault : FrameFault) → TurnsAt m next old (Err (Frame fault)) new → (next ≡ Fault fault) × (new ≡ lost_target old)
frame-Fault m (Whole message used) old new fault h = absurd (let e = h.0 in cc)
frame-Fault m More old new fault h = absurd (let e = h.0 in cc)
frame-Fault m (Fault fault') old new fault h = (let e = h.0 in cc, h.1)

pub no_memory-Whole : {S : Type 0} (m : Meaning S) (next : NextMessage) (old new : Target S) → TurnsAt m next old (Err NoMemory) new → CallsForMemory m old next × (new ≡ old)
no_memory-Whole m (Whole message used) old new h = ((message, used, refl, h.1), h.2)
no_memory-Whole m More old new h = absurd (let e = h.0 in cc)
no_memory-Whole m (Fault fault) old new h = absurd (let e = h.0 in cc)

-- a release of the command that is found
pub released-one : {S : Type 0} (m : Meaning S) (place : ℕ) (old new : Target S) (o : Option (Message × List Message)) (message : Message) (others : List Message) (turn : Turn) → o ≡ Some (message, others)
    → ReleasesAt m place o old (Ok turn) new → new ≡ with_release m place old
released-one m place old new None message others turn e h = absurd (cc)
released-one m place old new (Some found) message others turn e h = h.1

-- where it wants memory nothing changes
pub released-none : {S : Type 0} (m : Meaning S) (place : ℕ) (old new : Target S) (o : Option (Message × List Message)) (fault : TargetFault) → ReleasesAt m place o old (Err fault) new → (fault ≡ NoMemory) × (new ≡ old)
released-none m place old new None fault h = absurd (let e = h.0 in cc)
released-none m place old new (Some (message, others)) fault h = (h.0, h.2)

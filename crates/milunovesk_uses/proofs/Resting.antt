-- A turn that handled nothing had nothing to handle.
use Rattle.std.proofs.Common.{◌≡◌, ℕ, Bool, true, false, List, Ok, refl}
use Rattle.milunovesk.specs.Wire.PacketKind.{PacketKind}
use Rattle.milunovesk.specs.Wire.PacketKind.TheVariants as kind
use Rattle.milunovesk.specs.Wire.Streams.{Message, Handshake, Packet, NextMessage, Whole, More, Fault}
use Rattle.milunovesk.specs.Machine.Meanings.{Meaning}
use Rattle.milunovesk.specs.Target.Deeds.{defers}
use Rattle.milunovesk.specs.Target.Targets.{Target, full_standing}
use Rattle.milunovesk.specs.Target.Turn.TheVariants.{Nothing}
use Rattle.milunovesk.specs.Target.Turns.{TurnsAt, told_of_packet, told_where}

-- a message is told of
packet-told : {S : Type 0} (m : Meaning S) (old : Target S) (id : ℕ) (k : PacketKind) (body : List ℕ) → Nothing ≡ told_of_packet m old id k body → ⊥
packet-told m old id (kind.Command set number) body e = cc
packet-told m old id (kind.Reply error) body e = cc

message-told : {S : Type 0} (m : Meaning S) (old : Target S) (message : Message) (b : Bool) → Nothing ≡ told_where m old message b → ⊥
message-told m old Handshake b e = cc
message-told m old (Packet header body) true e = cc
message-told m old (Packet header body) false e = packet-told m old header.id header.kind body e

pub nothing-More : {S : Type 0} (m : Meaning S) (next : NextMessage) (old new : Target S) → TurnsAt m next old (Ok Nothing) new → (next ≡ More) × (new ≡ old)
nothing-More m (Whole message used) old new h = absurd (message-told m old message (defers (full_standing old) message) h.0)
nothing-More m More old new h = (refl, h.1)
nothing-More m (Fault fault) old new h = absurd (let e = h.0 in cc)

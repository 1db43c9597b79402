-- A turn that handles a message takes its bytes off.
use Rattle.std.proofs.Common.{◌≡◌, ◌≢◌, ℕ, ◌+◌, ◌≤◌, length, take, drop, Result, Ok, Err, IfOk, ap, refl, arith}
use Rattle.std.proofs.lemmas.List.{length-drop, length-take-le}
use Rattle.jdwp_wire.specs.Bytes.{IsBytes}
use Rattle.jdwp_wire.specs.Streams.{Message, Handshake, Packet, NextMessage, Whole, More, Fault, message_bytes}
use Rattle.jdwp_wire.specs.StreamLaws.{packet_length}
use Rattle.jdwp_end.specs.Ends.{End, front_of}
use Rattle.jdwp_end.specs.FrontLaws.{in-front}
use Rattle.jdwp_machine.specs.Meanings.{Meaning}
use Rattle.jdwp_target.specs.declared.target.TargetFault.{TargetFault}
use Rattle.jdwp_target.specs.declared.target.Turn.{Turn}
use Rattle.jdwp_target.specs.declared.target.Turn.TheVariants.{Nothing}
use Rattle.jdwp_target.specs.Targets.{Target}
use Rattle.jdwp_target.specs.Turns.{TurnsAt}

-- no message is shorter than the header of a packet
message-size : (message : Message) → 11 ≤ length (message_bytes message)
message-size Handshake = omega arith
message-size (Packet header body) = omega (arith, packet_length header body)

-- so many bytes at least are taken off with the message in front
front-size : (end : End) (message : Message) (used : ℕ) → IsBytes end.incoming → front_of end ≡ Whole message used → (11 ≤ used) × (used ≤ length end.incoming)
front-size end message used fits e =
    let at = (in-front end message used fits e).0 in
    let size : length (take used end.incoming) ≡ length (message_bytes message) = ap length at.bytes_are in
    (omega (arith, size, length-take-le used end.incoming at.there, message-size message), at.there)

shrinks-by : {S : Type 0} (m : Meaning S) (next : NextMessage) (old new : Target S) (turn : Turn) → ((message : Message) (used : ℕ) → next ≡ Whole message used → (11 ≤ used) × (used ≤ length old.end.incoming))
    → TurnsAt m next old (Ok turn) new → turn ≢ Nothing → 11 + length new.end.incoming ≤ length old.end.incoming
shrinks-by m (Whole message used) old new turn sized h some =
    let size = sized message used refl in
    let left : length new.end.incoming ≡ length (drop used old.end.incoming) = ap (λ (t : Target _). length t.end.incoming) h.1 in
    omega (arith, size.0, size.1, left, length-drop used old.end.incoming)
shrinks-by m More old new turn sized h some = absurd (some cc)
shrinks-by m (Fault fault) old new turn sized h some = absurd (let e = h.0 in cc)

shrinks : {S : Type 0} (m : Meaning S) (old new : Target S) (turn : Turn) → IsBytes old.end.incoming → TurnsAt m (front_of old.end) old (Ok turn) new → turn ≢ Nothing
    → 11 + length new.end.incoming ≤ length old.end.incoming
shrinks m old new turn fits = shrinks-by m (front_of old.end) old new turn (λ message used e. front-size old.end message used fits e)

-- what a turn leaves of the bytes that came
pub shrinks-if : {S : Type 0} (m : Meaning S) (old new : Target S) (result : Result Turn TargetFault) → IsBytes old.end.incoming → TurnsAt m (front_of old.end) old result new
    → IfOk result (λ turn. turn ≢ Nothing → 11 + length new.end.incoming ≤ length old.end.incoming)
shrinks-if m old new (Ok turn) fits h = shrinks m old new turn fits h
shrinks-if m old new (Err fault) fits h = tt

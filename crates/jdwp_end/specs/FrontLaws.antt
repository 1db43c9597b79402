-- Laws of what stands in front of the bytes that came to an end.
use Rattle.std.proofs.Common.{◌≡◌, ◌∙◌, ℕ, ◌≤◌, ◌++◌, List, length, take, drop, Bool, true, false, cond, sym, ap, refl, arith}
use Rattle.std.proofs.lemmas.List.{length-append, length-drop, take_at, drop_at}
use Rattle.jdwp_wire.specs.Bytes.{IsBytes}
use Rattle.jdwp_wire.specs.Frames.{Front, front}
use Rattle.jdwp_wire.specs.Frames as frames
use Rattle.jdwp_wire.specs.FrameLaws.{front_found}
use Rattle.jdwp_wire.specs.Handshake.{handshake_bytes, handshake_front}
use Rattle.jdwp_wire.specs.HandshakeLaws.{handshake_front_is}
use Rattle.jdwp_wire.specs.Streams.{Message, Handshake, Packet, NextMessage, Whole, More, Fault, after_handshake, at_handshake, message_bytes, IsPacketMessage}
use Rattle.jdwp_wire.specs.declared.frame.FrameFault.{FrameFault}
use Rattle.jdwp_wire.specs.declared.frame.NextHello.{NextHello}
use Rattle.jdwp_wire.specs.declared.frame.NextHello.TheVariants as hello
use Rattle.jdwp_end.specs.declared.phase.Phase.{Phase}
use Rattle.jdwp_end.specs.declared.phase.Phase.TheVariants.{Closed, AwaitingHandshake, Established}
use Rattle.jdwp_end.specs.Ends.{End, is_open_phase, is_paused, front_of, next_at, next_of}

-- a message of so many bytes stands in front of these
pub record IsInFront (bytes : List ℕ) (message : Message) (used : ℕ) : Type 0 where
  pub there : used ≤ length bytes
  pub bytes_are : take used bytes ≡ message_bytes message
  pub rest_follows : bytes ≡ message_bytes message ++ drop used bytes

-- the handshake is the first message, and packets follow it
abbrev pub IsDue : ℕ → Phase → Message → Type 0
IsDue limit Closed message = ⊥
IsDue limit AwaitingHandshake message = message ≡ Handshake
IsDue limit Established message = IsPacketMessage limit message

-- ---- the handshake

begins : (bytes code rest : List ℕ) (n : ℕ) → length code ≡ n → bytes ≡ code ++ rest → (n ≤ length bytes) × (take n bytes ≡ code) × (bytes ≡ code ++ drop n bytes)
begins bytes code rest n size e = (
  omega (arith, ap (λ (x : List ℕ). length x) e, length-append code rest, size),
  ap (λ (x : List ℕ). take n x) e ∙ take_at code rest n size,
  e ∙ ap (λ (x : List ℕ). code ++ x) (sym (drop_at code rest n size)) ∙ ap (λ (x : List ℕ). code ++ drop n x) (sym e),
)

handshake-in-front : (bytes : List ℕ) (found : NextHello) (message : Message) (used : ℕ) → handshake_front bytes ≡ found → at_handshake found ≡ Whole message used
    → IsInFront bytes message used × (message ≡ Handshake)
handshake-in-front bytes hello.Whole message used e w =
    let at = rw e at (handshake_front_is bytes) in
    let b = begins bytes handshake_bytes at.0 14 refl at.1 in
    let same : Handshake ≡ message = cc in
    let size : 14 ≡ used = cc in
    rw (← same, ← size) (record { there = b.0; bytes_are = b.1; rest_follows = b.2 }, refl)
handshake-in-front bytes hello.More message used e w = absurd cc
handshake-in-front bytes (hello.Fault fault) message used e w = absurd cc

-- ---- packets

packet-in-front : (limit : ℕ) (bytes : List ℕ) (found : Front) (message : Message) (used : ℕ) → IsBytes bytes → front limit bytes ≡ found → after_handshake found ≡ Whole message used
    → IsInFront bytes message used × IsPacketMessage limit message
packet-in-front limit bytes (frames.Whole header body n) message used fits e w =
    let p = front_found limit bytes header body n fits e in
    let code = message_bytes (Packet header body) in
    let size : length code ≡ n = omega (arith, p.2, ap (λ (x : List ℕ). length x) p.3, length-append code (drop n bytes), length-drop n bytes) in
    let b = begins bytes code (drop n bytes) n size p.3 in
    let same : Packet header body ≡ message = cc in
    let count : n ≡ used = cc in
    rw (← same, ← count) (record { there = b.0; bytes_are = b.1; rest_follows = b.2 }, p.0)
packet-in-front limit bytes frames.More message used fits e w = absurd cc
packet-in-front limit bytes (frames.Fault fault) message used fits e w = absurd cc

next-in-front : (limit : ℕ) (phase : Phase) (bytes : List ℕ) (message : Message) (used : ℕ) → IsBytes bytes → next_at limit phase bytes ≡ Whole message used
    → IsInFront bytes message used × IsDue limit phase message
next-in-front limit Closed bytes message used fits e = absurd cc
next-in-front limit AwaitingHandshake bytes message used fits e = handshake-in-front bytes (handshake_front bytes) message used refl e
next-in-front limit Established bytes message used fits e = packet-in-front limit bytes (front limit bytes) message used fits refl e

unpaused : (b : Bool) (next : NextMessage) (message : Message) (used : ℕ) → cond b More next ≡ Whole message used → (b ≡ false) × (next ≡ Whole message used)
unpaused true next message used e = absurd cc
unpaused false next message used e = (refl, e)

-- what there is to handle stands in front, and the end is not paused
pub front-whole : (end : End) (message : Message) (used : ℕ) → front_of end ≡ Whole message used → (is_paused end ≡ false) × (next_of end ≡ Whole message used)
front-whole end message used e = unpaused (is_paused end) (next_of end) message used e

pub in-front : (end : End) (message : Message) (used : ℕ) → IsBytes end.incoming → front_of end ≡ Whole message used
    → IsInFront end.incoming message used × IsDue end.limits.packet end.phase message
in-front end message used fits e = next-in-front end.limits.packet end.phase end.incoming message used fits (front-whole end message used e).1

pub due-open : (limit : ℕ) (phase : Phase) (message : Message) → IsDue limit phase message → is_open_phase phase ≡ true
due-open limit Closed message due = absurd due
due-open limit AwaitingHandshake message due = refl
due-open limit Established message due = refl

unpaused-fault : (b : Bool) (next : NextMessage) (fault : FrameFault) → cond b More next ≡ Fault fault → next ≡ Fault fault
unpaused-fault true next fault e = absurd cc
unpaused-fault false next fault e = e

-- what there is to handle at an end that is not paused
pub front-next : (end : End) → is_paused end ≡ false → front_of end ≡ next_of end
front-next end flows = rw flows refl

pub front-fault : (end : End) (fault : FrameFault) → front_of end ≡ Fault fault → next_of end ≡ Fault fault
front-fault end fault e = unpaused-fault (is_paused end) (next_of end) fault e

-- what stands in front of an end that takes longer packets than another, and of one that takes shorter packets than came
use Rattle.std.proofs.Common.{◌≡◌, ◌≤◌, ◌<◌, ◌^◌, ℕ, ◌+◌, Bool, true, false, cond, List, ◌++◌, length, drop, refl, ap, arith}
use Rattle.std.specs.Prelude.{nat_lt}
use Rattle.std.proofs.lemmas.Bool.{le-ltb, ltb-false}
use Rattle.std.proofs.lemmas.List.{length-append}
use Rattle.byteorder.specs.Numbers.{big_number-reads_back}
use Rattle.jdwp_wire.specs.declared.frame.FrameFault.{FrameFault}
use Rattle.jdwp_wire.specs.declared.frame.FrameFault.TheVariants.{ShortLength, TooLong}
use Rattle.jdwp_wire.specs.declared.packet.Header.{Header}
use Rattle.jdwp_wire.specs.FrameLaws.{front_only}
use Rattle.jdwp_wire.specs.Frames as frames
use Rattle.jdwp_wire.specs.Frames.{flagged, front, length_field, measured, packet_bytes}
use Rattle.jdwp_wire.specs.StreamLaws.{packet_length}
use Rattle.jdwp_wire.specs.Streams as streams
use Rattle.jdwp_wire.specs.Streams.{after_handshake}
use Rattle.jdwp_end.specs.declared.phase.Phase.{Phase}
use Rattle.jdwp_end.specs.declared.phase.Phase.TheVariants.{AwaitingHandshake, Closed, Established}
use Rattle.jdwp_end.specs.Ends.{next_at}

-- ---- the same, where no fault stands there

-- what is found is no fault
abbrev NoFault : streams.NextMessage → Type 0
NoFault next = (fault : FrameFault) → next ≡ streams.Fault fault → ⊥

long-same : (less more : Bool) (rest : frames.Front) → (less ≡ false → more ≡ false) → NoFault (after_handshake (cond less (frames.Fault TooLong) rest))
    → cond more (frames.Fault TooLong) rest ≡ cond less (frames.Fault TooLong) rest
long-same true more rest within none = absurd (none TooLong refl)
long-same false more rest within none = ap (λ b. cond b (frames.Fault TooLong) rest) (within refl)

within : (less more n : ℕ) → less ≤ more → nat_lt less n ≡ false → nat_lt more n ≡ false
within less more n le h = let fits = ltb-false less n h in le-ltb more n (omega (le, fits, arith))

short-same : (short : Bool) (less more n : ℕ) (rest : frames.Front) → less ≤ more → NoFault (after_handshake (cond short (frames.Fault ShortLength) (cond (nat_lt less n) (frames.Fault TooLong) rest)))
    → cond short (frames.Fault ShortLength) (cond (nat_lt more n) (frames.Fault TooLong) rest) ≡ cond short (frames.Fault ShortLength) (cond (nat_lt less n) (frames.Fault TooLong) rest)
short-same true less more n rest le none = refl
short-same false less more n rest le none = long-same (nat_lt less n) (nat_lt more n) rest (within less more n le) none

cut-same : (cut : Bool) (less more : ℕ) (bytes : List ℕ) → less ≤ more → NoFault (after_handshake (cond cut frames.More (measured less (length_field bytes) bytes)))
    → cond cut frames.More (measured more (length_field bytes) bytes) ≡ cond cut frames.More (measured less (length_field bytes) bytes)
cut-same true less more bytes le none = refl
cut-same false less more bytes le none = short-same (nat_lt (length_field bytes) 11) less more (length_field bytes) (flagged (length_field bytes) bytes) le none

-- Where longer packets are taken the same is found, unless a fault is.
pub next-same : (phase : Phase) (less more : ℕ) (bytes : List ℕ) → less ≤ more → NoFault (next_at less phase bytes) → next_at more phase bytes ≡ next_at less phase bytes
next-same Closed less more bytes le none = refl
next-same AwaitingHandshake less more bytes le none = refl
next-same Established less more bytes le none = ap after_handshake (cut-same (nat_lt (length bytes) 4) less more bytes le none)

-- ---- a packet that is too long

-- It is found to be too long as soon as its length came.
pub finds-longer : (limit : ℕ) (header : Header) (body rest : List ℕ) → header.length ≡ 11 + length body → header.length < 2 ^ 32 → limit < header.length
    → next_at limit Established (packet_bytes header body ++ rest) ≡ streams.Fault TooLong
finds-longer limit header body rest counts fits longer =
    let bytes = packet_bytes header body ++ rest in
    let says : length_field bytes ≡ header.length = big_number-reads_back 4 header.length (drop 4 bytes) fits in
    let all = packet_length header body in
    let more = length-append (packet_bytes header body) rest in
    let four : 4 ≤ length bytes = omega (all, more, arith) in
    let eleven : 11 ≤ length_field bytes = omega (says, counts, arith) in
    let over : limit < length_field bytes = omega (says, longer, arith) in
    ap after_handshake (front_only limit bytes (frames.Fault TooLong) (omega (fits, longer, arith)) (four, eleven, over))

-- An end that calls for more has room, and the data of the packet in front lie behind its header.
use Rattle.std.proofs.Common.{◌≡◌, ◌∙◌, ℕ, ◌<◌, ◌+◌, ◌-◌, ◌≤◌, ◌++◌, List, [], length, take, drop, Bool, true, false, cond, sym, ap, refl, arith, inl, inr}
use Rattle.std.proofs.lemmas.Bool.{cases_lt, lt-leb}
use Rattle.std.proofs.lemmas.List.{drop-take, drop_at, length-append, length-take, take-append-le}
use Rattle.jdwp_wire.specs.Bytes.{IsBytes}
use Rattle.jdwp_wire.specs.Frames.{Front, front, header_bytes}
use Rattle.jdwp_wire.specs.Frames as frames
use Rattle.jdwp_wire.specs.FrameLaws.{front_is}
use Rattle.jdwp_wire.specs.StreamLaws.{packet_length}
use Rattle.jdwp_wire.specs.Handshake.{handshake_front}
use Rattle.jdwp_wire.specs.HandshakeLaws.{handshake_front_is}
use Rattle.jdwp_wire.specs.Streams.{Packet, NextMessage, Whole, More, after_handshake, at_handshake}
use Rattle.jdwp_wire.specs.declared.packet.Header.{Header}
use Rattle.jdwp_wire.specs.declared.frame.NextHello.{NextHello}
use Rattle.jdwp_wire.specs.declared.frame.NextHello.TheVariants as hello
use Rattle.jdwp_wire.specs.Limits.{least_packet_limit}
use Rattle.jdwp_end.specs.declared.phase.Phase.{Phase}
use Rattle.jdwp_end.specs.declared.phase.Phase.TheVariants.{Closed, AwaitingHandshake, Established}
use Rattle.jdwp_end.specs.Ends.{End, is_open, is_open_phase, is_paused, front_of, next_at, next_of, room_of}
use Rattle.jdwp_end.specs.FrontLaws.{in-front}

-- ---- where more bytes are called for, there are fewer than a packet may have

more-short : (limit : ℕ) (bytes : List ℕ) → 11 ≤ limit → IsBytes bytes → front limit bytes ≡ frames.More → length bytes < limit
more-short limit bytes low fits e =
    let at = rw e at (front_is limit bytes fits) in
    elim (cases_lt (length bytes) 4) [
      | inl few ↦ omega arith
      | inr there ↦ let m = at.0 there in omega (arith, m.0.1, m.1)
    ]

hello-short : (bytes : List ℕ) → handshake_front bytes ≡ hello.More → length bytes < 14
hello-short bytes e =
    let at = rw e at (handshake_front_is bytes) in
    let counts : 14 ≡ length bytes + length at.0 = ap (λ (xs : List ℕ). length xs) at.2 ∙ length-append bytes at.0 in
    omega (arith, counts)

front-More : (found : Front) → after_handshake found ≡ More → found ≡ frames.More
front-More (frames.Whole header body used) e = absurd cc
front-More frames.More e = refl
front-More (frames.Fault fault) e = absurd cc

hello-More : (found : NextHello) → at_handshake found ≡ More → found ≡ hello.More
hello-More hello.Whole e = absurd cc
hello-More hello.More e = refl
hello-More (hello.Fault fault) e = absurd cc

pub more-room : (limit : ℕ) (phase : Phase) (bytes : List ℕ) → 14 ≤ limit → IsBytes bytes → is_open_phase phase ≡ true → next_at limit phase bytes ≡ More → length bytes < limit
more-room limit Closed bytes low fits opened e = absurd (let h = opened in cc)
more-room limit AwaitingHandshake bytes low fits opened e = omega (arith, low, hello-short bytes (hello-More (handshake_front bytes) e))
more-room limit Established bytes low fits opened e = more-short limit bytes (omega arith) fits (front-More (front limit bytes) e)

unpaused-more : (b : Bool) (next : NextMessage) → b ≡ false → cond b More next ≡ More → next ≡ More
unpaused-more true next p e = absurd cc
unpaused-more false next p e = e

-- an end at which nothing waits is not paused
pub empty-flows : (end : End) → least_packet_limit ≤ end.limits.packet → end.outgoing ≡ [] → is_paused end ≡ false
empty-flows end low none = rw none (lt-leb end.limits.packet 0 (omega arith))

pub more-has-room : (end : End) → least_packet_limit ≤ end.limits.packet → IsBytes end.incoming → front_of end ≡ More → is_open end ≡ true → is_paused end ≡ false → 0 < room_of end
more-has-room end low fits e opened flows =
    let next : next_of end ≡ More = unpaused-more (is_paused end) (next_of end) flows e in
    let short = more-room end.limits.packet end.phase end.incoming (omega arith) fits opened next in
    rw opened (omega (arith, short))

-- ---- the data of a packet that are lent

-- they lie behind its header
pub body-lies : (end : End) (header : Header) (body : List ℕ) (used : ℕ) → IsBytes end.incoming → front_of end ≡ Whole (Packet header body) used
    → (drop 11 (take used end.incoming) ≡ body) × (11 ≤ used)
body-lies end header body used fits e =
    let at = (in-front end (Packet header body) used fits e).0 in
    let whole = packet_length header body in
    let header-size : length (header_bytes header) ≡ 11 = omega (arith, packet_length header [], length-append (header_bytes header) []) in (
      ap (λ (bytes : List ℕ). drop 11 bytes) at.bytes_are ∙ drop_at (header_bytes header) body 11 header-size,
      omega (arith, at.there, whole, ap (λ (bytes : List ℕ). length bytes) at.bytes_are, length-take used end.incoming),
    )

-- also where its first bytes alone are there
pub body-lent : (end : End) (first rest : List ℕ) (header : Header) (body : List ℕ) (used : ℕ) → first ++ rest ≡ end.incoming → used ≤ length first → IsBytes end.incoming
    → front_of end ≡ Whole (Packet header body) used → take (used - 11) (drop 11 first) ≡ body
body-lent end first rest header body used joined there fits e =
    let lies = body-lies end header body used fits e in
    let lent : take used first ≡ take used end.incoming = sym (take-append-le used first rest there) ∙ ap (λ (zs : List ℕ). take used zs) joined in
    let cut : 11 + (used - 11) ≡ used = omega (arith, lies.1) in
    sym (drop-take 11 (used - 11) first) ∙ ap (λ (n : ℕ). drop 11 (take n first)) cut ∙ ap (λ (zs : List ℕ). drop 11 zs) lent ∙ lies.0

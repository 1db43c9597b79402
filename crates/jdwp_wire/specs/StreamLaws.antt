-- Messages are found whole at the front of a stream, and less than a whole one calls for more.
use Rattle.std.specs.Prelude.{◌≡◌, ℕ, zero, suc, ◌+◌, ◌-◌, ◌^◌, ◌≤◌, ◌<◌, List, [], ◌∷◌, ◌++◌, length, take, drop, slice_index, Bool, true, false, refl}
use Rattle.std.proofs.Common.{ap, sym, ◌∙◌, arith, subst, inl, inr}
use Rattle.std.proofs.lemmas.Bool.{cases_lt, lt-leb, le-leb}
use Rattle.std.proofs.lemmas.List.{length-append, length-take-le, length-drop, get_or-take, take-append-le, take-append-drop}
use Rattle.byteorder.specs.Endian.{big_bytes}
use Rattle.byteorder.specs.Numbers.{big_number-reads_back, length-bytes_high_first}
use Rattle.jdwp_wire.specs.declared.frame.NextHello.TheVariants as hello
use Rattle.jdwp_wire.specs.declared.packet.Header.{Header}
use Rattle.jdwp_wire.specs.declared.packet.PacketKind.{PacketKind}
use Rattle.jdwp_wire.specs.declared.packet.PacketKind.TheVariants.{Command, Reply}
use Rattle.jdwp_wire.specs.Frames.{kind_bytes, header_bytes, packet_bytes, IsPacket, More, IsFlags, IsLength, length_field, front}
use Rattle.jdwp_wire.specs.FrameLaws.{front_only, front_again}
use Rattle.jdwp_wire.specs.Handshake.{handshake_bytes, handshake_front}
use Rattle.jdwp_wire.specs.HandshakeLaws.{handshake_front_only}
use Rattle.jdwp_wire.specs.Streams.{Message, Handshake, Packet, Whole, message_bytes, stream, IsSendable, after_handshake, at_handshake, next_message, is_packet, front_of_cut}
use Rattle.jdwp_wire.specs.Streams as streams

-- ---- how many bytes a message has

kind_length : (k : PacketKind) → length (kind_bytes k) ≡ 3
kind_length (Command set number) = refl
kind_length (Reply error) = let e = length-bytes_high_first 2 error.0 in omega (arith, e)

pub packet_length : (h : Header) (body : List ℕ) → length (packet_bytes h body) ≡ 11 + length body
packet_length h body =
    let a = length-bytes_high_first 4 h.length in
    let b = length-bytes_high_first 4 h.id in
    let c = kind_length h.kind in
    let d = length-append (big_bytes 4 h.id) (kind_bytes h.kind) in
    let e = length-append (big_bytes 4 h.length) (big_bytes 4 h.id ++ kind_bytes h.kind) in
    let f = length-append (header_bytes h) body in
    omega arith

-- ---- all of a message

pub whole_handshake : (limit : ℕ) (rest : List ℕ) → next_message limit false (handshake_bytes ++ rest) ≡ Whole Handshake (length handshake_bytes)
whole_handshake limit rest = ap at_handshake (handshake_front_only (handshake_bytes ++ rest) hello.Whole (rest, refl))

pub whole_packet : (limit : ℕ) (h : Header) (body rest : List ℕ) → limit < 2 ^ 32 → IsPacket limit h body
    → next_message limit true (packet_bytes h body ++ rest) ≡ Whole (Packet h body) h.length
whole_packet limit h body rest small p = ap after_handshake (front_again limit h body rest small p)

-- ---- less than all of a message

pub short_handshake : (limit n : ℕ) (rest : List ℕ) → n < length handshake_bytes → next_message limit false (take n (handshake_bytes ++ rest)) ≡ streams.More
short_handshake limit n rest lt =
    let front-is : take n (handshake_bytes ++ rest) ≡ take n handshake_bytes = take-append-le n handshake_bytes rest (omega arith) in
    let left = length-drop n handshake_bytes in
    let more = handshake_front_only (take n handshake_bytes) hello.More (drop n handshake_bytes, omega arith, sym (take-append-drop n handshake_bytes)) in
    ap (λ (bytes : List ℕ). at_handshake (handshake_front bytes)) front-is ∙ ap at_handshake more

flags_are : (n id : ℕ) (k : PacketKind) (body rest : List ℕ) → IsFlags (slice_index (packet_bytes (record { length = n; id = id; kind = k }) body ++ rest) 8)
flags_are n id (Command set number) body rest = inl refl
flags_are n id (Reply error) body rest = inr refl

length_is : (h : Header) (body rest : List ℕ) (k : ℕ) → h.length < 2 ^ 32 → length_field (take (suc (suc (suc (suc k)))) (packet_bytes h body ++ rest)) ≡ h.length
length_is h body rest k small = big_number-reads_back 4 h.length (take k (drop 4 (packet_bytes h body ++ rest))) small

length_of_cut : (limit n : ℕ) (h : Header) (body rest : List ℕ) → IsPacket limit h body → n < h.length → length (take n (packet_bytes h body ++ rest)) ≡ n
length_of_cut limit n h body rest p lt =
    let a = packet_length h body in
    let b = length-append (packet_bytes h body) rest in
    let c = p.length_counts_all in
    length-take-le n (packet_bytes h body ++ rest) (omega arith)

-- the length that a cut says is the packet's
measure_of_cut : (limit n : ℕ) (h : Header) (body rest : List ℕ) → limit < 2 ^ 32 → IsPacket limit h body → n < h.length → 4 ≤ n
    → IsLength limit (length_field (take n (packet_bytes h body ++ rest))) × (n < length_field (take n (packet_bytes h body ++ rest)))
measure_of_cut limit (suc (suc (suc (suc k)))) h body rest small p lt four =
    let a = p.length_counts_all in
    let b = p.within_limit in
    let e : length_field (take (suc (suc (suc (suc k)))) (packet_bytes h body ++ rest)) ≡ h.length = length_is h body rest k (omega arith) in
    ((omega arith, omega arith), omega arith)
measure_of_cut limit n h body rest small p lt four = absurd (omega arith)

pub short_packet : (limit n : ℕ) (h : Header) (body rest : List ℕ) → limit < 2 ^ 32 → IsPacket limit h body → n < h.length
    → next_message limit true (take n (packet_bytes h body ++ rest)) ≡ streams.More
short_packet limit n h body rest small p lt =
    let e = length_of_cut limit n h body rest p lt in
    ap after_handshake (front_only limit (take n (packet_bytes h body ++ rest)) More small (
      λ four. let c = measure_of_cut limit n h body rest small p lt (omega (four, e, arith)) in (c.0, omega (e, c.1, arith)),
      λ nine. subst IsFlags (sym (get_or-take n (packet_bytes h body ++ rest) 8 0 (omega (nine, e, arith)))) (flags_are h.length h.id h.kind body rest),
    ))

pub no_bytes : (limit : ℕ) (b : Bool) → next_message limit b [] ≡ streams.More
no_bytes limit true = refl
no_bytes limit false = refl

-- ---- a stream cut anywhere

-- what is taken is all of the first list and some of the second
take_past : (n : ℕ) (xs ys : List ℕ) → length xs ≤ n → take n (xs ++ ys) ≡ xs ++ take (n - length xs) ys
take_past n [] ys le = ap (λ (k : ℕ). take k ys) (omega arith)
take_past (suc n) (x ∷ xs) ys le =
    let less : n - length xs ≡ suc n - length (x ∷ xs) = omega arith in
    ap (λ (zs : List ℕ). x ∷ zs) (take_past n xs ys (omega arith) ∙ ap (λ (k : ℕ). xs ++ take k ys) less)
take_past zero (x ∷ xs) ys le = absurd (omega arith)

pub found_of_cut : (limit n : ℕ) (message : Message) (rest : List ℕ) → limit < 2 ^ 32 → IsSendable limit message
    → next_message limit (is_packet message) (take n (message_bytes message ++ rest)) ≡ front_of_cut n message
found_of_cut limit n Handshake rest small sendable = elim (cases_lt n (length handshake_bytes)) [
  | inl few ↦ rw (lt-leb (length handshake_bytes) n few) (short_handshake limit n rest few)
  | inr all ↦ rw (le-leb (length handshake_bytes) n all) (ap (λ (bytes : List ℕ). next_message limit false bytes) (take_past n handshake_bytes rest all) ∙ whole_handshake limit (take (n - length handshake_bytes) rest))
]
found_of_cut limit n (Packet h body) rest small p =
    let size : h.length ≡ length (packet_bytes h body) = p.length_counts_all ∙ sym (packet_length h body) in
    elim (cases_lt n (length (packet_bytes h body))) [
      | inl few ↦ rw (lt-leb (length (packet_bytes h body)) n few) (short_packet limit n h body rest small p (omega (arith, size)))
      | inr all ↦ rw (le-leb (length (packet_bytes h body)) n all)
          (ap (λ (bytes : List ℕ). next_message limit true bytes) (take_past n (packet_bytes h body) rest all) ∙ whole_packet limit h body (take (n - length (packet_bytes h body)) rest) small p
          ∙ ap (λ (k : ℕ). Whole (Packet h body) k) size)
    ]

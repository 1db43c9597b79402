-- What is found in bytes is what the relation says, and nothing else is.
use Rattle.std.proofs.Common.{◌≡◌, ℕ, zero, suc, ◌+◌, ◌<◌, ◌≤◌, Bool, true, false, List, [], ◌∷◌, ◌++◌, length, drop, map, refl, sym, ap, ◌∙◌, subst, arith, append_assoc, lit<}
use Rattle.std.specs.List.{AllByRecursion}
use Rattle.std.proofs.lemmas.List.{length-drop, get_or-drop, drop-drop, drop_at}
use Rattle.jdwp_wire.specs.declared.frame.NextHello.{NextHello}
use Rattle.jdwp_wire.specs.declared.frame.NextHello.TheVariants as hello
use Rattle.jdwp_wire.specs.declared.frame.TheConstants.{HANDSHAKE}
use Rattle.jdwp_wire.specs.declared.packet.Header.{Header}
use Rattle.jdwp_wire.specs.declared.packet.PacketKind.{PacketKind}
use Rattle.jdwp_wire.specs.declared.packet.PacketKind.TheVariants.{Command, Reply}
use Rattle.jdwp_wire.specs.Bytes.{IsBytes}
use Rattle.jdwp_wire.specs.Frames.{Front, front, packet_bytes, IsPacket}
use Rattle.jdwp_wire.specs.Frames as frames
use Rattle.jdwp_wire.specs.FrameLaws.{whole_is, front_found, front_again}
use Rattle.jdwp_wire.specs.Handshake.{HandshakeFrontOf, handshake_front}
use Rattle.jdwp_wire.specs.HandshakeLaws.{handshake_front_is, handshake_front_only}
use Rattle.jdwp_wire.specs.Limits.{standard_limits}
use Rattle.jdwp_wire.specs.Streams.{Message, Handshake, Packet, stream, IsConversation, IsPacketMessage, NextMessage, Whole, More, Fault, next_message, after_handshake, at_handshake}
use Rattle.jdwp_show.specs.Found.{Found, Sent, Faulty, found_at, found_after, found, is_handshaken, IsShown, AreIn}
use Rattle.jdwp_show.proofs.FoundLemmas.{found_step}

-- ---- after the handshake

record ArePackets (bytes : List ℕ) (things : List Found) : Type 0 where
  messages : List Message
  rest : List ℕ
  last : List Found
  bytes_are : bytes ≡ stream messages ++ rest
  packets : AllByRecursion (IsPacketMessage standard_limits.packet) messages
  last_shown : IsShown (next_message standard_limits.packet true rest) last
  things_are : things ≡ map Sent messages ++ last

one_more : (bytes : List ℕ) (h : Header) (body : List ℕ) (n : ℕ) (things : List Found) → IsPacket standard_limits.packet h body → bytes ≡ packet_bytes h body ++ drop n bytes → ArePackets (drop n bytes) things → ArePackets bytes (Sent (Packet h body) ∷ things)
one_more bytes h body n things packet split are = record {
  messages = Packet h body ∷ are.messages;
  rest = are.rest;
  last = are.last;
  bytes_are = split ∙ ap (λ (x : List ℕ). packet_bytes h body ++ x) are.bytes_are ∙ sym (append_assoc (packet_bytes h body) (stream are.messages) are.rest);
  packets = (packet, are.packets);
  last_shown = are.last_shown;
  things_are = ap (λ (x : List Found). Sent (Packet h body) ∷ x) are.things_are;
}

IsBytes-drop : (n : ℕ) (bytes : List ℕ) → IsBytes bytes → IsBytes (drop n bytes)
IsBytes-drop n bytes fits i = rw (get_or-drop n bytes i 0) (fits (n + i))

step_is : (bytes : List ℕ) (f : Front) → front standard_limits.packet bytes ≡ f → found_after true bytes ≡ found_at (after_handshake f) bytes (found_after true)
step_is bytes f e = found_step true bytes ∙ ap (λ (x : Front). found_at (after_handshake x) bytes (found_after true)) e

none_whole : (bytes : List ℕ) (f : Front) (last : List Found) → front standard_limits.packet bytes ≡ f → IsShown (after_handshake f) last → found_after true bytes ≡ last → ArePackets bytes (found_after true bytes)
none_whole bytes f last e shown is = record {
  messages = [];
  rest = bytes;
  last = last;
  bytes_are = refl;
  packets = tt;
  last_shown = rw e shown;
  things_are = is;
}

packets_by : (bytes : List ℕ) (f : Front) → front standard_limits.packet bytes ≡ f → IsBytes bytes → ((rest : List ℕ) → length rest < length bytes → IsBytes rest → ArePackets rest (found_after true rest)) → ArePackets bytes (found_after true bytes)
packets_by bytes (frames.Whole h body n) e fits later =
    let p = front_found standard_limits.packet bytes h body n fits e in
    let low = (whole_is standard_limits.packet bytes h body n e).low in
    let there = p.2 in
    let less : length (drop n bytes) < length bytes = omega (arith, length-drop n bytes) in
    subst (λ (x : List Found). ArePackets bytes x) (sym (step_is bytes (frames.Whole h body n) e)) (one_more bytes h body n (found_after true (drop n bytes)) p.0 p.3 (later (drop n bytes) less (IsBytes-drop n bytes fits)))
packets_by bytes frames.More e fits later = none_whole bytes frames.More [] e refl (step_is bytes frames.More e)
packets_by bytes (frames.Fault f) e fits later = none_whole bytes (frames.Fault f) (Faulty f ∷ []) e refl (step_is bytes (frames.Fault f) e)

packets_within : (n : ℕ) (bytes : List ℕ) → length bytes ≤ n → IsBytes bytes → ArePackets bytes (found_after true bytes)
packets_within zero bytes le fits = packets_by bytes (front standard_limits.packet bytes) refl fits (λ rest less _. absurd (omega arith))
packets_within (suc n) bytes le fits = packets_by bytes (front standard_limits.packet bytes) refl fits (λ rest less rest_fits. packets_within n rest (omega arith) rest_fits)

-- ---- from the start

begun : (bytes rest : List ℕ) → bytes ≡ HANDSHAKE ++ rest → ArePackets rest (found_after true rest) → AreIn bytes (Sent Handshake ∷ found_after true rest)
begun bytes rest split are = record {
  messages = Handshake ∷ are.messages;
  rest = are.rest;
  last = are.last;
  bytes_are = split ∙ ap (λ (x : List ℕ). HANDSHAKE ++ x) are.bytes_are;
  in_order = are.packets;
  last_shown = are.last_shown;
  things_are = ap (λ (x : List Found). Sent Handshake ∷ x) are.things_are;
}

not_begun : (bytes : List ℕ) (f : NextHello) (last : List Found) → handshake_front bytes ≡ f → IsShown (at_handshake f) last → found bytes ≡ last → AreIn bytes (found bytes)
not_begun bytes f last e shown is = record {
  messages = [];
  rest = bytes;
  last = last;
  bytes_are = refl;
  in_order = tt;
  last_shown = rw e shown;
  things_are = is;
}

start_is : (bytes : List ℕ) (f : NextHello) → handshake_front bytes ≡ f → found bytes ≡ found_at (at_handshake f) bytes (found_after true)
start_is bytes f e = found_step false bytes ∙ ap (λ (x : NextHello). found_at (at_handshake x) bytes (found_after true)) e

behind : (bytes rest : List ℕ) → bytes ≡ HANDSHAKE ++ rest → drop 14 bytes ≡ rest
behind bytes rest split = ap (λ (x : List ℕ). drop 14 x) split

found_by : (bytes : List ℕ) (f : NextHello) → handshake_front bytes ≡ f → HandshakeFrontOf bytes f → IsBytes bytes → AreIn bytes (found bytes)
found_by bytes hello.Whole e (rest, split) fits =
    let same = behind bytes rest split in
    let rest_fits : IsBytes rest = subst (λ (x : List ℕ). IsBytes x) same (IsBytes-drop 14 bytes fits) in
    let is : found bytes ≡ Sent Handshake ∷ found_after true rest = start_is bytes hello.Whole e ∙ ap (λ (x : List ℕ). Sent Handshake ∷ found_after true x) same in
    subst (λ (x : List Found). AreIn bytes x) (sym is) (begun bytes rest split (packets_within (length rest) rest (omega arith) rest_fits))
found_by bytes hello.More e h fits = not_begun bytes hello.More [] e refl (start_is bytes hello.More e)
found_by bytes (hello.Fault f) e h fits = not_begun bytes (hello.Fault f) (Faulty f ∷ []) e refl (start_is bytes (hello.Fault f) e)

-- what is found stands in the bytes
pub found_are_in : (bytes : List ℕ) → IsBytes bytes → AreIn bytes (found bytes)
found_are_in bytes fits = found_by bytes (handshake_front bytes) refl (handshake_front_is bytes) fits

-- ---- nothing else does

last_by : (m : NextMessage) (bytes : List ℕ) (last : List Found) → IsShown m last → found_at m bytes (found_after true) ≡ last
last_by (Whole message used) bytes last h = absurd h
last_by More bytes last h = sym h
last_by (Fault fault) bytes last h = sym h

shown_last : (handshaken : Bool) (bytes : List ℕ) (last : List Found) → IsShown (next_message standard_limits.packet handshaken bytes) last → found_after handshaken bytes ≡ last
shown_last handshaken bytes last h = found_step handshaken bytes ∙ last_by (next_message standard_limits.packet handshaken bytes) bytes last h

behind_kind : (n id : ℕ) (kind : PacketKind) (body rest : List ℕ) → drop (11 + length body) (packet_bytes (record { length = n; id = id; kind = kind }) body ++ rest) ≡ rest
behind_kind n id (Command set number) body rest =
    sym (drop-drop (length body) 11 (packet_bytes (record { length = n; id = id; kind = Command set number }) body ++ rest)) ∙ drop_at body rest (length body) refl
behind_kind n id (Reply error) body rest =
    sym (drop-drop (length body) 11 (packet_bytes (record { length = n; id = id; kind = Reply error }) body ++ rest)) ∙ drop_at body rest (length body) refl

behind_packet : (h : Header) (body rest : List ℕ) → IsPacket standard_limits.packet h body → drop h.length (packet_bytes h body ++ rest) ≡ rest
behind_packet h body rest packet = ap (λ (n : ℕ). drop n (packet_bytes h body ++ rest)) packet.length_counts_all ∙ behind_kind h.length h.id h.kind body rest

packets_only : (messages : List Message) (rest : List ℕ) (last : List Found) → AllByRecursion (IsPacketMessage standard_limits.packet) messages → IsShown (next_message standard_limits.packet true rest) last → found_after true (stream messages ++ rest) ≡ map Sent messages ++ last
packets_only [] rest last packets shown = shown_last true rest last shown
packets_only (Handshake ∷ messages) rest last packets shown = absurd packets.0
packets_only (Packet h body ∷ messages) rest last packets shown =
    let more = stream messages ++ rest in
    let e : stream (Packet h body ∷ messages) ++ rest ≡ packet_bytes h body ++ more = append_assoc (packet_bytes h body) (stream messages) rest in
    ap (λ (x : List ℕ). found_after true x) e
    ∙ step_is (packet_bytes h body ++ more) (frames.Whole h body h.length) (front_again standard_limits.packet h body more (lit< tt) packets.0)
    ∙ ap (λ (x : List ℕ). Sent (Packet h body) ∷ found_after true x) (behind_packet h body more packets.0)
    ∙ ap (λ (x : List Found). Sent (Packet h body) ∷ x) (packets_only messages rest last packets.1 shown)

are_only : (messages : List Message) (rest : List ℕ) (last : List Found) → IsConversation standard_limits.packet messages → IsShown (next_message standard_limits.packet (is_handshaken messages) rest) last → found (stream messages ++ rest) ≡ map Sent messages ++ last
are_only [] rest last order shown = shown_last false rest last shown
are_only (Packet h body ∷ messages) rest last order shown = absurd order
are_only (Handshake ∷ messages) rest last order shown =
    let more = stream messages ++ rest in
    let e : stream (Handshake ∷ messages) ++ rest ≡ HANDSHAKE ++ more = append_assoc HANDSHAKE (stream messages) rest in
    ap (λ (x : List ℕ). found x) e
    ∙ start_is (HANDSHAKE ++ more) hello.Whole (handshake_front_only (HANDSHAKE ++ more) hello.Whole (more, refl))
    ∙ ap (λ (x : List Found). Sent Handshake ∷ x) (packets_only messages rest last order shown)

-- what stands in the bytes is found
pub found_only : (bytes : List ℕ) (things : List Found) → AreIn bytes things → things ≡ found bytes
found_only bytes things are =
    are.things_are ∙ sym (are_only are.messages are.rest are.last are.in_order are.last_shown) ∙ ap (λ (x : List ℕ). found x) (sym are.bytes_are)

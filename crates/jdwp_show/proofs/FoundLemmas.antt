-- What stands in the bytes of an end, step by step, and that more bytes only add to it.
use Rattle.std.proofs.Common.{◌≡◌, ℕ, zero, suc, ◌+◌, ◌-◌, ◌<◌, ◌≤◌, Bool, true, false, cond, eqb, ltb, ◌||◌, ◌⊎◌, inl, inr, List, [], ◌∷◌, ◌++◌, length, take, drop, get_or, refl, sym, ap, ◌∙◌, arith, append_assoc, lit<}
use Rattle.std.proofs.lemmas.Bool.{ltb-false, le-ltb}
use Rattle.std.proofs.lemmas.List.{append-nil, take-append-le, drop-append-le, get_or_append_left, drop-drop, drop-take, length-append, length-drop, length-take, nil_from_length}
use Rattle.byteorder.specs.Endian.{big_number}
use Rattle.byteorder.specs.Numbers.{big_from-append}
use Rattle.jdwp_wire.specs.declared.frame.FrameFault.{FrameFault}
use Rattle.jdwp_wire.specs.declared.frame.FrameFault.TheVariants.{ShortLength, TooLong, BadFlags, BadHandshake}
use Rattle.jdwp_wire.specs.declared.frame.NextHello.{NextHello}
use Rattle.jdwp_wire.specs.declared.frame.NextHello.TheVariants as hello
use Rattle.jdwp_wire.specs.declared.frame.TheConstants.{HANDSHAKE}
use Rattle.jdwp_wire.specs.declared.packet.Header.{Header}
use Rattle.jdwp_wire.specs.Frames.{FrontOf, Front, front, packet_bytes, length_field, flags_field, header_of, whole_or_more, flagged, measured}
use Rattle.jdwp_wire.specs.Frames as frames
use Rattle.jdwp_wire.specs.FrameLaws.{front_only, whole_is}
use Rattle.jdwp_wire.specs.Handshake.{HandshakeFrontOf, handshake_front}
use Rattle.jdwp_wire.specs.HandshakeLaws.{handshake_front_is, handshake_front_only}
use Rattle.jdwp_wire.specs.Limits.{standard_limits}
use Rattle.jdwp_wire.specs.Streams.{Handshake, Packet, NextMessage, Whole, More, Fault, next_message, after_handshake, at_handshake}
use Rattle.jdwp_show.specs.Found.{Found, Sent, Faulty, found_at, found_within, found_after}

-- ---- a message that is whole is not empty, and is there

IsThere : List ℕ → NextMessage → Type 0
IsThere bytes (Whole m n) = (0 < n) × (n ≤ length bytes)
IsThere bytes More = Unit {0}
IsThere bytes (Fault f) = Unit {0}

there_front : (bytes : List ℕ) (f : Front) → front standard_limits.packet bytes ≡ f → IsThere bytes (after_handshake f)
unfolding IsThere
there_front bytes (frames.Whole h body n) e =
    let w = whole_is standard_limits.packet bytes h body n e in
    let low = w.low in
    let there = w.there in
    (omega arith, there)
there_front bytes frames.More e = tt
there_front bytes (frames.Fault f) e = tt

there_hello : (bytes : List ℕ) (f : NextHello) → HandshakeFrontOf bytes f → IsThere bytes (at_handshake f)
unfolding IsThere
there_hello bytes hello.Whole (rest, e) = (omega arith, rw e (omega (arith, length-append HANDSHAKE rest)))
there_hello bytes hello.More h = tt
there_hello bytes (hello.Fault f) h = tt

there : (handshaken : Bool) (bytes : List ℕ) → IsThere bytes (next_message standard_limits.packet handshaken bytes)
there true bytes = there_front bytes (front standard_limits.packet bytes) refl
there false bytes = there_hello bytes (handshake_front bytes) (handshake_front_is bytes)

nothing : (n : ℕ) (handshaken : Bool) → found_within n handshaken [] ≡ []
unfolding found_within
nothing zero handshaken = refl
nothing (suc n) true = refl
nothing (suc n) false = refl

-- ---- the number of steps does not matter, where it is enough

found_same : (bytes : List ℕ) (m : NextMessage) (f g : List ℕ → List Found) → ((rest : List ℕ) → length rest < length bytes → f rest ≡ g rest) → IsThere bytes m → found_at m bytes f ≡ found_at m bytes g
unfolding IsThere
found_same bytes (Whole m n) f g same (some, within) = ap (λ (x : List Found). Sent m ∷ x) (same (drop n bytes) (omega (arith, length-drop n bytes)))
found_same bytes More f g same h = refl
found_same bytes (Fault fault) f g same h = refl

enough : (n k : ℕ) (handshaken : Bool) (bytes : List ℕ) → length bytes ≤ n → length bytes ≤ k → found_within n handshaken bytes ≡ found_within k handshaken bytes
unfolding found_within
enough zero k handshaken bytes p q =
    let e : bytes ≡ [] = nil_from_length bytes (omega arith) in
    rw e (sym (nothing k handshaken))
enough (suc n) zero handshaken bytes p q =
    let e : bytes ≡ [] = nil_from_length bytes (omega arith) in
    rw e (nothing (suc n) handshaken)
enough (suc n) (suc k) handshaken bytes p q =
    found_same bytes (next_message standard_limits.packet handshaken bytes) (found_within n true) (found_within k true) (λ rest less. enough n k true rest (omega arith) (omega arith)) (there handshaken bytes)

-- one step
pub found_step : (handshaken : Bool) (bytes : List ℕ) → found_after handshaken bytes ≡ found_at (next_message standard_limits.packet handshaken bytes) bytes (found_after true)
unfolding found_after found_within
found_step handshaken bytes =
    enough (length bytes) (suc (length bytes)) handshaken bytes (omega arith) (omega arith)
    ∙ found_same bytes (next_message standard_limits.packet handshaken bytes) (found_within (length bytes) true) (found_after true) (λ rest less. enough (length bytes) (length rest) true rest (omega arith) (omega arith)) (there handshaken bytes)

-- ---- what is there stays there when more bytes come

abbrev IsSettled : Front → Type 0
IsSettled frames.More = ⊥
IsSettled (frames.Whole h body n) = Unit {0}
IsSettled (frames.Fault f) = Unit {0}

length_stays : (bytes more : List ℕ) → 4 ≤ length bytes → length_field (bytes ++ more) ≡ length_field bytes
length_stays bytes more le = big_from-append 4 bytes more le

flags_stay : (bytes more : List ℕ) → 9 ≤ length bytes → flags_field (bytes ++ more) ≡ flags_field bytes
flags_stay bytes more le = get_or_append_left bytes more 0 8 (omega arith)

front_stays : (bytes more : List ℕ) (f : Front) → IsSettled f → FrontOf standard_limits.packet bytes f → FrontOf standard_limits.packet (bytes ++ more) f
front_stays bytes more (frames.Whole h body n) s (packet, size, (rest, e)) = (packet, size, (rest ++ more, ap (λ (x : List ℕ). x ++ more) e ∙ append_assoc (packet_bytes h body) rest more))
front_stays bytes more frames.More s h = absurd s
front_stays bytes more (frames.Fault ShortLength) s (le, low) = (omega (arith, length-append bytes more), rw (length_stays bytes more le) low)
front_stays bytes more (frames.Fault TooLong) s (le, low, high) = (omega (arith, length-append bytes more), rw (length_stays bytes more le) low, rw (length_stays bytes more le) high)
front_stays bytes more (frames.Fault BadFlags) s (le, (low, high), p, q) = (
  omega (arith, length-append bytes more),
  (rw (length_stays bytes more (omega arith)) low, rw (length_stays bytes more (omega arith)) high),
  rw (flags_stay bytes more le) p,
  rw (flags_stay bytes more le) q,
)
front_stays bytes more (frames.Fault (BadHandshake place)) s h = absurd h

abbrev IsSettledHello : NextHello → Type 0
IsSettledHello hello.More = ⊥
IsSettledHello hello.Whole = Unit {0}
IsSettledHello (hello.Fault f) = Unit {0}

hello_stays : (bytes more : List ℕ) (f : NextHello) → IsSettledHello f → HandshakeFrontOf bytes f → HandshakeFrontOf (bytes ++ more) f
hello_stays bytes more hello.Whole s (rest, e) = (rest ++ more, ap (λ (x : List ℕ). x ++ more) e ∙ append_assoc HANDSHAKE rest more)
hello_stays bytes more hello.More s h = absurd s
hello_stays bytes more (hello.Fault (BadHandshake place)) s (low, high, same, other) = (
  omega (arith, length-append bytes more),
  high,
  take-append-le place bytes more (omega arith) ∙ same,
  (let e = get_or_append_left bytes more 0 place low in rw e other),
)
hello_stays bytes more (hello.Fault ShortLength) s h = absurd h
hello_stays bytes more (hello.Fault TooLong) s h = absurd h
hello_stays bytes more (hello.Fault BadFlags) s h = absurd h

at_front : (bytes : List ℕ) (f : Front) → FrontOf standard_limits.packet bytes f → found_after true bytes ≡ found_at (after_handshake f) bytes (found_after true)
at_front bytes f h = found_step true bytes ∙ ap (λ (x : Front). found_at (after_handshake x) bytes (found_after true)) (front_only standard_limits.packet bytes f (lit< tt) h)

at_hello : (bytes : List ℕ) (f : NextHello) → HandshakeFrontOf bytes f → found_after false bytes ≡ found_at (at_handshake f) bytes (found_after true)
at_hello bytes f h = found_step false bytes ∙ ap (λ (x : NextHello). found_at (at_handshake x) bytes (found_after true)) (handshake_front_only bytes f h)

-- ---- the five cases of a step

pub more_packets : (bytes : List ℕ) → FrontOf standard_limits.packet bytes frames.More → found_after true (bytes ++ []) ≡ []
more_packets bytes h = ap (λ (x : List ℕ). found_after true x) (append-nil bytes) ∙ at_front bytes frames.More h

pub more_handshake : (bytes : List ℕ) → HandshakeFrontOf bytes hello.More → found_after false (bytes ++ []) ≡ []
more_handshake bytes h = ap (λ (x : List ℕ). found_after false x) (append-nil bytes) ∙ at_hello bytes hello.More h

pub faulty_packets : (bytes more : List ℕ) (f : FrameFault) → FrontOf standard_limits.packet bytes (frames.Fault f) → found_after true (bytes ++ more) ≡ Faulty f ∷ []
faulty_packets bytes more f h = at_front (bytes ++ more) (frames.Fault f) (front_stays bytes more (frames.Fault f) tt h)

pub faulty_handshake : (bytes more : List ℕ) (f : FrameFault) → HandshakeFrontOf bytes (hello.Fault f) → found_after false (bytes ++ more) ≡ Faulty f ∷ []
faulty_handshake bytes more f h = at_hello (bytes ++ more) (hello.Fault f) (hello_stays bytes more (hello.Fault f) tt h)

-- the bytes that are left, without the first of them
left_less : (bytes : List ℕ) (taken come used : ℕ) → taken + used ≤ come → drop used (take (come - taken) (drop taken bytes)) ≡ take (come - (taken + used)) (drop (taken + used) bytes)
left_less bytes taken come used le =
    let e : come - taken ≡ used + (come - (taken + used)) = omega arith in
    ap (λ (n : ℕ). drop used (take n (drop taken bytes))) e ∙ drop-take used (come - (taken + used)) (drop taken bytes) ∙ ap (λ (x : List ℕ). take (come - (taken + used)) x) (drop-drop used taken bytes)

pub whole_packet : (bytes more : List ℕ) (taken come used : ℕ) (h : Header) (body : List ℕ) → taken + used ≤ come → come ≤ length bytes → FrontOf standard_limits.packet (take (come - taken) (drop taken bytes)) (frames.Whole h body used)
    → found_after true (take (come - taken) (drop taken bytes) ++ more) ≡ Sent (Packet h body) ∷ found_after true (take (come - (taken + used)) (drop (taken + used) bytes) ++ more)
whole_packet bytes more taken come used h body le within front =
    let left = take (come - taken) (drop taken bytes) in
    let le2 : used ≤ length left = omega (arith, length-take (come - taken) (drop taken bytes), length-drop taken bytes) in
    at_front (left ++ more) (frames.Whole h body used) (front_stays left more (frames.Whole h body used) tt front)
    ∙ ap (λ (x : List ℕ). Sent (Packet h body) ∷ found_after true x) (drop-append-le used left more le2 ∙ ap (λ (x : List ℕ). x ++ more) (left_less bytes taken come used le))

pub whole_handshake : (bytes more : List ℕ) (taken come : ℕ) → taken + 14 ≤ come → come ≤ length bytes → HandshakeFrontOf (take (come - taken) (drop taken bytes)) hello.Whole
    → found_after false (take (come - taken) (drop taken bytes) ++ more) ≡ Sent Handshake ∷ found_after true (take (come - (taken + 14)) (drop (taken + 14) bytes) ++ more)
whole_handshake bytes more taken come le within front =
    let left = take (come - taken) (drop taken bytes) in
    let le2 : 14 ≤ length left = omega (arith, length-take (come - taken) (drop taken bytes), length-drop taken bytes) in
    at_hello (left ++ more) hello.Whole (hello_stays left more hello.Whole tt front)
    ∙ ap (λ (x : List ℕ). Sent Handshake ∷ found_after true x) (drop-append-le 14 left more le2 ∙ ap (λ (x : List ℕ). x ++ more) (left_less bytes taken come 14 le))

-- how many bytes a whole message takes
pub hello_length : (bytes : List ℕ) → HandshakeFrontOf bytes hello.Whole → 14 ≤ length bytes
hello_length bytes (rest, e) = rw e (omega (arith, length-append HANDSHAKE rest))

pub packet_length : (bytes : List ℕ) (h : Header) (body : List ℕ) (used : ℕ) → FrontOf standard_limits.packet bytes (frames.Whole h body used) → (0 < used) × (used ≤ length bytes) × (used ≡ 11 + length body)
packet_length bytes h body used f =
    let w = whole_is standard_limits.packet bytes h body used (front_only standard_limits.packet bytes (frames.Whole h body used) (lit< tt) f) in
    let low = w.low in
    let there = w.there in
    (omega arith, there, omega (arith, ap (λ (x : List ℕ). length x) w.body-is, length-take (used - 11) (drop 11 bytes), length-drop 11 bytes))

-- ---- what is found stays found when more bytes come

-- More are called for, or what is there stays as it is.
abbrev Stays : (List ℕ → Front) → List ℕ → List ℕ → Type 0
Stays read bytes more = (read bytes ≡ frames.More) ⊎ (read (bytes ++ more) ≡ read bytes)

long_stays : (n : ℕ) (bytes more : List ℕ) → ltb (length bytes) n ≡ false → ltb (length (bytes ++ more)) n ≡ false
long_stays n bytes more e =
    let there : n ≤ length bytes = ltb-false _ _ e in
    le-ltb _ _ (omega (arith, length-append bytes more))

number_stays : (width n : ℕ) (bytes more : List ℕ) → n + width ≤ length bytes → big_number width (drop n (bytes ++ more)) ≡ big_number width (drop n bytes)
number_stays width n bytes more le =
    ap (λ (x : List ℕ). big_number width x) (drop-append-le n bytes more (omega arith)) ∙ big_from-append width (drop n bytes) more (omega (arith, length-drop n bytes))

header_stays : (n : ℕ) (bytes more : List ℕ) → 11 ≤ length bytes → header_of n (bytes ++ more) ≡ header_of n bytes
header_stays n bytes more le =
    let id : big_number 4 (drop 4 (bytes ++ more)) ≡ big_number 4 (drop 4 bytes) = number_stays 4 4 bytes more (omega arith) in
    let error : big_number 2 (drop 9 (bytes ++ more)) ≡ big_number 2 (drop 9 bytes) = number_stays 2 9 bytes more (omega arith) in
    let flags : get_or (bytes ++ more) 8 0 ≡ get_or bytes 8 0 = get_or_append_left bytes more 0 8 (omega arith) in
    let set : get_or (bytes ++ more) 9 0 ≡ get_or bytes 9 0 = get_or_append_left bytes more 0 9 (omega arith) in
    let number : get_or (bytes ++ more) 10 0 ≡ get_or bytes 10 0 = get_or_append_left bytes more 0 10 (omega arith) in
    rw (id, error, flags, set, number) refl

whole_stays : (n : ℕ) (bytes more : List ℕ) → 11 ≤ n → (short : Bool) → ltb (length bytes) n ≡ short → Stays (whole_or_more n) bytes more
whole_stays n bytes more low true e = inl (rw e refl)
whole_stays n bytes more low false e =
    let there : n ≤ length bytes = ltb-false _ _ e in
    let header : header_of n (bytes ++ more) ≡ header_of n bytes = header_stays n bytes more (omega arith) in
    let body : take (n - 11) (drop 11 (bytes ++ more)) ≡ take (n - 11) (drop 11 bytes) =
    ap (λ (x : List ℕ). take (n - 11) x) (drop-append-le 11 bytes more (omega arith)) ∙ take-append-le (n - 11) (drop 11 bytes) more (omega (arith, length-drop 11 bytes)) in
    inr (rw (e, long_stays n bytes more e, header, body) refl)

abbrev are_flags : ℕ → Bool
are_flags flags = eqb flags 0 || eqb flags 128

flagged_stays : (n : ℕ) (bytes more : List ℕ) → 11 ≤ n → (short good : Bool) → ltb (length bytes) 9 ≡ short → are_flags (flags_field bytes) ≡ good → Stays (flagged n) bytes more
flagged_stays n bytes more low true good e f = inl (rw e refl)
flagged_stays n bytes more low false false e f =
    let there : 9 ≤ length bytes = ltb-false _ _ e in
    let g : are_flags (flags_field (bytes ++ more)) ≡ false = ap are_flags (flags_stay bytes more there) ∙ f in
    inr (rw (e, long_stays 9 bytes more e, f, g) refl)
flagged_stays n bytes more low false true e f =
    let there : 9 ≤ length bytes = ltb-false _ _ e in
    let g : are_flags (flags_field (bytes ++ more)) ≡ true = ap are_flags (flags_stay bytes more there) ∙ f in
    elim (whole_stays n bytes more low (ltb (length bytes) n) refl) [
      | inl h ↦ inl (rw (e, f) h)
      | inr h ↦ inr (rw (e, long_stays 9 bytes more e, f, g) h)
    ]

measured_stays : (n : ℕ) (bytes more : List ℕ) (low high : Bool) → ltb n 11 ≡ low → ltb standard_limits.packet n ≡ high → Stays (measured standard_limits.packet n) bytes more
measured_stays n bytes more true high e f = inr (rw e refl)
measured_stays n bytes more false true e f = inr (rw (e, f) refl)
measured_stays n bytes more false false e f =
    elim (flagged_stays n bytes more (ltb-false _ _ e) (ltb (length bytes) 9) (are_flags (flags_field bytes)) refl refl) [
      | inl h ↦ inl (rw (e, f) h)
      | inr h ↦ inr (rw (e, f) h)
    ]

packet_stays : (bytes more : List ℕ) (short : Bool) → ltb (length bytes) 4 ≡ short → Stays (front standard_limits.packet) bytes more
packet_stays bytes more true e = inl (rw e refl)
packet_stays bytes more false e =
    let there : 4 ≤ length bytes = ltb-false _ _ e in
    let n = length_field bytes in
    let now : front standard_limits.packet bytes ≡ measured standard_limits.packet n bytes = rw e refl in
    let then : front standard_limits.packet (bytes ++ more) ≡ measured standard_limits.packet n (bytes ++ more) =
    ap (λ (b : Bool). cond b frames.More (measured standard_limits.packet (length_field (bytes ++ more)) (bytes ++ more))) (long_stays 4 bytes more e)
    ∙ ap (λ (k : ℕ). measured standard_limits.packet k (bytes ++ more)) (length_stays bytes more there) in
    elim (measured_stays n bytes more (ltb n 11) (ltb standard_limits.packet n) refl refl) [
      | inl h ↦ inl (now ∙ h)
      | inr h ↦ inr (then ∙ h ∙ sym now)
    ]

handshake_stays : (bytes more : List ℕ) (f : NextHello) → HandshakeFrontOf bytes f → (f ≡ hello.More) ⊎ (handshake_front (bytes ++ more) ≡ f)
handshake_stays bytes more hello.More h = inl refl
handshake_stays bytes more hello.Whole h = inr (handshake_front_only (bytes ++ more) hello.Whole (hello_stays bytes more hello.Whole tt h))
handshake_stays bytes more (hello.Fault f) h = inr (handshake_front_only (bytes ++ more) (hello.Fault f) (hello_stays bytes more (hello.Fault f) tt h))

next_stays : (handshaken : Bool) (bytes more : List ℕ) → (next_message standard_limits.packet handshaken bytes ≡ More) ⊎ (next_message standard_limits.packet handshaken (bytes ++ more) ≡ next_message standard_limits.packet handshaken bytes)
next_stays true bytes more = elim (packet_stays bytes more (ltb (length bytes) 4) refl) [
  | inl h ↦ inl (ap after_handshake h)
  | inr h ↦ inr (ap after_handshake h)
]
next_stays false bytes more = elim (handshake_stays bytes more (handshake_front bytes) (handshake_front_is bytes)) [
  | inl h ↦ inl (ap at_handshake h)
  | inr h ↦ inr (ap at_handshake h)
]

-- what is found in the bytes with more behind them is what is found in them, and then this
abbrev Grows : Bool → List ℕ → List ℕ → Type 0
Grows handshaken bytes more = (things : List Found) × (found_after handshaken (bytes ++ more) ≡ found_after handshaken bytes ++ things)

grows_more : (handshaken : Bool) (bytes more : List ℕ) → next_message standard_limits.packet handshaken bytes ≡ More → Grows handshaken bytes more
grows_more handshaken bytes more e =
    (found_after handshaken (bytes ++ more), ap (λ (x : List Found). x ++ found_after handshaken (bytes ++ more)) (sym (found_step handshaken bytes ∙ ap (λ (x : NextMessage). found_at x bytes (found_after true)) e)))

grows_at : (handshaken : Bool) (bytes more : List ℕ) (m : NextMessage) → next_message standard_limits.packet handshaken bytes ≡ m → next_message standard_limits.packet handshaken (bytes ++ more) ≡ m → IsThere bytes m
    → ((rest : List ℕ) → length rest < length bytes → Grows true rest more) → Grows handshaken bytes more
unfolding IsThere
grows_at handshaken bytes more (Whole m used) e f (some, within) later =
    let t = later (drop used bytes) (omega (arith, length-drop used bytes)) in
    let now : found_after handshaken bytes ≡ Sent m ∷ found_after true (drop used bytes) = found_step handshaken bytes ∙ ap (λ (x : NextMessage). found_at x bytes (found_after true)) e in
    let then : found_after handshaken (bytes ++ more) ≡ Sent m ∷ found_after true (drop used bytes ++ more) =
    found_step handshaken (bytes ++ more) ∙ ap (λ (x : NextMessage). found_at x (bytes ++ more) (found_after true)) f
    ∙ ap (λ (x : List ℕ). Sent m ∷ found_after true x) (drop-append-le used bytes more within) in
    (t.0, then ∙ ap (λ (x : List Found). Sent m ∷ x) t.1 ∙ ap (λ (x : List Found). x ++ t.0) (sym now))
grows_at handshaken bytes more More e f h later = grows_more handshaken bytes more e
grows_at handshaken bytes more (Fault fault) e f h later =
    let now : found_after handshaken bytes ≡ Faulty fault ∷ [] = found_step handshaken bytes ∙ ap (λ (x : NextMessage). found_at x bytes (found_after true)) e in
    let then : found_after handshaken (bytes ++ more) ≡ Faulty fault ∷ [] = found_step handshaken (bytes ++ more) ∙ ap (λ (x : NextMessage). found_at x (bytes ++ more) (found_after true)) f in
    ([], then ∙ ap (λ (x : List Found). x ++ []) (sym now))

grows_step : (handshaken : Bool) (bytes more : List ℕ) → ((rest : List ℕ) → length rest < length bytes → Grows true rest more) → Grows handshaken bytes more
grows_step handshaken bytes more later = elim (next_stays handshaken bytes more) [
  | inl e ↦ grows_more handshaken bytes more e
  | inr e ↦ grows_at handshaken bytes more (next_message standard_limits.packet handshaken bytes) refl e (there handshaken bytes) later
]

grows_within : (n : ℕ) (handshaken : Bool) (bytes more : List ℕ) → length bytes ≤ n → Grows handshaken bytes more
grows_within zero handshaken bytes more le = grows_step handshaken bytes more (λ rest less. absurd (omega arith))
grows_within (suc n) handshaken bytes more le = grows_step handshaken bytes more (λ rest less. grows_within n true rest more (omega arith))

-- more bytes only add to what is found
pub found_grows : (handshaken : Bool) (bytes more : List ℕ) → Grows handshaken bytes more
found_grows handshaken bytes more = grows_within (length bytes) handshaken bytes more (omega arith)

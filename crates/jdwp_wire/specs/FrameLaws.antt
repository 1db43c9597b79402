-- The function and the relation agree on the packet at the front.
use Rattle.std.specs.Prelude.{◌≡◌, ◌≢◌, ℕ, ◌+◌, ◌-◌, ◌^◌, ◌≤◌, ◌<◌, List, [], ◌∷◌, ◌++◌, length, take, drop, get_or, slice_index, ◌||◌, Bool, true, false, cond, refl, ◌⊎◌}
use Rattle.std.proofs.Common.{ap, sym, ◌∙◌, arith, ltb, eqb, inl, inr, append_assoc}
use Rattle.std.proofs.lemmas.Bool.{ltb-false, lt-ltb, le-ltb, eqb-true, eq-eqb, cases_Bool, cases_lt}
use Rattle.std.proofs.lemmas.List.{take_at, take-append-drop, drop-drop, drop_more, get_or-drop, length-append, length-take, length-drop}
use Rattle.byteorder.specs.Endian.{big_number, big_bytes}
use Rattle.byteorder.specs.Numbers.{big_number-reads_back, big_from-lt}
use Rattle.jdwp_wire.specs.declared.frame.FrameFault.{FrameFault}
use Rattle.jdwp_wire.specs.declared.frame.FrameFault.TheVariants.{ShortLength, TooLong, BadFlags, BadHandshake}
use Rattle.jdwp_wire.specs.declared.packet.Header.{Header}
use Rattle.jdwp_wire.specs.declared.packet.PacketKind.{PacketKind}
use Rattle.jdwp_wire.specs.declared.packet.PacketKind.TheVariants.{Command, Reply}
use Rattle.jdwp_wire.specs.Bytes.{IsBytes}
use Rattle.jdwp_wire.specs.BigEndian.{bytes_again}
use Rattle.jdwp_wire.specs.Frames.{packet_bytes, kind_bytes, KindFits, IsPacket, Front, Whole, More, Fault, FrontOf, IsLength, IsFlags, length_field, flags_field, kind_of, header_of, whole_or_more, flagged, measured, front}

-- ---- what the front says where it is whole

pub record IsWhole (limit : ℕ) (bytes : List ℕ) (header : Header) (body : List ℕ) (n : ℕ) : Type 0 where
  pub n-is : n ≡ big_number 4 bytes
  pub low : 11 ≤ n
  pub high : n ≤ limit
  pub there : n ≤ length bytes
  pub flags : (slice_index bytes 8 ≡ 0) ⊎ (slice_index bytes 8 ≡ 128)
  pub header-is : header ≡ header_of n bytes
  pub body-is : body ≡ take (n - 11) (drop 11 bytes)

-- a test on the way to a whole packet
passed : (b : Bool) (x y : Front) (h : Header) (body : List ℕ) (n : ℕ) → (x ≡ Whole h body n → ⊥) → cond b x y ≡ Whole h body n → (b ≡ false) × (y ≡ Whole h body n)
passed true x y h body n bad e = absurd (bad e)
passed false x y h body n bad e = (refl, e)

flag_cases : (a b : ℕ) → (eqb a b || eqb a 128) ≡ true → (a ≡ b) ⊎ (a ≡ 128)
flag_cases a b e = elim (cases_Bool (eqb a b)) [
  | inl t ↦ inl (eqb-true a b t)
  | inr f ↦ inr (eqb-true a 128 (rw f at e))
]

chosen : (b : Bool) (x : Front) (f : FrameFault) (h : Header) (body : List ℕ) (n : ℕ) → cond b x (Fault f) ≡ Whole h body n → (b ≡ true) × (x ≡ Whole h body n)
chosen true x f h body n e = (refl, e)
chosen false x f h body n e = absurd cc

pub whole_is : (limit : ℕ) (bytes : List ℕ) (h : Header) (body : List ℕ) (n : ℕ) → front limit bytes ≡ Whole h body n → IsWhole limit bytes h body n
whole_is limit bytes h body n e =
    let m = big_number 4 bytes in
    let a = passed (ltb (length bytes) 4) More (measured limit m bytes) h body n (λ f. cc) e in
    let b = passed (ltb m 11) (Fault ShortLength) (cond (ltb limit m) (Fault TooLong) (flagged m bytes)) h body n (λ f. cc) a.1 in
    let c = passed (ltb limit m) (Fault TooLong) (flagged m bytes) h body n (λ f. cc) b.1 in
    let d = passed (ltb (length bytes) 9) More (cond (eqb (slice_index bytes 8) 0 || eqb (slice_index bytes 8) 128) (whole_or_more m bytes) (Fault BadFlags)) h body n (λ f. cc) c.1 in
    let g = chosen (eqb (slice_index bytes 8) 0 || eqb (slice_index bytes 8) 128) (whole_or_more m bytes) BadFlags h body n d.1 in
    let i = passed (ltb (length bytes) m) More (Whole (header_of m bytes) (take (m - 11) (drop 11 bytes)) m) h body n (λ f. cc) g.1 in
    let n-eq : m ≡ n = cc in
    let h-eq : header_of m bytes ≡ h = cc in
    let b-eq : take (m - 11) (drop 11 bytes) ≡ body = cc in
    record {
      n-is = sym n-eq;
      low = rw (← n-eq) (ltb-false m 11 b.0);
      high = rw (← n-eq) (ltb-false limit m c.0);
      there = rw (← n-eq) (ltb-false (length bytes) m i.0);
      flags = flag_cases (slice_index bytes 8) 0 g.0;
      header-is = sym h-eq ∙ ap (λ (k : ℕ). header_of k bytes) n-eq;
      body-is = sym b-eq ∙ ap (λ (k : ℕ). take (k - 11) (drop 11 bytes)) n-eq;
    }

flags_pass : (a : ℕ) → (a ≡ 0) ⊎ (a ≡ 128) → (eqb a 0 || eqb a 128) ≡ true
flags_pass a (inl e) = rw e refl
flags_pass a (inr e) = rw e refl

pub whole_front : (limit : ℕ) (bytes : List ℕ) (h : Header) (body : List ℕ) (n : ℕ) → IsWhole limit bytes h body n → front limit bytes ≡ Whole h body n
whole_front limit bytes h body n w =
    let low = w.low in
    let there = w.there in
    let e4 : ltb (length bytes) 4 ≡ false = le-ltb _ _ (omega arith) in
    let e9 : ltb (length bytes) 9 ≡ false = le-ltb _ _ (omega arith) in
    let a : ltb n 11 ≡ false = le-ltb _ _ w.low in
    let b : ltb limit n ≡ false = le-ltb _ _ w.high in
    let d : ltb (length bytes) n ≡ false = le-ltb _ _ w.there in
    rw (e4, ← w.n-is, a, b, e9, flags_pass (slice_index bytes 8) w.flags, d, w.header-is, w.body-is) refl

IsBytes-drop : (n : ℕ) (bytes : List ℕ) → IsBytes bytes → IsBytes (drop n bytes)
IsBytes-drop n bytes fits i = rw (get_or-drop n bytes i 0) (fits (n + i))

three : (xs : List ℕ) → 3 ≤ length xs → take 3 xs ≡ get_or xs 0 0 ∷ get_or xs 1 0 ∷ get_or xs 2 0 ∷ []
three [] le = absurd (omega arith)
three (a ∷ []) le = absurd (omega arith)
three (a ∷ b ∷ []) le = absurd (omega arith)
three (a ∷ b ∷ c ∷ xs) le = refl

-- the bytes behind the id are those of the kind
kind_is : (bytes : List ℕ) → IsBytes bytes → 11 ≤ length bytes → IsFlags (flags_field bytes) → kind_bytes (kind_of bytes) ≡ take 3 (drop 8 bytes)
kind_is bytes fits le (inl zero-is) =
    let t = three (drop 8 bytes) (omega (arith, length-drop 8 bytes)) in
    let g0 = get_or-drop 8 bytes 0 0 in
    let g1 = get_or-drop 8 bytes 1 0 in
    let g2 = get_or-drop 8 bytes 2 0 in
    rw (t, g0, g1, g2, zero-is) refl
kind_is bytes fits le (inr reply-is) =
    let t = three (drop 8 bytes) (omega (arith, length-drop 8 bytes)) in
    let g0 = get_or-drop 8 bytes 0 0 in
    let two : big_bytes 2 (big_number 2 (drop 9 bytes)) ≡ take 2 (drop 9 bytes) = bytes_again 2 (drop 9 bytes) (IsBytes-drop 9 bytes fits) (omega (arith, length-drop 9 bytes)) in
    let cut : take 3 (drop 8 bytes) ≡ get_or bytes 8 0 ∷ take 2 (drop 9 bytes) = ap (λ (x : List ℕ). take 3 x) (drop_more bytes 8 0 (omega arith)) in
    rw (cut, reply-is, two) refl

kind_fits : (bytes : List ℕ) → IsBytes bytes → KindFits (kind_of bytes)
kind_fits bytes fits =
    let error = big_from-lt 0 2 (drop 9 bytes) (IsBytes-drop 9 bytes fits) in
    elim (cases_Bool (eqb (slice_index bytes 8) 0)) [
      | inl e ↦ rw e (fits 9, fits 10)
      | inr e ↦ rw e error
    ]

four : (a b c d r x3 x2 x1 x0 : List ℕ) → d ++ r ≡ x3 → c ++ x3 ≡ x2 → b ++ x2 ≡ x1 → a ++ x1 ≡ x0 → (a ++ (b ++ (c ++ d))) ++ r ≡ x0
four a b c d r x3 x2 x1 x0 e3 e2 e1 e0 =
    append_assoc a (b ++ (c ++ d)) r ∙ ap (λ (x : List ℕ). a ++ x) (append_assoc b (c ++ d) r ∙ ap (λ (x : List ℕ). b ++ x) (append_assoc c d r ∙ ap (λ (x : List ℕ). c ++ x) e3 ∙ e2) ∙ e1) ∙ e0

same_four : (a b c d r p q s t : List ℕ) → a ≡ p → b ≡ q → c ≡ s → d ≡ t → (a ++ (b ++ (c ++ d))) ++ r ≡ (p ++ (q ++ (s ++ t))) ++ r
same_four a b c d r p q s t e0 e1 e2 e3 = rw (e0, e1, e2, e3) refl

three_parts : (a b c d : List ℕ) → (a ++ (b ++ c)) ++ d ≡ a ++ (b ++ (c ++ d))
three_parts a b c d = append_assoc a (b ++ c) d ∙ ap (λ (x : List ℕ). a ++ x) (append_assoc b c d)

-- what the function finds whole is a packet, and the bytes begin with it
pub front_found : (limit : ℕ) (bytes : List ℕ) (h : Header) (body : List ℕ) (n : ℕ) → IsBytes bytes → front limit bytes ≡ Whole h body n
    → IsPacket limit h body × (n ≡ h.length) × (n ≤ length bytes) × (bytes ≡ packet_bytes h body ++ drop n bytes)
front_found limit bytes h body n fits e =
    let w = whole_is limit bytes h body n e in
    let low = w.low in
    let high = w.high in
    let there = w.there in
    let len : length body ≡ n - 11 = ap (λ (x : List ℕ). length x) w.body-is ∙ omega (arith, length-take (n - 11) (drop 11 bytes), length-drop 11 bytes) in
    let size : h.length ≡ n = ap (λ (x : Header). x.length) w.header-is in
    let id : h.id ≡ big_number 4 (drop 4 bytes) = ap (λ (x : Header). x.id) w.header-is in
    let kind : h.kind ≡ kind_of bytes = ap (λ (x : Header). x.kind) w.header-is in
    let p1 : big_bytes 4 h.length ≡ take 4 bytes = ap (λ (k : ℕ). big_bytes 4 k) (size ∙ w.n-is) ∙ bytes_again 4 bytes fits (omega arith) in
    let p2 : big_bytes 4 h.id ≡ take 4 (drop 4 bytes) = ap (λ (k : ℕ). big_bytes 4 k) id ∙ bytes_again 4 (drop 4 bytes) (IsBytes-drop 4 bytes fits) (omega (arith, length-drop 4 bytes)) in
    let p3 : kind_bytes h.kind ≡ take 3 (drop 8 bytes) = ap (λ (x : PacketKind). kind_bytes x) kind ∙ kind_is bytes fits (omega arith) w.flags in
    let s2 : take 4 (drop 4 bytes) ++ drop 8 bytes ≡ drop 4 bytes = ap (λ (x : List ℕ). take 4 (drop 4 bytes) ++ x) (sym (drop-drop 4 4 bytes)) ∙ take-append-drop 4 (drop 4 bytes) in
    let s3 : take 3 (drop 8 bytes) ++ drop 11 bytes ≡ drop 8 bytes = ap (λ (x : List ℕ). take 3 (drop 8 bytes) ++ x) (sym (drop-drop 3 8 bytes)) ∙ take-append-drop 3 (drop 8 bytes) in
    let k : 11 + (n - 11) ≡ n = omega arith in
    let s4 : take (n - 11) (drop 11 bytes) ++ drop n bytes ≡ drop 11 bytes =
    ap (λ (x : List ℕ). take (n - 11) (drop 11 bytes) ++ x) (ap (λ (m : ℕ). drop m bytes) (sym k) ∙ sym (drop-drop (n - 11) 11 bytes)) ∙ take-append-drop (n - 11) (drop 11 bytes) in
    let parts = same_four (big_bytes 4 h.length) (big_bytes 4 h.id) (kind_bytes h.kind) body (drop n bytes) (take 4 bytes) (take 4 (drop 4 bytes)) (take 3 (drop 8 bytes)) (take (n - 11) (drop 11 bytes)) p1 p2 p3 w.body-is in
    let joined = four (take 4 bytes) (take 4 (drop 4 bytes)) (take 3 (drop 8 bytes)) (take (n - 11) (drop 11 bytes)) (drop n bytes) (drop 11 bytes) (drop 8 bytes) (drop 4 bytes) bytes s4 s3 s2 (take-append-drop 4 bytes) in (
      record {
        length_counts_all = omega arith;
        within_limit = omega arith;
        id_fits = rw id (big_from-lt 0 4 (drop 4 bytes) (IsBytes-drop 4 bytes fits));
        kind_fits = rw kind (kind_fits bytes fits);
      },
      sym size,
      there,
      sym (ap (λ (x : List ℕ). x ++ drop n bytes) (three_parts (big_bytes 4 h.length) (big_bytes 4 h.id) (kind_bytes h.kind) body) ∙ parts ∙ joined),
    )

-- a packet by its parts is found, whatever follows it
again_by : (limit n id : ℕ) (kind : PacketKind) (body rest : List ℕ) → n ≡ 11 + length body → n ≤ limit → limit < 2 ^ 32 → id < 2 ^ 32 → KindFits kind
    → front limit (packet_bytes (record { length = n; id = id; kind = kind }) body ++ rest) ≡ Whole (record { length = n; id = id; kind = kind }) body n
again_by limit n id (Command set number) body rest counts high small id-fits (set-fits, number-fits) =
    let header : Header = record { length = n; id = id; kind = Command set number } in
    let k : n - 11 ≡ length body = omega arith in
    whole_front limit (packet_bytes header body ++ rest) header body n (record {
      n-is = sym (big_number-reads_back 4 n (big_bytes 4 id ++ (0 ∷ set ∷ number ∷ body) ++ rest) (omega arith));
      low = omega arith;
      high = high;
      there = omega (arith, length-append body rest);
      flags = inl refl;
      header-is = ap (λ (i : ℕ). record { length = n; id = i; kind = Command set number }) (sym (big_number-reads_back 4 id ((0 ∷ set ∷ number ∷ body) ++ rest) (omega arith)));
      body-is = sym (take_at body rest (length body) refl) ∙ ap (λ (m : ℕ). take m (body ++ rest)) (sym k);
    })
again_by limit n id (Reply error) body rest counts high small id-fits error-fits =
    let header : Header = record { length = n; id = id; kind = Reply error } in
    let k : n - 11 ≡ length body = omega arith in
    whole_front limit (packet_bytes header body ++ rest) header body n (record {
      n-is = sym (big_number-reads_back 4 n (big_bytes 4 id ++ (128 ∷ (big_bytes 2 error.0 ++ body)) ++ rest) (omega arith));
      low = omega arith;
      high = high;
      there = omega (arith, length-append body rest);
      flags = inr refl;
      header-is = ap (λ (i : ℕ). record { length = n; id = i; kind = Reply error }) (sym (big_number-reads_back 4 id ((128 ∷ (big_bytes 2 error.0 ++ body)) ++ rest) (omega arith)))
          ∙ ap (λ (x : ℕ). record { length = n; id = big_number 4 (big_bytes 4 id ++ ((128 ∷ (big_bytes 2 error.0 ++ body)) ++ rest)); kind = Reply (record { 0 = x }) }) (sym (big_number-reads_back 2 error.0 (body ++ rest) (omega arith)));
      body-is = sym (take_at body rest (length body) refl) ∙ ap (λ (m : ℕ). take m (body ++ rest)) (sym k);
    })

-- a packet is found, whatever follows it
pub front_again : (limit : ℕ) (h : Header) (body rest : List ℕ) → limit < 2 ^ 32 → IsPacket limit h body → front limit (packet_bytes h body ++ rest) ≡ Whole h body h.length
front_again limit h body rest small p = again_by limit h.length h.id h.kind body rest p.length_counts_all p.within_limit small p.id_fits p.kind_fits

-- ---- the relation

eqb_differs : (a b : ℕ) → eqb a b ≡ false → a ≢ b
eqb_differs a b unequal e = let equal = eq-eqb a b e in absurd (let both : true ≡ false = sym equal ∙ unequal in cc)

differs_eqb : (a b : ℕ) → a ≢ b → eqb a b ≡ false
differs_eqb a b differ = elim (cases_Bool (eqb a b)) [ inl e ↦ absurd (differ (eqb-true a b e)) | inr e ↦ e ]

flags_fail : (a : ℕ) → a ≢ 0 → a ≢ 128 → (eqb a 0 || eqb a 128) ≡ false
flags_fail a p q = rw (differs_eqb a 0 p, differs_eqb a 128 q) refl

flags_known : (a : ℕ) → IsFlags a ⊎ ((a ≢ 0) × (a ≢ 128))
flags_known a = elim (cases_Bool (eqb a 0)) [
  | inl e ↦ inl (inl (eqb-true a 0 e))
  | inr e ↦ elim (cases_Bool (eqb a 128)) [
    | inl d ↦ inl (inr (eqb-true a 128 d))
    | inr d ↦ inr (eqb_differs a 0 e, eqb_differs a 128 d)
  ]
]

-- the function at each case of the relation
at_short : (limit : ℕ) (bytes : List ℕ) → 4 ≤ length bytes → length_field bytes < 11 → front limit bytes ≡ Fault ShortLength
at_short limit bytes there low = rw (le-ltb (length bytes) 4 there, lt-ltb (length_field bytes) 11 low) refl

at_long : (limit : ℕ) (bytes : List ℕ) → 4 ≤ length bytes → 11 ≤ length_field bytes → limit < length_field bytes → front limit bytes ≡ Fault TooLong
at_long limit bytes there low high = rw (le-ltb (length bytes) 4 there, le-ltb (length_field bytes) 11 low, lt-ltb limit (length_field bytes) high) refl

at_flags : (limit : ℕ) (bytes : List ℕ) → 9 ≤ length bytes → IsLength limit (length_field bytes) → flags_field bytes ≢ 0 → flags_field bytes ≢ 128 → front limit bytes ≡ Fault BadFlags
at_flags limit bytes there (low, high) p q =
    rw (le-ltb (length bytes) 4 (omega arith), le-ltb (length_field bytes) 11 low, le-ltb limit (length_field bytes) high, le-ltb (length bytes) 9 there, flags_fail (flags_field bytes) p q) refl

at_few : (limit : ℕ) (bytes : List ℕ) → length bytes < 4 → front limit bytes ≡ More
at_few limit bytes few = rw (lt-ltb (length bytes) 4 few) refl

at_header : (limit : ℕ) (bytes : List ℕ) → 4 ≤ length bytes → IsLength limit (length_field bytes) → length bytes < 9 → front limit bytes ≡ More
at_header limit bytes there (low, high) few =
    rw (le-ltb (length bytes) 4 there, le-ltb (length_field bytes) 11 low, le-ltb limit (length_field bytes) high, lt-ltb (length bytes) 9 few) refl

at_body : (limit : ℕ) (bytes : List ℕ) → 9 ≤ length bytes → IsLength limit (length_field bytes) → IsFlags (flags_field bytes) → length bytes < length_field bytes → front limit bytes ≡ More
at_body limit bytes there (low, high) flags few =
    rw (le-ltb (length bytes) 4 (omega arith), le-ltb (length_field bytes) 11 low, le-ltb limit (length_field bytes) high, le-ltb (length bytes) 9 there, flags_pass (flags_field bytes) flags, lt-ltb (length bytes) (length_field bytes) few) refl

-- nothing else stands at the front than what the function gives
pub front_only : (limit : ℕ) (bytes : List ℕ) (f : Front) → limit < 2 ^ 32 → FrontOf limit bytes f → front limit bytes ≡ f
front_only limit bytes (Whole h body n) small (p, size, (rest, e)) =
    rw e (front_again limit h body rest small p ∙ ap (λ (k : ℕ). Whole h body k) (sym size))
front_only limit bytes More small (measure, flags) = elim (cases_lt (length bytes) 4) [
  | inl few ↦ at_few limit bytes few
  | inr there ↦
      let m = measure there in
      elim (cases_lt (length bytes) 9) [ inl few ↦ at_header limit bytes there m.0 few | inr nine ↦ at_body limit bytes nine m.0 (flags nine) m.1 ]
]
front_only limit bytes (Fault ShortLength) small (there, low) = at_short limit bytes there low
front_only limit bytes (Fault TooLong) small (there, low, high) = at_long limit bytes there low high
front_only limit bytes (Fault BadFlags) small (there, len, p, q) = at_flags limit bytes there len p q
front_only limit bytes (Fault (BadHandshake place)) small h = absurd h

-- what the function gives stands at the front
pub front_is : (limit : ℕ) (bytes : List ℕ) → IsBytes bytes → FrontOf limit bytes (front limit bytes)
front_is limit bytes fits = elim (cases_lt (length bytes) 4) [
  | inl few ↦ rw (at_few limit bytes few) (λ there. absurd (omega arith), λ there. absurd (omega arith))
  | inr there ↦ elim (cases_lt (length_field bytes) 11) [
    | inl low ↦ rw (at_short limit bytes there low) (there, low)
    | inr low ↦ elim (cases_lt limit (length_field bytes)) [
      | inl high ↦ rw (at_long limit bytes there low high) (there, low, high)
      | inr high ↦ elim (cases_lt (length bytes) 9) [
        | inl few ↦ rw (at_header limit bytes there (low, high) few) (λ _. ((low, high), omega arith), λ nine. absurd (omega arith))
        | inr nine ↦ elim (flags_known (flags_field bytes)) [
          | inr (p, q) ↦ rw (at_flags limit bytes nine (low, high) p q) (nine, (low, high), p, q)
          | inl flags ↦ elim (cases_lt (length bytes) (length_field bytes)) [
            | inl few ↦ rw (at_body limit bytes nine (low, high) flags few) (λ _. ((low, high), few), λ _. flags)
            | inr all ↦
                let n = length_field bytes in
                let w : front limit bytes ≡ Whole (header_of n bytes) (take (n - 11) (drop 11 bytes)) n =
                whole_front limit bytes (header_of n bytes) (take (n - 11) (drop 11 bytes)) n (record { n-is = refl; low = low; high = high; there = all; flags = flags; header-is = refl; body-is = refl }) in
                let a = front_found limit bytes (header_of n bytes) (take (n - 11) (drop 11 bytes)) n fits w in
                rw w (a.0, a.1, (drop n bytes, a.3))
          ]
        ]
      ]
    ]
  ]
]

-- What a line says, and the texts that spell it.
use Rattle.std.proofs.Common.{◌≡◌, ◌⊎◌, ℕ, ◌<◌, ◌^◌, Bool, true, false, cond, eqb, ◌||◌, List, [], ◌∷◌, ◌++◌, length, get_or, Option, Some, None, Result, Ok, Err, refl, sym, ap, subst, ◌∙◌, inl, inr, codes, arith}
use Rattle.std.specs.List.{All, list_any, join_with_byte}
use Rattle.std.specs.Str.{bytes_eq}
use Rattle.std.proofs.lemmas.Bool.{ne_eqb}
use Rattle.std.proofs.lemmas.List.{get_or_default}
use Rattle.std.proofs.lemmas.List.Splits.{slice_split_at, slice_split_none, join_with_byte-slice_split}
use Rattle.std.proofs.lemmas.Slice.Eq.{bytes_eq-Decides}
use Rattle.std.proofs.lemmas.Str.Parse.{digit_at}
use Rattle.hex.proofs.HexLemmas.{decode_of-ok}
use Rattle.hex.specs.declared.error.FromHexError.{FromHexError}
use Rattle.hex.specs.declared.error.FromHexError.TheVariants as unhex
use Rattle.hex.specs.Hex.{decode_of, is_hex_digit}
use Rattle.jdwp_attach.specs.declared.plans.plan_fault.LineFault.{LineFault}
use Rattle.jdwp_attach.specs.Forms.{space, IsNumber, IsHex, IsAskOf, Spells}
use Rattle.jdwp_attach.specs.Lines.{Said, is_empty, words_of, number_of, data_by, data_of, asked, ask_by, alone, waited, events_by, lose_by, line_by, line_of}
use Rattle.jdwp_attach.specs.Lines.Said.{Ask, Answers, Events, Mirror, LoseTarget, LoseDebugger, Attach}
use Rattle.jdwp_attach.proofs.NumberLaws.{number_of-digits, digits-number_of}

-- ---- words have no space

abbrev HasNoSpace : List ℕ → Type 0
HasNoSpace word = All (λ x. eqb x 32 ≡ false) word

numeral_has_no_space : (limit : ℕ) (digits : List ℕ) (number : ℕ) → IsNumber limit digits number → HasNoSpace digits
numeral_has_no_space limit digits number h k d inside =
    let range = digit_at digits k h.0.1 inside in
    let same = get_or_default digits k d 0 inside in
    ne_eqb (get_or digits k d) 32 (λ e. omega (arith, range.0, same, e))

hex_digit_is_no_space : (x : ℕ) → is_hex_digit x ≡ true → eqb x 32 ≡ false
hex_digit_is_no_space x h = ne_eqb x 32 (λ e. let no : false ≡ true = (let P : ℕ → Type 0 = λ n. is_hex_digit n ≡ true in subst P e h) in cc)

hex_has_no_space : (digits bytes : List ℕ) → IsHex digits bytes → HasNoSpace digits
hex_has_no_space digits bytes h k d inside = hex_digit_is_no_space (get_or digits k d) ((decode_of-ok digits bytes h.1).1 k d inside)

one_word : (s : List ℕ) → HasNoSpace s → words_of s ≡ s ∷ []
one_word s clear = slice_split_none (λ x. eqb x 32) s clear

more_words : (s rest : List ℕ) → HasNoSpace s → words_of (s ++ space ∷ rest) ≡ s ∷ words_of rest
more_words s rest clear = slice_split_at (λ x. eqb x 32) s 32 rest clear refl

-- ---- empty words

is_not_empty : (text : List ℕ) → 0 < length text → is_empty text ≡ false
is_not_empty text some = ne_eqb (length text) 0 (λ e. omega arith)

has_some : (text : List ℕ) → is_empty text ≡ false → 0 < length text
has_some [] h = absurd (cc)
has_some (x ∷ xs) h = omega arith

both_false : (a b : Bool) → (a || b) ≡ false → (a ≡ false) × (b ≡ false)
both_false true b h = absurd (cc)
both_false false b h = (refl, h)

-- ---- a text that spells something is read as that

by_words : (text : List ℕ) (words : List (List ℕ)) (said : Said) → 0 < length text → words_of text ≡ words → list_any is_empty words ≡ false → line_by words ≡ Ok said → line_of text ≡ Ok said
by_words text words said some is full read =
    let h : is_empty text ≡ false = is_not_empty text some in
    let k : list_any is_empty (words_of text) ≡ false = ap (λ (x : List (List ℕ)). list_any is_empty x) is ∙ full in
    rw (h, k) (ap (λ (x : List (List ℕ)). line_by x) is ∙ read)

asked-all : (a b : Option ℕ) (r : Result (List ℕ) LineFault) (set number : ℕ) (bytes : List ℕ) → a ≡ Some set → b ≡ Some number → r ≡ Ok bytes → asked a b r ≡ Ok (Ask set number bytes)
asked-all a b r set number bytes p q s = rw (p, q, s) refl

data_of-hex : (digits bytes : List ℕ) → IsHex digits bytes → data_of digits ≡ Ok bytes
data_of-hex digits bytes h = ap (λ (r : Result (List ℕ) FromHexError). data_by r) h.1

ask_spelled : (set number : ℕ) (bytes text s n : List ℕ) → IsNumber (2 ^ 8) s set → IsNumber (2 ^ 8) n number → IsAskOf s n bytes text → line_of text ≡ Ok (Ask set number bytes)
ask_spelled set number bytes text s n p q (inl (none, is)) =
    let words : words_of (codes "ask " ++ (s ++ space ∷ n)) ≡ codes "ask" ∷ s ∷ n ∷ [] =
    ap (λ (x : List (List ℕ)). codes "ask" ∷ x) (more_words s n (numeral_has_no_space (2 ^ 8) s set p) ∙ ap (λ (x : List (List ℕ)). s ∷ x) (one_word n (numeral_has_no_space (2 ^ 8) n number q))) in
    let full : list_any is_empty (codes "ask" ∷ s ∷ n ∷ []) ≡ false = rw (is_not_empty s p.0.0, is_not_empty n q.0.0) refl in
    let read : line_by (codes "ask" ∷ s ∷ n ∷ []) ≡ Ok (Ask set number bytes) =
    asked-all (number_of (2 ^ 8) s) (number_of (2 ^ 8) n) (Ok []) set number bytes (number_of-digits (2 ^ 8) s set p) (number_of-digits (2 ^ 8) n number q) (ap (λ (x : List ℕ). Ok x) (sym none)) in
    ap (λ (x : List ℕ). line_of x) is ∙ by_words (codes "ask " ++ (s ++ space ∷ n)) (codes "ask" ∷ s ∷ n ∷ []) (Ask set number bytes) (omega arith) words full read
ask_spelled set number bytes text s n p q (inr (digits, hex, is)) =
    let words : words_of (codes "ask " ++ (s ++ space ∷ (n ++ space ∷ digits))) ≡ codes "ask" ∷ s ∷ n ∷ digits ∷ [] =
    ap (λ (x : List (List ℕ)). codes "ask" ∷ x) (more_words s (n ++ space ∷ digits) (numeral_has_no_space (2 ^ 8) s set p)
    ∙ ap (λ (x : List (List ℕ)). s ∷ x) (more_words n digits (numeral_has_no_space (2 ^ 8) n number q) ∙ ap (λ (x : List (List ℕ)). n ∷ x) (one_word digits (hex_has_no_space digits bytes hex)))) in
    let full : list_any is_empty (codes "ask" ∷ s ∷ n ∷ digits ∷ []) ≡ false = rw (is_not_empty s p.0.0, is_not_empty n q.0.0, is_not_empty digits hex.0) refl in
    let read : line_by (codes "ask" ∷ s ∷ n ∷ digits ∷ []) ≡ Ok (Ask set number bytes) =
    asked-all (number_of (2 ^ 8) s) (number_of (2 ^ 8) n) (data_of digits) set number bytes (number_of-digits (2 ^ 8) s set p) (number_of-digits (2 ^ 8) n number q) (data_of-hex digits bytes hex) in
    ap (λ (x : List ℕ). line_of x) is ∙ by_words (codes "ask " ++ (s ++ space ∷ (n ++ space ∷ digits))) (codes "ask" ∷ s ∷ n ∷ digits ∷ []) (Ask set number bytes) (omega arith) words full read

waited-some : (a : Option ℕ) (count : ℕ) → a ≡ Some count → waited a ≡ Ok (Events count)
waited-some a count p = rw p refl

events_spelled : (count : ℕ) (text n : List ℕ) → IsNumber (2 ^ 32) n count → text ≡ codes "events " ++ n → line_of text ≡ Ok (Events count)
events_spelled count text n p is =
    let words : words_of (codes "events " ++ n) ≡ codes "events" ∷ n ∷ [] = ap (λ (x : List (List ℕ)). codes "events" ∷ x) (one_word n (numeral_has_no_space (2 ^ 32) n count p)) in
    let full : list_any is_empty (codes "events" ∷ n ∷ []) ≡ false = rw (is_not_empty n p.0.0) refl in
    let read : line_by (codes "events" ∷ n ∷ []) ≡ Ok (Events count) = waited-some (number_of (2 ^ 32) n) count (number_of-digits (2 ^ 32) n count p) in
    ap (λ (x : List ℕ). line_of x) is ∙ by_words (codes "events " ++ n) (codes "events" ∷ n ∷ []) (Events count) (omega arith) words full read

pub spelled : (said : Said) (text : List ℕ) → Spells said text → line_of text ≡ Ok said
spelled (Ask set number bytes) text h = ask_spelled set number bytes text h.0 h.1 h.2 h.3 h.4
spelled Answers text h = ap (λ (x : List ℕ). line_of x) h
spelled (Events count) text h = events_spelled count text h.0 h.1 h.2
spelled Mirror text h = ap (λ (x : List ℕ). line_of x) h
spelled LoseTarget text h = ap (λ (x : List ℕ). line_of x) h
spelled LoseDebugger text h = ap (λ (x : List ℕ). line_of x) h
spelled Attach text h = ap (λ (x : List ℕ). line_of x) h

-- ---- what a text is read as is spelled by it

whose : (b : Bool) (x y : Result Said LineFault) (said : Said) → cond b x y ≡ Ok said → ((b ≡ true) × (x ≡ Ok said)) ⊎ ((b ≡ false) × (y ≡ Ok said))
whose true x y said h = inl (refl, h)
whose false x y said h = inr (refl, h)

record IsAsked (a b : Option ℕ) (r : Result (List ℕ) LineFault) (said : Said) : Type 0 where
  set : ℕ
  number : ℕ
  bytes : List ℕ
  has_set : a ≡ Some set
  has_number : b ≡ Some number
  has_bytes : r ≡ Ok bytes
  is : Ask set number bytes ≡ said

asked-ok : (a b : Option ℕ) (r : Result (List ℕ) LineFault) (said : Said) → asked a b r ≡ Ok said → IsAsked a b r said
asked-ok None b r said h = absurd (cc)
asked-ok (Some set) None r said h = absurd (cc)
asked-ok (Some set) (Some number) (Err fault) said h = absurd (cc)
asked-ok (Some set) (Some number) (Ok bytes) said h = record { set = set; number = number; bytes = bytes; has_set = refl; has_number = refl; has_bytes = refl; is = cc }

data_by-ok : (r : Result (List ℕ) FromHexError) (bytes : List ℕ) → data_by r ≡ Ok bytes → r ≡ Ok bytes
data_by-ok (Ok x) bytes h = cc
data_by-ok (Err unhex.OddLength) bytes h = absurd (cc)
data_by-ok (Err (unhex.InvalidHexCharacter c index)) bytes h = absurd (cc)
data_by-ok (Err unhex.InvalidStringLength) bytes h = absurd (cc)
data_by-ok (Err unhex.OutOfMemory) bytes h = absurd (cc)

ask_worded : (others : List (List ℕ)) (said : Said) → list_any is_empty others ≡ false → ask_by others ≡ Ok said → Spells said (join_with_byte 32 (codes "ask" ∷ others))
ask_worded [] said full h = absurd (cc)
ask_worded (s ∷ []) said full h = absurd (cc)
ask_worded (s ∷ n ∷ []) said full h =
    let a = asked-ok (number_of (2 ^ 8) s) (number_of (2 ^ 8) n) (Ok []) said h in
    let P : Said → Type 0 = λ x. Spells x (join_with_byte 32 (codes "ask" ∷ s ∷ n ∷ [])) in
    let none : a.bytes ≡ [] = cc (a.has_bytes) in
    subst P a.is (s, n, digits-number_of (2 ^ 8) s a.set a.has_set, digits-number_of (2 ^ 8) n a.number a.has_number, inl (none, refl))
ask_worded (s ∷ n ∷ digits ∷ []) said full h =
    let a = asked-ok (number_of (2 ^ 8) s) (number_of (2 ^ 8) n) (data_of digits) said h in
    let P : Said → Type 0 = λ x. Spells x (join_with_byte 32 (codes "ask" ∷ s ∷ n ∷ digits ∷ [])) in
    let third = both_false (is_empty n) (is_empty digits || false) (both_false (is_empty s) (is_empty n || (is_empty digits || false)) full).1 in
    let some = has_some digits (both_false (is_empty digits) false third.1).0 in
    subst P a.is (s, n, digits-number_of (2 ^ 8) s a.set a.has_set, digits-number_of (2 ^ 8) n a.number a.has_number, inr (digits, (some, data_by-ok (decode_of digits) a.bytes a.has_bytes), refl))
ask_worded (s ∷ n ∷ digits ∷ other ∷ others) said full h = absurd (cc)

waited-ok : (a : Option ℕ) (said : Said) → waited a ≡ Ok said → (count : ℕ) × (a ≡ Some count) × (Events count ≡ said)
waited-ok None said h = absurd (cc)
waited-ok (Some count) said h = (count, refl, cc)

events_worded : (others : List (List ℕ)) (said : Said) → events_by others ≡ Ok said → Spells said (join_with_byte 32 (codes "events" ∷ others))
events_worded [] said h = absurd (cc)
events_worded (n ∷ []) said h =
    let a = waited-ok (number_of (2 ^ 32) n) said h in
    let P : Said → Type 0 = λ x. Spells x (join_with_byte 32 (codes "events" ∷ n ∷ [])) in
    subst P a.2 (n, digits-number_of (2 ^ 32) n a.0 a.1, refl)
events_worded (n ∷ other ∷ others) said h = absurd (cc)

lose_worded : (others : List (List ℕ)) (said : Said) → lose_by others ≡ Ok said → Spells said (join_with_byte 32 (codes "lose" ∷ others))
lose_worded [] said h = absurd (cc)
lose_worded (end ∷ []) said h =
    let P : List ℕ → Type 0 = λ x. Spells said (join_with_byte 32 (codes "lose" ∷ x ∷ [])) in
    let Q : Said → Type 0 = λ x. Spells x (codes "lose target") in
    let R : Said → Type 0 = λ x. Spells x (codes "lose debugger") in
    elim (whose (bytes_eq end (codes "target")) _ _ said h) [
      | inl p ↦ subst P (sym ((bytes_eq-Decides end (codes "target")).0 p.0)) (let e : LoseTarget ≡ said = cc (p.1) in subst Q e refl)
      | inr p ↦ elim (whose (bytes_eq end (codes "debugger")) _ _ said p.1) [
        | inl q ↦ subst P (sym ((bytes_eq-Decides end (codes "debugger")).0 q.0)) (let e : LoseDebugger ≡ said = cc (q.1) in subst R e refl)
        | inr q ↦ absurd (cc (q.1))
      ]
    ]
lose_worded (end ∷ other ∷ others) said h = absurd (cc)

alone-ok : (line said : Said) (others : List (List ℕ)) → alone line others ≡ Ok said → (others ≡ []) × (line ≡ said)
alone-ok line said [] h = (refl, cc)
alone-ok line said (other ∷ others) h = absurd (cc)

alone_worded : (first : List ℕ) (others : List (List ℕ)) (line said : Said) → Spells line first → alone line others ≡ Ok said → Spells said (join_with_byte 32 (first ∷ others))
alone_worded first others line said spells h =
    let a = alone-ok line said others h in
    let P : Said → Type 0 = λ x. Spells x (join_with_byte 32 (first ∷ others)) in
    let Q : List (List ℕ) → Type 0 = λ x. Spells line (join_with_byte 32 (first ∷ x)) in
    subst P a.1 (subst Q (sym a.0) spells)

worded : (words : List (List ℕ)) (said : Said) → list_any is_empty words ≡ false → line_by words ≡ Ok said → Spells said (join_with_byte 32 words)
worded [] said full h = absurd (cc)
worded (first ∷ others) said full h =
    let rest : list_any is_empty others ≡ false = (both_false (is_empty first) (list_any is_empty others) full).1 in
    let P : List ℕ → Type 0 = λ x. Spells said (join_with_byte 32 (x ∷ others)) in
    elim (whose (bytes_eq first (codes "ask")) _ _ said h) [
      | inl p ↦ subst P (sym ((bytes_eq-Decides first (codes "ask")).0 p.0)) (ask_worded others said rest p.1)
      | inr p ↦ elim (whose (bytes_eq first (codes "answers")) _ _ said p.1) [
        | inl q ↦ alone_worded first others Answers said ((bytes_eq-Decides first (codes "answers")).0 q.0) q.1
        | inr q ↦ elim (whose (bytes_eq first (codes "events")) _ _ said q.1) [
          | inl r ↦ subst P (sym ((bytes_eq-Decides first (codes "events")).0 r.0)) (events_worded others said r.1)
          | inr r ↦ elim (whose (bytes_eq first (codes "mirror")) _ _ said r.1) [
            | inl s ↦ alone_worded first others Mirror said ((bytes_eq-Decides first (codes "mirror")).0 s.0) s.1
            | inr s ↦ elim (whose (bytes_eq first (codes "lose")) _ _ said s.1) [
              | inl t ↦ subst P (sym ((bytes_eq-Decides first (codes "lose")).0 t.0)) (lose_worded others said t.1)
              | inr t ↦ elim (whose (bytes_eq first (codes "attach")) _ _ said t.1) [
                | inl u ↦ alone_worded first others Attach said ((bytes_eq-Decides first (codes "attach")).0 u.0) u.1
                | inr u ↦ absurd (cc (u.1))
              ]
            ]
          ]
        ]
      ]
    ]

pub line_spells : (text : List ℕ) (said : Said) → line_of text ≡ Ok said → Spells said text
line_spells text said h =
    let P : List ℕ → Type 0 = λ x. Spells said x in
    elim (whose (is_empty text) _ _ said h) [
      | inl p ↦ absurd (cc (p.1))
      | inr p ↦ elim (whose (list_any is_empty (words_of text)) _ _ said p.1) [
        | inl q ↦ absurd (cc (q.1))
        | inr q ↦ subst P (join_with_byte-slice_split 32 text) (worded (words_of text) said q.0 q.1)
      ]
    ]

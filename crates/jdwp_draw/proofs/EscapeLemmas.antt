-- What stands for the characters of a session.
use Rattle.std.proofs.Common.{◌≡◌, ◌≤◌, ℕ, zero, suc, Bool, true, false, eqb, List, [], ◌∷◌, ◌++◌, length, refl, sym, ap, ◌∙◌, append-nil, arith}
use Rattle.std.proofs.lemmas.List.{length-append}
use Rattle.std.proofs.lemmas.List.Concat.{flat_map-append}
use Rattle.std.proofs.lemmas.List.Folds.{list_all-append}
use Rattle.std.proofs.lemmas.Bool.Decides.{nat_tests}
use Rattle.std.specs.Char.{encode_utf8}
use Rattle.std.specs.List.{flat_map, list_all}
use Rattle.jdwp_draw.specs.Escapes.{escaped_char, escaped, escaped_bytes, escaped_text, is_no_markup, read_back_within, read_back}

-- ---- in UTF-8

one_is_written : (c : ℕ) (b60 b62 b38 b34 b39 : Bool) → eqb c 60 ≡ b60 → eqb c 62 ≡ b62 → eqb c 38 ≡ b38 → eqb c 34 ≡ b34 → eqb c 39 ≡ b39 → escaped_bytes c ≡ flat_map encode_utf8 (escaped_char c)
unfolding encode_utf8
one_is_written c true b62 b38 b34 b39 e60 e62 e38 e34 e39 = rw e60 refl
one_is_written c false true b38 b34 b39 e60 e62 e38 e34 e39 = rw (e60, e62) refl
one_is_written c false false true b34 b39 e60 e62 e38 e34 e39 = rw (e60, e62, e38) refl
one_is_written c false false false true b39 e60 e62 e38 e34 e39 = rw (e60, e62, e38, e34) refl
one_is_written c false false false false true e60 e62 e38 e34 e39 = rw (e60, e62, e38, e34, e39) refl
one_is_written c false false false false false e60 e62 e38 e34 e39 = rw (e60, e62, e38, e34, e39) (sym (append-nil (encode_utf8 c)))

pub written : (cs : List ℕ) → escaped_text cs ≡ flat_map encode_utf8 (escaped cs)
written [] = refl
written (c ∷ cs) =
    ap (λ (x : List ℕ). x ++ escaped_text cs) (one_is_written c (eqb c 60) (eqb c 62) (eqb c 38) (eqb c 34) (eqb c 39) refl refl refl refl refl)
    ∙ ap (λ (x : List ℕ). flat_map encode_utf8 (escaped_char c) ++ x) (written cs) ∙ sym (flat_map-append encode_utf8 (escaped_char c) (escaped cs))

-- ---- nothing marks up

one_marks_nothing : (c : ℕ) (b60 b62 b38 b34 b39 : Bool) → eqb c 60 ≡ b60 → eqb c 62 ≡ b62 → eqb c 38 ≡ b38 → eqb c 34 ≡ b34 → eqb c 39 ≡ b39 → list_all is_no_markup (escaped_char c) ≡ true
one_marks_nothing c true b62 b38 b34 b39 e60 e62 e38 e34 e39 = rw e60 refl
one_marks_nothing c false true b38 b34 b39 e60 e62 e38 e34 e39 = rw (e60, e62) refl
one_marks_nothing c false false true b34 b39 e60 e62 e38 e34 e39 = rw (e60, e62, e38) refl
one_marks_nothing c false false false true b39 e60 e62 e38 e34 e39 = rw (e60, e62, e38, e34) refl
one_marks_nothing c false false false false true e60 e62 e38 e34 e39 = rw (e60, e62, e38, e34, e39) refl
one_marks_nothing c false false false false false e60 e62 e38 e34 e39 = rw (e60, e62, e38, e34, e39) (rw (e60, e62, e34, e39) refl)

pub marks_nothing : (cs : List ℕ) → list_all is_no_markup (escaped cs) ≡ true
marks_nothing [] = refl
marks_nothing (c ∷ cs) =
    let one = one_marks_nothing c (eqb c 60) (eqb c 62) (eqb c 38) (eqb c 34) (eqb c 39) refl refl refl refl refl in
    list_all-append is_no_markup (escaped_char c) (escaped cs) ∙ rw (one, marks_nothing cs) refl

-- ---- reading back

one_is_there : (c : ℕ) (b60 b62 b38 b34 b39 : Bool) → eqb c 60 ≡ b60 → eqb c 62 ≡ b62 → eqb c 38 ≡ b38 → eqb c 34 ≡ b34 → eqb c 39 ≡ b39 → 1 ≤ length (escaped_char c)
one_is_there c true b62 b38 b34 b39 e60 e62 e38 e34 e39 = rw e60 (omega arith)
one_is_there c false true b38 b34 b39 e60 e62 e38 e34 e39 = rw (e60, e62) (omega arith)
one_is_there c false false true b34 b39 e60 e62 e38 e34 e39 = rw (e60, e62, e38) (omega arith)
one_is_there c false false false true b39 e60 e62 e38 e34 e39 = rw (e60, e62, e38, e34) (omega arith)
one_is_there c false false false false true e60 e62 e38 e34 e39 = rw (e60, e62, e38, e34, e39) (omega arith)
one_is_there c false false false false false e60 e62 e38 e34 e39 = rw (e60, e62, e38, e34, e39) (omega arith)

is_it : (c d : ℕ) → eqb c d ≡ true → c ≡ d
is_it c d e = grind (arith, nat_tests)

one_reads_back : (c n : ℕ) (cs rest : List ℕ) (b60 b62 b38 b34 b39 : Bool) → eqb c 60 ≡ b60 → eqb c 62 ≡ b62 → eqb c 38 ≡ b38 → eqb c 34 ≡ b34 → eqb c 39 ≡ b39 → read_back_within n rest ≡ cs
    → read_back_within (suc n) (escaped_char c ++ rest) ≡ c ∷ cs
unfolding read_back_within
one_reads_back c n cs rest true b62 b38 b34 b39 e60 e62 e38 e34 e39 e = rw e60 (rw (e, is_it c 60 e60) refl)
one_reads_back c n cs rest false true b38 b34 b39 e60 e62 e38 e34 e39 e = rw (e60, e62) (rw (e, is_it c 62 e62) refl)
one_reads_back c n cs rest false false true b34 b39 e60 e62 e38 e34 e39 e = rw (e60, e62, e38) (rw (e, is_it c 38 e38) refl)
one_reads_back c n cs rest false false false true b39 e60 e62 e38 e34 e39 e = rw (e60, e62, e38, e34) (rw (e, is_it c 34 e34) refl)
one_reads_back c n cs rest false false false false true e60 e62 e38 e34 e39 e = rw (e60, e62, e38, e34, e39) (rw (e, is_it c 39 e39) refl)
one_reads_back c n cs rest false false false false false e60 e62 e38 e34 e39 e = rw (e60, e62, e38, e34, e39) (rw (e38, e) refl)

back : (cs : List ℕ) (n : ℕ) → length (escaped cs) ≤ n → read_back_within n (escaped cs) ≡ cs
unfolding read_back_within
back [] zero h = refl
back [] (suc n) h = refl
back (c ∷ cs) zero h =
    let one = one_is_there c (eqb c 60) (eqb c 62) (eqb c 38) (eqb c 34) (eqb c 39) refl refl refl refl refl in
    let more = length-append (escaped_char c) (escaped cs) in
    absurd (omega (arith, one, more))
back (c ∷ cs) (suc n) h =
    let one = one_is_there c (eqb c 60) (eqb c 62) (eqb c 38) (eqb c 34) (eqb c 39) refl refl refl refl refl in
    let more = length-append (escaped_char c) (escaped cs) in
    one_reads_back c n cs (escaped cs) (eqb c 60) (eqb c 62) (eqb c 38) (eqb c 34) (eqb c 39) refl refl refl refl refl (back cs n (omega (arith, one, more)))

pub all_back : (cs : List ℕ) → read_back (escaped cs) ≡ cs
all_back cs = back cs (length (escaped cs)) (omega arith)

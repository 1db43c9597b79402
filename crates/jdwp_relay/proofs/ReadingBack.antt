-- Lines that were written read again as those lines.
use Rattle.std.proofs.Common.{◌≡◌, ◌⊎◌, ℕ, zero, suc, ◌<◌, ◌≤◌, ◌+◌, ◌-◌, List, [], ◌∷◌, ◌++◌, length, true, false, cond, get_or, None, Some, refl, sym, ap, ◌∙◌, append_assoc, arith, eq-eqb}
use Rattle.std.specs.Prelude.{All, ◌==◌, if◌then◌else◌, is_some}
use Rattle.std.specs.List.{filter_map, slice_split, take_while}
use Rattle.std.specs.Str.Lines.{lines, lines_of_parts, strip_carriage_return}
use Rattle.std.proofs.lemmas.List.Elements.{All-head, All-tail}
use Rattle.std.proofs.lemmas.List.Splits.{length-slice_split}
use Rattle.std.proofs.lemmas.List.Sums.{take_while-cons}
use Rattle.hex.specs.Hex.{IsBytes, encode_lower, encode_with, lower_digits}
use Rattle.hex.proofs.HexLemmas.{decode_of-encode_lower}
use Rattle.jdwp_show.specs.declared.capture_line.Sender.{Sender}
use Rattle.jdwp_show.specs.declared.capture_line.Sender.TheVariants.{Debugger, Target}
use Rattle.jdwp_show.specs.Lines.{Line, bad_line, capture_of, line_by, line_of, lines_that_read, reads}
use Rattle.jdwp_relay.specs.LineText.{IsLine, lines_text, mark_of}

-- ---- no digit ends a line

-- neither a newline nor a carriage return
abbrev IsPlain : ℕ → Type 0
IsPlain c = ((c == 10) ≡ false) × ((c == 13) ≡ false)

abbrev AllPlain : List ℕ → Type 0
AllPlain [] = Unit {0}
AllPlain (c ∷ cs) = IsPlain c × AllPlain cs

plain_at : (cs : List ℕ) (i : ℕ) → AllPlain cs → IsPlain (get_or cs i 0)
plain_at [] i plain = (refl, refl)
plain_at (c ∷ cs) zero plain = plain.0
plain_at (c ∷ cs) (suc i) plain = plain_at cs i plain.1

plain_digits : AllPlain lower_digits
plain_digits = ((refl, refl), ((refl, refl), ((refl, refl), ((refl, refl), ((refl, refl), ((refl, refl), ((refl, refl), ((refl, refl), ((refl, refl), ((refl, refl), ((refl, refl), ((refl, refl), ((refl, refl), ((refl, refl), ((refl, refl), ((refl, refl), tt))))))))))))))))

plain_text : (bytes : List ℕ) → AllPlain (encode_lower bytes)
unfolding encode_with
plain_text [] = tt
plain_text (b ∷ bs) = (plain_at lower_digits _ plain_digits, (plain_at lower_digits _ plain_digits, plain_text bs))

-- ---- a text by its lines

-- a line without its end
abbrev body : Sender → List ℕ → List ℕ
body sender bytes = mark_of sender ∷ 32 ∷ encode_lower bytes

plain_body : (sender : Sender) (bytes : List ℕ) → AllPlain (body sender bytes)
plain_body Debugger bytes = ((refl, refl), ((refl, refl), plain_text bytes))
plain_body Target bytes = ((refl, refl), ((refl, refl), plain_text bytes))

split_line : (cs rest : List ℕ) → AllPlain cs → slice_split (λ b. b == 10) (cs ++ 10 ∷ rest) ≡ cs ∷ slice_split (λ b. b == 10) rest
split_line [] rest plain = refl
split_line (c ∷ cs) rest plain = rw (plain.0.0, split_line cs rest plain.1) refl

strip_none : (cs : List ℕ) → AllPlain cs → strip_carriage_return cs ≡ cs
strip_none cs plain = rw (plain_at cs (length cs - 1) plain).1 refl

first_part : (cs : List ℕ) (parts : List (List ℕ)) → 0 < length parts → AllPlain cs → lines_of_parts (cs ∷ parts) ≡ cs ∷ lines_of_parts parts
first_part cs [] some plain = absurd (omega arith)
first_part cs (part ∷ parts) some plain = ap (λ line. line ∷ lines_of_parts (part ∷ parts)) (strip_none cs plain)

first_line : (cs rest : List ℕ) → AllPlain cs → lines (cs ++ 10 ∷ rest) ≡ cs ∷ lines rest
first_line cs rest plain =
    let parts : List (List ℕ) = slice_split (λ b. b == 10) rest in
    let some : 0 < length parts = omega (arith, length-slice_split (λ b. b == 10) rest) in
    ap lines_of_parts (split_line cs rest plain) ∙ first_part cs parts some plain

lines_more : (line : Line) (more : List Line) → lines (lines_text (line ∷ more)) ≡ body line.sender line.bytes ∷ lines (lines_text more)
lines_more line more =
    let cs : List ℕ = body line.sender line.bytes in
    ap lines (append_assoc cs (10 ∷ []) (lines_text more)) ∙ first_line cs (lines_text more) (plain_body line.sender line.bytes)

-- ---- what it says

line_read : (sender : Sender) (bytes : List ℕ) → 0 < length bytes → IsBytes bytes → line_of (body sender bytes) ≡ Some (record { sender = sender; bytes = bytes })
line_read sender [] some are = absurd (omega arith)
line_read Debugger (b ∷ bs) some are = ap (line_by Debugger) (decode_of-encode_lower (b ∷ bs) are)
line_read Target (b ∷ bs) some are = ap (line_by Target) (decode_of-encode_lower (b ∷ bs) are)

reads_line : (sender : Sender) (bytes : List ℕ) → 0 < length bytes → IsBytes bytes → reads (body sender bytes) ≡ true
reads_line sender bytes some are = ap is_some (line_read sender bytes some are)

all_read : (written : List Line) → All IsLine written → lines_that_read (lines_text written) ≡ lines (lines_text written)
all_read [] are = refl
all_read (line ∷ more) are =
    let is = All-head IsLine line more are in
    let cs : List ℕ = body line.sender line.bytes in
    let rest : List (List ℕ) = lines (lines_text more) in
    let first : lines_that_read (lines_text (line ∷ more)) ≡ take_while reads (cs ∷ rest) = ap (take_while reads) (lines_more line more) in
    first ∙ take_while-cons reads cs rest ∙ ap (λ b. cond b (cs ∷ take_while reads rest) []) (reads_line line.sender line.bytes is.0 is.1)
    ∙ ap (λ later. cs ∷ later) (all_read more (All-tail IsLine line more are)) ∙ sym (lines_more line more)

lines_say : (written : List Line) → All IsLine written → filter_map line_of (lines (lines_text written)) ≡ written
lines_say [] are = refl
lines_say (line ∷ more) are =
    let is = All-head IsLine line more are in
    let said : line_of (body line.sender line.bytes) ≡ Some line = line_read line.sender line.bytes is.0 is.1 in
    ap (filter_map line_of) (lines_more line more) ∙ rw said (ap (λ later. line ∷ later) (lines_say more (All-tail IsLine line more are)))

pub capture_of-lines_text : (written : List Line) → All IsLine written → capture_of (lines_text written) ≡ written
capture_of-lines_text written are = ap (filter_map line_of) (all_read written are) ∙ lines_say written are

same_length : (n : ℕ) → (n == n) ≡ true
same_length n = eq-eqb n n refl

pub bad_line-lines_text : (written : List Line) → All IsLine written → bad_line (lines_text written) ≡ None
bad_line-lines_text written are = rw (all_read written are, same_length (length (lines (lines_text written)))) refl

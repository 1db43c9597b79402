-- Lines that read.
use Rattle.std.proofs.Common.{◌≡◌, ℕ, ◌+◌, ◌/◌, ◌≤◌, cond, List, [], ◌∷◌, ◌++◌, length, drop, get_or, Option, None, refl, ap, ◌∙◌, arith}
use Rattle.std.proofs.lemmas.List.{append-nil}
use Rattle.std.proofs.lemmas.List.Concat.{flat_map-append}
use Rattle.hex.specs.Hex.{decode_of, decode_pairs}
use Rattle.jdwp_show.specs.declared.capture_line.Sender.{Sender}
use Rattle.jdwp_show.specs.declared.capture_line.Sender.TheVariants.{Debugger, Target}
use Rattle.jdwp_show.specs.Lines.{Line, line_of, line_by, is_same, sent_by}

-- fewer digits than those of a byte
pub few_digits : (digits : List ℕ) (sender : Sender) → length digits / 2 ≡ 0 → line_by sender (decode_of digits) ≡ None
unfolding decode_pairs
few_digits [] sender few = refl
few_digits (x ∷ []) sender few = refl
few_digits (x ∷ y ∷ digits) sender few = absurd (omega arith)

pub line_of-debugger : (text : List ℕ) (line : Option Line) → 2 ≤ length text → get_or text 1 0 ≡ 32 → get_or text 0 0 ≡ 62 → line_by Debugger (decode_of (drop 2 text)) ≡ line → line_of text ≡ line
line_of-debugger [] line two space mark read = absurd (omega arith)
line_of-debugger (x ∷ []) line two space mark read = absurd (omega arith)
line_of-debugger (x ∷ y ∷ digits) line two space mark read = rw (space, mark) read

pub line_of-target : (text : List ℕ) (line : Option Line) → 2 ≤ length text → get_or text 1 0 ≡ 32 → get_or text 0 0 ≡ 60 → line_by Target (decode_of (drop 2 text)) ≡ line → line_of text ≡ line
line_of-target [] line two space mark read = absurd (omega arith)
line_of-target (x ∷ []) line two space mark read = absurd (omega arith)
line_of-target (x ∷ y ∷ digits) line two space mark read = rw (space, mark) read

pub sent_by-push : (sender : Sender) (lines : List Line) (line : Line) → sent_by sender (lines ++ line ∷ []) ≡ sent_by sender lines ++ cond (is_same sender line.sender) line.bytes []
sent_by-push sender lines line =
    flat_map-append (λ (l : Line). cond (is_same sender l.sender) l.bytes []) lines (line ∷ []) ∙ ap (λ (x : List ℕ). sent_by sender lines ++ x) (append-nil (cond (is_same sender line.sender) line.bytes []))

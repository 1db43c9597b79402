-- The line in which data are shown.
use Rattle.std.proofs.Common.{◌≡◌, ℕ, ◌+◌, List, [], ◌∷◌, ◌++◌, length, length-append, drop, refl, ap, ◌∙◌, arith, codes, decimal}
use Rattle.std.proofs.lemmas.Fmt.{decimal_digit}
use Rattle.std.proofs.lemmas.List.{append-nil}
use Rattle.jdwp_layout.specs.CommandNumbers.{COMPOSITE}
use Rattle.jdwp_layout.specs.Meanings.{DatumMeaning, ScalarMeaning, One}
use Rattle.jdwp_show.specs.declared.capture_line.Sender.TheVariants.{Target}
use Rattle.jdwp_show.specs.DataText.{data_text, scalar_text}
use Rattle.jdwp_show.specs.MessageLines.{command_start}

abbrev pub start : List ℕ
start = command_start Target 0 (record { set = COMPOSITE.set; number = COMPOSITE.number })

start_is : start ≡ codes "< 0 Event.Composite"
start_is = (let zero : decimal 0 ≡ 48 ∷ [] = decimal_digit 0 (omega arith) in rw zero refl)

-- the line begins with nineteen bytes, and behind them the data stand
parts : (line : List ℕ) (items : List DatumMeaning) → line ≡ start ++ data_text items → line ≡ codes "< 0 Event.Composite" ++ data_text items
parts line items is = is ∙ ap (λ (l : List ℕ). l ++ data_text items) start_is

pub behind_start : (line : List ℕ) (items : List DatumMeaning) → line ≡ start ++ data_text items → drop 19 line ≡ data_text items
behind_start line items is = ap (λ (l : List ℕ). drop 19 l) (parts line items is)

pub start_long : (line : List ℕ) (items : List DatumMeaning) → line ≡ start ++ data_text items → length line ≡ 19 + length (data_text items)
start_long line items is = ap (λ (l : List ℕ). length l) (parts line items is) ∙ length-append (codes "< 0 Event.Composite") (data_text items)

-- one item stands behind a space
one_text : (x : ScalarMeaning) → data_text (One x ∷ []) ≡ 32 ∷ scalar_text x
one_text x = append-nil (32 ∷ scalar_text x)

pub behind_one : (line : List ℕ) (x : ScalarMeaning) → line ≡ start ++ data_text (One x ∷ []) → drop 20 line ≡ scalar_text x
behind_one line x is = ap (λ (l : List ℕ). drop 20 l) (parts line (One x ∷ []) is) ∙ ap (λ (l : List ℕ). drop 1 l) (one_text x)

pub one_long : (line : List ℕ) (x : ScalarMeaning) → line ≡ start ++ data_text (One x ∷ []) → length line ≡ 20 + length (scalar_text x)
one_long line x is = start_long line (One x ∷ []) is ∙ ap (λ (l : List ℕ). 19 + length l) (one_text x) ∙ (omega arith)

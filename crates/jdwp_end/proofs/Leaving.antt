-- Bytes that leave an end and are written, by one piece after the other.
use Rattle.std.proofs.Common.{◌≡◌, ◌∙◌, ℕ, zero, suc, ◌+◌, ◌*◌, ◌<◌, ◌≤◌, ◌++◌, List, length, take, drop, sym, ap, append_assoc, arith}
use Rattle.std.proofs.lemmas.Grind.{common_steps}
use Rattle.std.proofs.lemmas.List.{length-append, length-take-le, take-append-drop, take-append-le}
use Rattle.jdwp_end.specs.Story.{Story, some_of, with_written, zero_of}

-- the first bytes of the piece in front are the first of all that waits
pub first-of-piece : (waits piece rest : List ℕ) (count : ℕ) → piece ++ rest ≡ waits → count ≤ length piece → take count piece ≡ take count waits
first-of-piece waits piece rest count whole within =
    sym (take-append-le count piece rest within) ∙ ap (λ (xs : List ℕ). take count xs) whole

pub within-all : (waits piece rest : List ℕ) (count : ℕ) → piece ++ rest ≡ waits → count ≤ length piece → count ≤ length waits
within-all waits piece rest count whole within =
    let long : length piece + length rest ≡ length waits = sym (length-append piece rest) ∙ ap length whole in
    omega (arith, within, long)

-- what has left, and then what waits
pub left-more : (all done waits after : List ℕ) (count : ℕ) → all ≡ done ++ waits → count ≤ length waits → after ≡ drop (length (take count waits)) waits → all ≡ (done ++ take count waits) ++ after
left-more all done waits after count e within left =
    let long : length (take count waits) ≡ count = length-take-le count waits within in
    let rest : after ≡ drop count waits = left ∙ ap (λ (n : ℕ). drop n waits) long in
    e
    ∙ (ap (λ (xs : List ℕ). done ++ xs) (sym (take-append-drop count waits))
    ∙ (sym (append_assoc done (take count waits) (drop count waits)) ∙ ap (λ (xs : List ℕ). (done ++ take count waits) ++ xs) (sym rest)))

-- what was written before, and then these bytes
pub written-more : (s t u : Story) (done piece more : List ℕ) (count : ℕ) → t ≡ with_written done s → 0 < count → take count piece ≡ more
    → u ≡ record t { written = t.written ++ take count piece; unflushed = t.unflushed ++ take count piece; failed_writes = t.failed_writes + some_of piece * zero_of count } → u ≡ with_written (done ++ more) s
written-more s t u done piece more zero before some same after = absurd (omega (arith, some))
written-more s t u done piece more (suc n) before some same after = rw (after, before, same) (grind (arith, common_steps, append_assoc))

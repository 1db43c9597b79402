-- Pieces of a buffer that is written behind them.
use Rattle.std.proofs.Common.{◌≡◌, ℕ, ◌<◌, ◌≤◌, ◌+◌, ◌-◌, List, [], ◌++◌, length, take, drop, sym, ap, ◌∙◌, arith, length-take, length-drop}
use Rattle.std.proofs.Math.Seq.{take-append-add}
use Rattle.std.proofs.lemmas.List.{drop-append-le, drop-drop, drop-take, take-append-le}
use Rattle.std.proofs.lemmas.Grind.{common_steps}
use Rattle.std.proofs.lemmas.List.Edits.{take-paste}
use Rattle.std.specs.List.{copy_within}
use Rattle.jdwp_relay.specs.declared.sides.Came.{Came}
use Rattle.jdwp_relay.specs.declared.sides.Came.TheVariants as came
use Rattle.jdwp_relay.specs.Flows.{Fits, Inflow, after_read, count_of}
use Rattle.jdwp_relay.specs.Passages.{Passage}
use Rattle.jdwp_relay.specs.Ducts.{ReadsMore}
use Rattle.jdwp_relay.specs.declared.duct.Stage.{Stage}
use Rattle.jdwp_show.specs.declared.capture_line.Sender.{Sender}
use Rattle.jdwp_relay.specs.Spans.{ReadsBehind, span}

pub length-span : (from to : ℕ) (bytes : List ℕ) → from ≤ to → to ≤ length bytes → length (span from to bytes) ≡ to - from
length-span from to bytes order within = grind (arith, common_steps)

-- what is kept of a buffer up to a place, from another on
front : (from to : ℕ) (old tail : List ℕ) → from ≤ to → to ≤ length old → drop from (take to old ++ tail) ≡ span from to old ++ tail
front from to old tail order within =
    let few : from ≤ length (take to old) = omega (arith, length-take to old) in
    let whole : from + (to - from) ≡ to = omega arith in
    drop-append-le from (take to old) tail few ∙ ap (λ xs. xs ++ tail) (ap (λ k. drop from (take k old)) (sym whole) ∙ drop-take from (to - from) old)

take_whole : (from to : ℕ) (bytes : List ℕ) → from ≤ to → to ≤ length bytes → take (to - from) (span from to bytes) ≡ span from to bytes
take_whole from to bytes order within = grind (arith, common_steps)

pub span_kept : (from to : ℕ) (old tail : List ℕ) → from ≤ to → to ≤ length old → span from to (take to old ++ tail) ≡ span from to old
span_kept from to old tail order within =
    let few : to - from ≤ length (span from to old) = omega (arith, length-span from to old order within) in
    ap (take (to - from)) (front from to old tail order within) ∙ take-append-le (to - from) (span from to old) tail few ∙ take_whole from to old order within

pub span_more : (from to n : ℕ) (old fresh rest : List ℕ) → from ≤ to → to ≤ length old → n ≤ length fresh → span from (to + n) (take to old ++ (fresh ++ rest)) ≡ span from to old ++ take n fresh
span_more from to n old fresh rest order within few =
    let many : to + n - from ≡ length (span from to old) + n = omega (arith, length-span from to old order within) in
    ap (take (to + n - from)) (front from to old (fresh ++ rest) order within) ∙ ap (λ k. take k (span from to old ++ (fresh ++ rest))) many
    ∙ take-append-add (span from to old) (fresh ++ rest) n ∙ ap (λ xs. span from to old ++ xs) (take-append-le n fresh rest few)

pub span_left : (from to n : ℕ) (bytes : List ℕ) → n ≤ to - from → span (from + n) to bytes ≡ drop n (span from to bytes)
span_left from to n bytes few =
    let m : ℕ = to - (from + n) in
    let whole : n + m ≡ to - from = omega arith in
    sym (ap (λ k. drop n (take k (drop from bytes))) (sym whole) ∙ (drop-take n m (drop from bytes) ∙ ap (take m) (drop-drop n from bytes)))

pub span_moved : (from to : ℕ) (bytes : List ℕ) → from ≤ to → to ≤ length bytes → span 0 (to - from) (copy_within bytes from to 0) ≡ span from to bytes
span_moved from to bytes order within =
    let few : to - from ≤ length (drop from bytes) = omega (arith, length-drop from bytes) in
    let same : to - from - 0 ≡ 0 + (to - from) = omega arith in
    ap (λ k. take k (copy_within bytes from to 0)) same ∙ take-paste bytes 0 (drop from bytes) (to - from) (omega arith) few

-- ---- one read

pub behind : (from to : ℕ) (old buffer rest : List ℕ) (before after : Inflow) (came : Came) → from ≤ to → to ≤ length old → Fits came (length buffer) → after ≡ after_read before came buffer
    → ReadsBehind from to old before came (take to old ++ (buffer ++ rest)) after
behind from to old buffer rest before after (came.Bytes n) order within fits is =
    let many : to + n ≤ length (take to old ++ (buffer ++ rest)) = grind (arith, common_steps) in
    let fresh : length (take n buffer) ≡ n = grind (arith, common_steps) in
    (take n buffer, fresh, fits.0, many, span_more from to n old buffer rest order within fits.1, is)
behind from to old buffer rest before after came.Nothing order within fits is = (span_kept from to old (buffer ++ rest) order within, is)
behind from to old buffer rest before after (came.Ended ending) order within fits is = (span_kept from to old (buffer ++ rest) order within, is)

-- no more came than there is room for
pub counted : (from to : ℕ) (old new : List ℕ) (before after : Inflow) (came : Came) → to ≤ length new → ReadsBehind from to old before came new after → to + count_of came ≤ length new
counted from to old new before after (came.Bytes n) within (fresh, many, some, fits, stands, is) = fits
counted from to old new before after came.Nothing within reads = omega arith
counted from to old new before after (came.Ended ending) within reads = omega arith

span_still : (from to : ℕ) (bytes : List ℕ) → span from (to + 0) bytes ≡ span from to bytes
span_still from to bytes = ap (λ k. take (k - from) (drop from bytes)) (omega arith)

abbrev pub passage_of : Sender → Stage → List ℕ → Passage
passage_of sender stage waiting = record { sender = sender; waiting = waiting; stage = stage }

pub read_more : (sender : Sender) (stage : Stage) (from to : ℕ) (waiting old new : List ℕ) (before after : Inflow) (came : Came) → span from to old ≡ waiting → ReadsBehind from to old before came new after
    → ReadsMore (record { sender = sender; waiting = waiting; stage = stage }) before came (record { sender = sender; waiting = span from (to + count_of came) new; stage = stage }) after
read_more sender stage from to waiting old new before after (came.Bytes n) same (fresh, many, some, fits, stands, is) = (
  fresh,
  many,
  record {
    some = omega (arith, many);
    waits = ap (passage_of sender stage) (stands ∙ ap (λ xs. xs ++ fresh) same);
    came = is;
  },
)
read_more sender stage from to waiting old new before after came.Nothing same (stands, is) =
    (ap (passage_of sender stage) (span_still from to new ∙ stands ∙ same), is)
read_more sender stage from to waiting old new before after (came.Ended ending) same (stands, is) =
    (ap (passage_of sender stage) (span_still from to new ∙ stands ∙ same), is)

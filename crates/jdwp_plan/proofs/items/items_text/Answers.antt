use Rattle.std.proofs.Common.{◌≡◌, ◌∙◌, ℕ, ◌-◌, List, length, length-drop, ap, take, take_all, drop, arith, string_bytes}
use Rattle.jdwp_layout.specs.Meanings.{meanings}
use Rattle.jdwp_show.specs.DataText.{data_text}
use Rattle.jdwp_plan.proofs.ShownLaws.{behind_start}
use Rattle.jdwp_plan.proofs.items.items_text.Goals as goal

pub returns : goal.returns
returns c =
    let behind : drop 19 (string_bytes c.in_ok-line.line) ≡ data_text (meanings c.args.data.now) = behind_start (string_bytes c.in_ok-line.line) (meanings c.args.data.now) c.in_ok-line.ensures in
    let bytes : List ℕ = c.as_bytes.result.now in
    let all : take (length bytes - 19) (drop 19 bytes) ≡ drop 19 bytes = take_all (length bytes - 19) (drop 19 bytes) (omega (arith, length-drop 19 bytes)) in
    c.in_ok-text.ensures.items ∙ all ∙ ap (λ (l : List ℕ). drop 19 l) c.as_bytes.ensures.value ∙ behind

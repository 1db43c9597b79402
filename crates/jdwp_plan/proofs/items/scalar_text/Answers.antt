use Rattle.std.proofs.Common.{◌≡◌, ◌∙◌, ℕ, ◌-◌, List, length, length-drop, ap, take, take_all, drop, arith, string_bytes}
use Rattle.jdwp_layout.specs.Meanings.{scalar_meaning}
use Rattle.jdwp_show.specs.DataText.{scalar_text}
use Rattle.jdwp_plan.proofs.ShownLaws.{behind_one}
use Rattle.jdwp_plan.proofs.items.scalar_text.Goals as goal

pub returns : goal.returns
returns c =
    let behind : drop 20 (string_bytes c.in_ok-line.line) ≡ scalar_text (scalar_meaning c.args.item) = behind_one (string_bytes c.in_ok-line.line) (scalar_meaning c.args.item) c.in_ok-line.ensures in
    let bytes : List ℕ = c.as_bytes.result.now in
    let all : take (length bytes - 20) (drop 20 bytes) ≡ drop 20 bytes = take_all (length bytes - 20) (drop 20 bytes) (omega (arith, length-drop 20 bytes)) in
    c.in_ok-text.ensures.items ∙ all ∙ ap (λ (l : List ℕ). drop 20 l) c.as_bytes.ensures.value ∙ behind

use Rattle.std.proofs.Common.{◌≡◌, ◌∙◌, ℕ, ◌-◌, List, length, length-drop, ap, sym, take, take_all, drop, arith, string_bytes, OnOk, Result}
use Rattle.std.proofs.lemmas.Result.{on_ok_weaker}
use Rattle.jdwp_layout.specs.Meanings.{meanings}
use Rattle.jdwp_show.specs.DataText.{data_text}
use Rattle.jdwp_text.proofs.ShownLaws.{behind_start}
use Rattle.jdwp_text.proofs.comparing.expect_shown.Goals as goal

weaker : {T E P Q : Type 0} (r : Result T E) → OnOk r P → (P → Q) → OnOk r Q
weaker r h f = on_ok_weaker r f h

pub returns-in-Ok : goal.returns-in-Ok
returns-in-Ok c =
    let behind : drop 19 (string_bytes c.in-Ok.line) ≡ data_text (meanings c.args.items.now) = behind_start (string_bytes c.in-Ok.line) (meanings c.args.items.now) c.in-Ok.ensures in
    let bytes : List ℕ = c.as_bytes.result.now in
    let all : take (length bytes - 19) (drop 19 bytes) ≡ drop 19 bytes = take_all (length bytes - 19) (drop 19 bytes) (omega (arith, length-drop 19 bytes)) in
    weaker c.expect_same.result c.expect_same.ensures (λ same. sym c.as_bytes-in-Ok.ensures.value ∙ same ∙ all ∙ ap (λ (l : List ℕ). drop 19 l) c.as_bytes.ensures.value ∙ behind)

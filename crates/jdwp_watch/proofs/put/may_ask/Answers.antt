use Rattle.std.proofs.Common.{◌≡◌, ◌∙◌, Bool, true, not, sym, ap}
use Rattle.std.specs.Prelude.{◌==◌, ◌&&◌, ◌||◌}
use Rattle.jdwp_action.specs.Actions.{action_of, carries_out, is_dispose, is_exit, is_implemented}
use Rattle.jdwp_layout.specs.CommandTable.{row_at}
use Rattle.jdwp_watch.specs.Ledgers.{is_end_kind}
use Rattle.jdwp_watch.proofs.Accounts.{end-kind}
use Rattle.jdwp_watch.proofs.put.may_ask.Goals as goal

pub returns-then-is_implemented : goal.returns-then-is_implemented
returns-then-is_implemented c =
    let command = c.args.command.now in
    let a = action_of command in
    let row : c.is_implemented.result ≡ is_implemented command =
    c.is_implemented.ensures ∙ (λ j. carries_out (row_at (c.set.ensures j) (c.number.ensures j)) && not (c.set.ensures j == 64)) in
    let is : is_implemented command ≡ true = sym row ∙ c.if-is_implemented.true in
    let end : c.ends.result ≡ (is_dispose a || is_exit a) = c.ends.ensures ∙ (ap is_end_kind c.kind.ensures ∙ end-kind a) in
    ap not end ∙ sym (ap (λ (b : Bool). b && not (is_dispose a || is_exit a)) is)

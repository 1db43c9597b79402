use Rattle.std.proofs.Common.{◌≡◌, ℕ, ◌==◌, Bool, List, None, Some, ap, if◌then◌else◌, length, rules}
use Rattle.std.proofs.lemmas.Bool.{eq-eqb}
use Rattle.jdwp_wire.specs.ErrorCodes.{NONE}
use Rattle.jdwp_wire.specs.Widths.{Widths}
use Rattle.jdwp_wire.specs.declared.error_code.ErrorCode.{ErrorCode}
use Rattle.jdwp_layout.specs.CommandTable.{row_at}
use Rattle.jdwp_layout.specs.declared.answer.Answer.TheVariants.{Error}
use Rattle.jdwp_action.specs.Actions.{Command}
use Rattle.jdwp_action.specs.RowLayouts.{row_reply}
use Rattle.jdwp_debugger.specs.declared.order.Order.{Order}
use Rattle.jdwp_debugger.specs.declared.order.Order.TheVariants.{One, Apart}
use Rattle.jdwp_debugger.specs.News.{answer_by, data_by}
use Rattle.jdwp_debugger.proofs.news.read_any_answer.Goals as goal

-- without an error the data are the answer, whatever the order
data-alone : (o : Order) (w : Widths) (c : Command) (e : ErrorCode) (bytes : List ℕ) → e.0 ≡ NONE.0 → answer_by o w c e bytes ≡ data_by w (row_reply (row_at c.set c.number)) bytes
data-alone One w c e bytes h =
    ap (λ (b : Bool). if b then data_by w (row_reply (row_at c.set c.number)) bytes else (if length bytes == 0 then Some (Error e) else None)) (eq-eqb e.0 NONE.0 h)
data-alone Apart w c e bytes h = ap (λ (b : Bool). if b then data_by w (row_reply (row_at c.set c.number)) bytes else Some (Error e)) (eq-eqb e.0 NONE.0 h)

pub returns-then-eq-clause-value : goal.returns-then-eq-clause-value
returns-then-eq-clause-value c =
    let none : c.args.error.0 ≡ NONE.0 = search rules in
    rw (data-alone c.args.order c.args.sizes.now c.args.command.now c.args.error c.args.bytes.now none) (search rules)

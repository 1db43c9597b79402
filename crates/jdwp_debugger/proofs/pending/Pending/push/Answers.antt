use Rattle.std.proofs.Common.{◌≡◌, ◌∙◌, ◌≤◌, ◌++◌, ◌∷◌, List, [], None, ap, arith, eqb, false, length, rules}
use Rattle.std.specs.Map.{lookup}
use Rattle.jdwp_debugger.specs.declared.pending.Asked as kept
use Rattle.jdwp_debugger.specs.Asking.{is_outstanding}
use Rattle.jdwp_debugger.specs.Debuggers.{Asked}
use Rattle.jdwp_debugger.specs.PendingKept.{KeepsNoSettled, asked_of, waiting_in}
use Rattle.jdwp_debugger.proofs.Settled.{bare_inserted, bare_none, none_waits, one_more, where_false}
use Rattle.jdwp_debugger.proofs.pending.Pending.push.Goals as goal
use Rattle.jdwp_debugger.proofs.pending.Pending.push.Goals.{then-is_settled, else-is_settled}

pub returns-in-Ok-clause-ok : goal.returns-in-Ok-clause-ok
returns-in-Ok-clause-ok c =
    let before = c.self.inside in
    let ready = c.if-is_settled.self-inside in
    let id = c.args.id in
    let asked : kept.Asked = record { ticket = c.args.ticket; command = c.args.command } in
    let free : is_outstanding (waiting_in before.settled before.commands.entries) id ≡ false = search rules in
    let none : lookup (eqb id) ready.commands.entries ≡ None = elim c.if-is_settled.branch [
      | then-is_settled w ↦ rw (w.self-inside-is, w.take_out.ensures.others) (none_waits before.settled id before.commands.entries free)
      | else-is_settled w ↦ rw w.self-inside-is (where_false c.is_settled.result w.if-is_settled.false c.is_settled.ensures)
    ] in
    let within : ready.settled ≤ length ready.commands.entries = elim c.if-is_settled.branch [
      | then-is_settled w ↦ rw (w.self-inside-is, w.take_out.ensures.none) (omega arith)
      | else-is_settled w ↦ rw w.self-inside-is c.self.invariant.0
    ] in
    let same : waiting_in ready.settled ready.commands.entries ≡ waiting_in before.settled before.commands.entries = elim c.if-is_settled.branch [
      | then-is_settled w ↦ rw w.self-inside-is (λ j. waiting_in (w.take_out.ensures.none j) (w.take_out.ensures.others j))
      | else-is_settled w ↦ ap (λ p. waiting_in p.settled p.commands.entries) w.self-inside-is
    ] in
    rw (← c.self.view_is) (
    ap (waiting_in ready.settled) (rw c.in-Ok.is at c.insert.ensures.entries)
    ∙ one_more ready.commands ready.settled id asked within none
    ∙ ap (λ (ps : List Asked). ps ++ asked_of (id, asked) ∷ []) same
    )

pub invariant_of-self : goal.invariant_of-self
invariant_of-self c =
    let before = c.self.inside in
    let ready = c.if-is_settled.self-inside in
    let id = c.args.id in
    let asked : kept.Asked = record { ticket = c.args.ticket; command = c.args.command } in
    let free : is_outstanding (waiting_in before.settled before.commands.entries) id ≡ false = search rules in
    let none : lookup (eqb id) ready.commands.entries ≡ None = elim c.if-is_settled.branch [
      | then-is_settled w ↦ rw (w.self-inside-is, w.take_out.ensures.others) (none_waits before.settled id before.commands.entries free)
      | else-is_settled w ↦ rw w.self-inside-is (where_false c.is_settled.result w.if-is_settled.false c.is_settled.ensures)
    ] in
    let keeps : KeepsNoSettled ready.settled ready.commands.entries = elim c.if-is_settled.branch [
      | then-is_settled w ↦ rw w.self-inside-is (bare_none w.take_out.new.settled w.take_out.new.commands.entries w.take_out.ensures.none)
      | else-is_settled w ↦ rw w.self-inside-is c.self.invariant
    ] in
    bare_inserted c.insert.result ready.commands c.insert.new.self.entries ready.settled id asked keeps none c.insert.ensures.entries c.insert.ensures.err

pub is_settled-requires : goal.is_settled-requires
is_settled-requires c = search rules

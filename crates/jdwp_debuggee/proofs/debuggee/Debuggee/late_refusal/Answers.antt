use Rattle.std.proofs.Common.{◌≡◌, map, subst}
use Rattle.std.specs.Prelude.{IfOk}
use Rattle.jdwp_event.specs.ModifierMeanings.{modifier_meaning}
use Rattle.jdwp_debuggee.specs.Debuggees.{Debuggee}
use Rattle.jdwp_debuggee.specs.Wants.{late_refusal}
use Rattle.jdwp_debuggee.proofs.debuggee.Debuggee.late_refusal.Goals as goal

pub returns-clause-value : goal.returns-clause-value
returns-clause-value g c =
    let m = g.M.Machine.meaning in
    let told = rw c.shape_refusal-last.ensures at c.modifiers_refusal.ensures.value in
    subst (λ (x : Debuggee g.row.M.Denot). IfOk c.modifiers_refusal.result (λ refusal. refusal ≡ late_refusal m x.moment c.args.kind (map modifier_meaning c.args.modifiers.now))) c.self.view_is told

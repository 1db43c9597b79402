use Rattle.std.proofs.Common.{sym, ap, ◌∙◌}
use Rattle.jdwp_wire.specs.Widths.{Widths}
use Rattle.jdwp_layout.specs.Meanings.{meanings}
use Rattle.jdwp_script.specs.Meanings.{script_part}
use Rattle.jdwp_script_machine.specs.InvocationAnswers.{method_invoked}
use Rattle.jdwp_script_machine.specs.Requests.{of_class}
use Rattle.jdwp_script_machine.proofs.Alone.{answers_asked, wants_asked}
use Rattle.jdwp_script_machine.proofs.invocation_answers.type_invoked.Goals as goal

pub returns-in-Ok : goal.returns-in-Ok
returns-in-Ok c =
    let same = ap (λ (w : Widths). of_class (script_part c.args.script.now) (method_invoked w) (meanings c.args.content.now)) (sym c.requires) ∙ c.in-Ok.ensures (method_invoked c.args.sizes.now) in
    record {
      value = answers_asked c.method_invoked.result _ _ same c.method_invoked.ensures.value;
      memory = wants_asked c.method_invoked.result _ _ same c.method_invoked.ensures.memory;
    }

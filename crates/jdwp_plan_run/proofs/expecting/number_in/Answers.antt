use Rattle.std.proofs.Common.{◌∙◌, arith, rules}
use Rattle.std.proofs.lemmas.Grind.{common_steps}
use Rattle.jdwp_plan.proofs.NumberLaws.{parsed}
use Rattle.jdwp_plan_run.proofs.expecting.number_in.Goals as goal

pub returns : goal.returns
returns c = c.ok.ensures.value ∙ parsed 64 c.args.text.now c.parse.result c.parse.ensures.value.0 (λ plus. first_of (search rules, grind (arith, common_steps)))

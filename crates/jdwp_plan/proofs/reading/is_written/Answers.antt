use Rattle.std.proofs.Common.{◌∙◌, [], refl, sym}
use Rattle.std.proofs.lemmas.Iterator.Consumers.{YieldsList-turn, YieldsList-end}
use Rattle.std.proofs.lemmas.Iterator.Splits.{YieldsList-from_lines}
use Rattle.std.specs.Str.Lines.{lines}
use Rattle.jdwp_plan.proofs.PlanLaws.{first_line, no_line}
use Rattle.jdwp_plan.proofs.reading.is_written.Goals as goal

pub returns-in-Some : goal.returns-in-Some
returns-in-Some c =
    let t = YieldsList-turn (YieldsList-from_lines c.args.text.now cc) [] _ refl _ _ c.in-Some.line c.in-Some.is c.next.ensures.steps in
    c.eq.ensures ∙ first_line (lines c.args.text.now) 0 c.in-Some.line.now refl t.0 t.1

pub returns-in-None : goal.returns-in-None
returns-in-None c =
    let t = YieldsList-end (YieldsList-from_lines c.args.text.now cc) [] _ refl _ _ c.in-None.is c.next.ensures.steps in
    no_line (lines c.args.text.now) (sym t.1)

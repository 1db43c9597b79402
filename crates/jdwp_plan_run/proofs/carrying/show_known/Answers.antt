use Rattle.std.proofs.Common.{◌≡◌, ℕ, List, arith, rules, string_bytes, subst}
use Rattle.std.proofs.lemmas.Grind.{common_steps}
use Rattle.std.specs.Prelude.{OnOk}
use Rattle.jdwp_plan_run.specs.RunsKept.{TellsText}
use Rattle.jdwp_plan_run.proofs.carrying.show_known.Goals as goal

pub returns-clause-ok : goal.returns-clause-ok
returns-clause-ok g c =
    let e : c.into_bytes.result.items ≡ string_bytes c.args.text = first_of (search rules, cc, grind (arith, common_steps)) in
    subst (λ (t : List ℕ). OnOk c.show_bytes.result (TellsText t c.args.run.now (g.W.Pipe.story c.args.out.now) c.show_bytes.new.run (g.W.Pipe.story c.show_bytes.new.out))) e
    c.show_bytes.ensures.ok

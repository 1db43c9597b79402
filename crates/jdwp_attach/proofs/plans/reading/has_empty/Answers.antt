use Rattle.std.proofs.Common.{◌∙◌, rules, tests}
use Rattle.std.proofs.lemmas.Iterator.{YieldsList-from_slice}
use Rattle.std.proofs.lemmas.Iterator.Search.{any_from_yields_List}
use Rattle.jdwp_attach.specs.Lines.{is_empty}
use Rattle.jdwp_attach.proofs.PlanLaws.{any_empty}
use Rattle.jdwp_attach.proofs.plans.reading.has_empty.Goals as goal

pub returns : goal.returns
returns c = any_from_yields_List (λ word. is_empty word.now) _ _ c.any.result c.any.ensures.ran (YieldsList-from_slice c.args.words.now cc) (λ x b q k. search (rules, tests)) ∙ any_empty c.args.words.now

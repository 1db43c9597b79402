use Rattle.jdwp_attach.proofs.FormLaws.{line_spells, spelled}
use Rattle.jdwp_attach.proofs.plans.laws.reads_each_form.Goals as goal

pub returns : goal.returns
returns c = λ line said. (λ h. line_spells line said h, λ h. spelled said line h)

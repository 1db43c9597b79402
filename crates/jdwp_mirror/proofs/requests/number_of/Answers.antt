use Rattle.std.proofs.Common.{ap, ◌∙◌}
use Rattle.std.proofs.Math.Facts.{to_z-of_z}
use Rattle.jdwp_mirror.specs.Rows.{number_in}
use Rattle.jdwp_mirror.proofs.requests.number_of.Goals as goal

pub returns : goal.returns
returns c = c.copied.ensures ∙ c.get.ensures.value ∙ ap (number_in c.args.numbers.now) (to_z-of_z c.ranges.id)

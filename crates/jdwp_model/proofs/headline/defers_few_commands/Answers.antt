use Rattle.jdwp_model.specs.Deferred.{DefersFew}
use Rattle.jdwp_model.proofs.Faultless.{always_whole, defers_few}
use Rattle.jdwp_model.proofs.headline.defers_few_commands.Goals as goal

pub returns : goal.returns
returns g c = always_whole g.M.Machine.meaning c.rests_on_laws.ensures DefersFew (defers_few g.M.Machine.meaning)

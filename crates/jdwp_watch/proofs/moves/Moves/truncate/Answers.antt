use Rattle.std.proofs.Common.{List, take, ap, ◌∙◌}
use Rattle.jdwp_watch.specs.declared.moves.Step.{Step}
use Rattle.jdwp_watch.specs.declared.standing.Change.{Change}
use Rattle.jdwp_watch.specs.Drifts.{ones_of}
use Rattle.jdwp_watch.proofs.Moving.{ones-take, taken-joined}
use Rattle.jdwp_watch.proofs.moves.Moves.truncate.Goals as goal

pub invariant_of-self : goal.invariant_of-self
invariant_of-self c = taken-joined c.self.inside.steps.items c.truncate.new.self.items c.args.count c.self.invariant c.truncate.ensures.items

pub returns : goal.returns
returns c =
    ap (λ (steps : List Step). ones_of steps) c.truncate.ensures.items ∙ (ones-take c.args.count c.self.inside.steps.items ∙ ap (λ (cs : List Change). take c.args.count cs) c.self.view_is)

use Rattle.levels.proofs.Removing.{none-right}
use Rattle.levels.proofs.counts.Counts.remove_all.Goals as goal

pub invariant_of-self : goal.invariant_of-self
invariant_of-self c = rw (c.remove_all.ensures, c.remove_all-2.ensures) (none-right c.self.inside.base c.self.invariant.based)

use Rattle.std.proofs.Common.{refl}
use Rattle.jdwp_engine.specs.Rounds.{id_in}
use Rattle.jdwp_engine.proofs.Ahead.{ahead-of}
use Rattle.jdwp_engine.proofs.walk.rising_place.Goals as goal

pub returns-then-is_rising : goal.returns-then-is_rising
returns-then-is_rising c = ahead-of c.args.threads.now (id_in c.args.last) c.passed-place.result c.passed-place.ensures.below (c.if-is_rising.ensures refl)

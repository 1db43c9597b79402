use Rattle.std.proofs.Common.{refl}
use Rattle.jdwp_recording.proofs.DirectionLaws.{next_none, next_some}
use Rattle.jdwp_recording.proofs.direction.Direction.next.Goals as goal

pub returns-clause-some : goal.returns-clause-some
returns-clause-some c = next_some c.next.result c.args.self.now _ c.next.ensures.some refl

pub returns-clause-none : goal.returns-clause-none
returns-clause-none c = next_none c.next.result _ c.next.ensures.none

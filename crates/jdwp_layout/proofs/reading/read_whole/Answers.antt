use Rattle.std.proofs.Common.{length}
use Rattle.std.proofs.Math.Facts.{Fits-lt-pow}
use Rattle.jdwp_layout.specs.Shapes.{shapes}
use Rattle.jdwp_layout.specs.Meanings.{meanings}
use Rattle.jdwp_layout.proofs.GrammarLaws.{rest_within}
use Rattle.jdwp_layout.proofs.reading.read_whole.Goals as goal

pub overflow_sub-result : goal.overflow_sub-result
overflow_sub-result c = rest_within c.args.sizes.now (length c.args.bytes.now) (shapes c.args.items.now) c.args.bytes.now (meanings c.in_ok-held.held.items) c.in_ok-held.rest.now (λ i. Fits-lt-pow (c.type_inv.bytes i)) c.in_ok-held.ensures.value

use Rattle.std.proofs.Math.Facts.{Fits-lt-pow}
use Rattle.jdwp_layout.specs.Shapes.{entry_shape}
use Rattle.jdwp_layout.proofs.Entries.{is_shorter}
use Rattle.jdwp_layout.proofs.entry.read_entry.Goals as goal

pub returns-clause-shorter : goal.returns-clause-shorter
returns-clause-shorter c = is_shorter c.args.sizes.now c.args.whole (entry_shape c.args.entry) c.args.rest.now c.take_entry.result (λ i. Fits-lt-pow (c.type_inv.rest i)) c.take_entry.ensures.value

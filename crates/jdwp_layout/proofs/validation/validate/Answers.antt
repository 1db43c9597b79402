use Rattle.std.proofs.Common.{rules}
use Rattle.std.proofs.Math.Facts.{Fits-lt-pow}
use Rattle.jdwp_layout.specs.Shapes.{shape}
use Rattle.jdwp_layout.proofs.GrammarLaws.{is_accepted, is_first}
use Rattle.jdwp_layout.proofs.validation.validate.Goals as goal

pub returns-clause-accepted : goal.returns-clause-accepted
returns-clause-accepted c = is_accepted c.args.sizes.now (shape c.args.layout.now) c.args.bytes.now c.skip_whole.result (λ i. Fits-lt-pow (c.type_inv.bytes i)) c.skip_whole.ensures.value

pub returns-clause-fault : goal.returns-clause-fault
returns-clause-fault c = is_first c.args.sizes.now (shape c.args.layout.now) c.args.bytes.now c.skip_whole.result (λ i. Fits-lt-pow (c.type_inv.bytes i)) c.skip_whole.ensures.value

pub returns-clause-value : goal.returns-clause-value
returns-clause-value c = search rules

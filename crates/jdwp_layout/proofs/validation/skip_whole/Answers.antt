use Rattle.std.proofs.Common.{length, sym, ◌∙◌}
use Rattle.std.proofs.Math.Facts.{Fits-lt-pow}
use Rattle.jdwp_layout.specs.Shapes.{shapes}
use Rattle.jdwp_layout.specs.Reads.{items_at}
use Rattle.jdwp_wire.proofs.Passed.{value_of}
use Rattle.jdwp_layout.proofs.GrammarLaws.{rest_within, whole_read}
use Rattle.jdwp_layout.proofs.validation.skip_whole.Goals as goal

pub overflow_sub-result : goal.overflow_sub-result
overflow_sub-result c =
    let whole = length c.args.bytes.now in
    let x = value_of (items_at c.args.sizes.now whole (shapes c.args.items.now) c.args.bytes.now) c.in_ok-rest.rest.now c.in_ok-rest.ensures.value in
    rest_within c.args.sizes.now whole (shapes c.args.items.now) c.args.bytes.now x.0 c.in_ok-rest.rest.now (λ i. Fits-lt-pow (c.type_inv.bytes i)) x.1

pub returns-clause-value : goal.returns-clause-value
returns-clause-value c =
    let whole = length c.args.bytes.now in
    let x = value_of (items_at c.args.sizes.now whole (shapes c.args.items.now) c.args.bytes.now) c.in_ok-rest.rest.now c.in_ok-rest.ensures.value in
    (x.0, whole_read c.args.sizes.now (shapes c.args.items.now) c.args.bytes.now x.0 c.in_ok-rest.rest.now x.1 (sym c.is_empty.ensures ∙ c.if-not-is_empty.false))

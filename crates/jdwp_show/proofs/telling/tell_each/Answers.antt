use Rattle.std.proofs.Common.{◌<◌, length, refl, get_or, arith}
use Rattle.jdwp_wire.proofs.Passed.{each_at_place}
use Rattle.jdwp_layout.specs.declared.item.Field.TheVariants as field
use Rattle.jdwp_layout.specs.Reads.{field_at}
use Rattle.jdwp_show.specs.DataText.{listed, scalar_text, separator}
use Rattle.jdwp_show.proofs.TextLemmas.{listed-push}
use Rattle.jdwp_show.proofs.TellingLemmas.{told_none, each_told, each_told_end}
use Rattle.jdwp_show.proofs.telling.tell_each.Goals as goal

pub loop-index-init : goal.loop-index-init
loop-index-init c = told_none (listed scalar_text) _ _ refl

pub loop-index-preserved : goal.loop-index-preserved
loop-index-preserved c =
    let fields = c.args.fields.now in
    let i = c.loop-index.index in
    let lt : i < length fields = omega arith in
    each_told scalar_text separator (listed scalar_text) (listed-push scalar_text) (field_at c.args.sizes.now c.args.whole) fields (get_or fields i field.Byte) i c.loop-index.rest.now c.in_ok-after.after.now _ _ _ _ _
    lt (each_at_place fields i field.Byte lt) c.push_separator.ensures c.in_ok-after.ensures c.loop-index.invariant

pub returns : goal.returns
returns c = each_told_end (listed scalar_text) (field_at c.args.sizes.now c.args.whole) c.args.fields.now c.loop-index.index c.loop-index.rest.now _ _ _ (omega arith) c.loop-index.invariant

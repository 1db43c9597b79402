use Rattle.std.proofs.lemmas.Result.{IfOk-weaker}
use Rattle.jdwp_value.specs.Regions.{region_at}
use Rattle.jdwp_layout.specs.Shapes.{entry_shape}
use Rattle.jdwp_layout.specs.Reads.{field_at, entry_at}
use Rattle.jdwp_show.proofs.TellingLemmas.{one_item, list_told, region_told}
use Rattle.jdwp_show.proofs.telling.tell_item.Goals as goal

pub returns-in-One : goal.returns-in-One
returns-in-One c = rw c.in-One.is (IfOk-weaker c.tell_field.result _ _ (λ after told. one_item (field_at c.args.sizes.now c.args.whole c.in-One.field) c.args.text.now _ c.args.rest.now after.now told) c.tell_field.ensures)

pub returns-in_ok-rest-in-Many : goal.returns-in_ok-rest-in-Many
returns-in_ok-rest-in-Many c =
    let told = list_told (entry_at c.args.sizes.now c.args.whole (entry_shape c.in-Many.entry)) c.args.whole c.in_ok-count-in-Many.count c.args.text.now _ _ _ c.args.rest.now c.in_ok-count-in-Many.rest.now c.in_ok-rest-in-Many.rest.now
    c.in_ok-count-in-Many.ensures.value c.push_str.ensures.grows c.in_ok-rest-in-Many.ensures c.push_str-in-Many.ensures.grows in
    rw c.in-Many.is told

pub returns-in_ok-region-in-Region : goal.returns-in_ok-region-in-Region
returns-in_ok-region-in-Region c = rw c.in-Region.is (region_told (region_at c.args.sizes.now c.args.whole) _ c.args.text.now _ c.args.rest.now _ c.in_ok-region-in-Region.ensures.value c.push_region.ensures)

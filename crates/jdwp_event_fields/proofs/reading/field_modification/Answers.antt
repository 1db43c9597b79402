use Rattle.std.proofs.Common.{◌∷◌, List, ap, arith, rules, ◌∙◌}
use Rattle.std.proofs.Math.Facts.{to_z-of_z}
use mir.Syntax.{w32}
use mir.Val.{SFits}
use Rattle.jdwp_layout.specs.EventKindNumbers as number
use Rattle.jdwp_layout.specs.Meanings.{ScalarMeaning, Byte, Int}
use Rattle.jdwp_event_fields.proofs.Parts.{first_means, nothing_left}
use Rattle.jdwp_event_fields.proofs.reading.field_modification.Goals as goal

pub returns : goal.returns
returns c =
    let xs = c.args.fields.now in
    let fits : SFits w32 c.in_ok-int_in.field-0 = search rules in
    ap (λ (l : List ScalarMeaning). Byte number.FIELD_MODIFICATION ∷ l) (
    first_means xs 0 c.request-item.result _ _ (omega arith) c.request-item.is (ap (λ z. Int z) (to_z-of_z fits) ∙ c.in_ok-int_in.ensures) (
    first_means xs 1 c.thread-item.result _ _ (omega arith) c.thread-item.is c.in_ok-object_in.ensures (
    first_means xs 2 c.location-item.result _ _ (omega arith) c.location-item.is c.in_ok-location_in.ensures (
    first_means xs 3 c.ref_type_tag-item.result _ _ (omega arith) c.ref_type_tag-item.is c.in_ok-byte_in.ensures (
    first_means xs 4 c.type_id-item.result _ _ (omega arith) c.type_id-item.is c.in_ok-type_in.ensures (
    first_means xs 5 c.field_id-item.result _ _ (omega arith) c.field_id-item.is c.in_ok-field_in.ensures (
    first_means xs 6 c.object-item.result _ _ (omega arith) c.object-item.is c.in_ok-tagged_in.ensures (
    first_means xs 7 c.value_to_be-item.result _ _ (omega arith) c.value_to_be-item.is c.in_ok-value_in.ensures (
    nothing_left xs 8 (omega arith))))))))))

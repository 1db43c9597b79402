-- The reader of array regions gives exactly what bytes encode.
use Rattle.std.specs.Prelude.{◌≡◌, ℕ, List, [], ◌∷◌, Bool, true, false, None, refl}
use Rattle.jdwp_wire.specs.declared.data_fault.DataFault.TheVariants.{BadTag}
use Rattle.jdwp_wire.specs.Widths.{Widths}
use Rattle.jdwp_wire.specs.ListedLaws.{list_codes, list_unrefused}
use Rattle.jdwp_wire.specs.Codes.{Codes, seq_codes, unless_codes, mapped_codes, codes_as}
use Rattle.jdwp_value.specs.declared.tag.Tag.{Tag}
use Rattle.jdwp_value.specs.declared.value.Value.{Value}
use Rattle.jdwp_value.specs.Tags.{tag_byte}
use Rattle.jdwp_value.specs.TagLaws.{tag_codes}
use Rattle.jdwp_value.specs.Values.{value_refusal, is_object, is_void}
use Rattle.jdwp_value.specs.ValueLaws.{untagged_codes, object_value_codes, untagged_unrefused, value_unrefused}
use Rattle.jdwp_value.specs.Regions.{Region, EncodesElementBy, ElementFaultBy, EncodesElement, ElementFault, EncodesRegion, region_refusal, RegionFault, element_by, element_at, region_of, region_at}

element_codes_by : (b : Bool) (w : Widths) (whole : ℕ) (t : Tag) → Codes (element_by b w whole t) (EncodesElementBy b w t) (ElementFaultBy b w whole t)
element_codes_by true w whole t = object_value_codes w whole
element_codes_by false w whole t = untagged_codes w whole t

pub element_codes : (w : Widths) (whole : ℕ) (t : Tag) → Codes (element_at w whole t) (EncodesElement w t) (ElementFault w whole t)
element_codes w whole t = element_codes_by (is_object t) w whole t

element_unrefused_by : (b : Bool) (w : Widths) (t : Tag) (code : List ℕ) (v : Value) → EncodesElementBy b w t v code → value_refusal w v ≡ None
element_unrefused_by true w t code v (is, s) = value_unrefused w code v s
element_unrefused_by false w t code v (is, s) = untagged_unrefused w code v s

pub element_unrefused : (w : Widths) (t : Tag) (code : List ℕ) (v : Value) → EncodesElement w t v code → value_refusal w v ≡ None
element_unrefused w t code v s = element_unrefused_by (is_object t) w t code v s

pub region_codes : (w : Widths) (whole : ℕ) → Codes (region_at w whole) (EncodesRegion w) (RegionFault w whole)
region_codes w whole = codes_as (EncodesRegion w)
    (λ r code (t, front, back, front-is, (full, (vs, is, s)), e). rw is (full, back, s, rw (e, front-is) refl))
    (λ r code (full, items, s, e). (r.tag, tag_byte r.tag ∷ [], items, refl, (full, (r.elements, refl, s)), e))
    (seq_codes (tag_codes whole) (λ t. unless_codes (is_void t) BadTag (λ full. mapped_codes (region_of t) (list_codes (element_codes w whole t) whole))))

pub region_unrefused : (w : Widths) (code : List ℕ) (r : Region) → EncodesRegion w r code → region_refusal w r ≡ None
region_unrefused w code r (full, items, s, e) = list_unrefused (EncodesElement w r.tag) (value_refusal w) (element_unrefused w r.tag) items r.elements s

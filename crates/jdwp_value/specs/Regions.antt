-- Array regions (JDWP specification, "Data Types", arrayregion): a tag, a count and the elements. Elements without
-- references have no tags of their own; objects are tagged values, with the tags of objects alone.
use Rattle.std.specs.Prelude.{◌≡◌, ℕ, ◌+◌, ◌≤◌, ◌<◌, ◌==◌, List, ◌∷◌, ◌++◌, Bool, true, false, Option, if◌then◌else◌}
use Rattle.std.specs.List.{list_all}
use Rattle.byteorder.specs.Endian.{big_bytes}
use Rattle.jdwp_wire.specs.declared.data_fault.DataFault.{DataFault}
use Rattle.jdwp_wire.specs.declared.data_fault.DataFault.TheVariants.{BadTag}
use Rattle.jdwp_wire.specs.Widths.{Widths}
use Rattle.jdwp_wire.specs.Reading.{Reader, Encoding, Faults, BeginsWith}
use Rattle.jdwp_wire.specs.Sequence.{seq, FirstFault, mapped, unless, UnlessFault}
use Rattle.jdwp_wire.specs.Numbers.{greatest_int, NumberFault}
use Rattle.jdwp_wire.specs.Listed.{list_at, EncodesList, list_canonical, ListFault, list_refusal}
use Rattle.jdwp_value.specs.declared.tag.Tag.{Tag}
use Rattle.jdwp_value.specs.declared.value.Value.{Value}
use Rattle.jdwp_value.specs.declared.value.Value.TheVariants as value
use Rattle.jdwp_value.specs.Tags.{tag_byte, EncodesTag, TagFault, tag_at}
use Rattle.jdwp_value.specs.Values.{TaggedIdFault, tagged_id_at, tag_of, width_of, is_object, is_void, Untagged, untagged_canonical, ObjectValue, value_canonical, value_refusal, untagged_at}

-- a region: its tag and its elements
pub record Region : Type 0 where
  pub tag : Tag
  pub elements : List Value

-- whether a value may be an element: for an object's tag any object, else a value of this very tag
abbrev pub may_stand : Tag → Value → Bool
may_stand t v = if is_object t then is_object (tag_of v) else (tag_byte (tag_of v) == tag_byte t)

-- a region that there may be: of another tag than V, with elements that fit it
abbrev pub is_region : Tag → List Value → Bool
is_region t vs = if is_void t then false else list_all (may_stand t) vs

-- ---- an element, by whether the region is of objects

abbrev pub EncodesElementBy : Bool → Widths → Tag → Encoding Value
EncodesElementBy true w t = ObjectValue w
EncodesElementBy false w t = Untagged w t

abbrev pub EncodesElement : Widths → Tag → Encoding Value
EncodesElement w t = EncodesElementBy (is_object t) w t

abbrev pub element_canonical_by : Bool → Widths → Value → List ℕ
element_canonical_by true w = value_canonical w
element_canonical_by false w = untagged_canonical w

abbrev pub element_canonical : Widths → Tag → Value → List ℕ
element_canonical w t = element_canonical_by (is_object t) w

-- how many bytes an element has
abbrev pub element_width_by : Bool → Widths → Tag → ℕ
element_width_by true w t = 1 + width_of w t
element_width_by false w t = width_of w t

abbrev pub element_width : Widths → Tag → ℕ
element_width w t = element_width_by (is_object t) w t

abbrev pub ElementFaultBy : Bool → Widths → ℕ → Tag → Faults
ElementFaultBy true w whole t = TaggedIdFault w whole
ElementFaultBy false w whole t = NumberFault (width_of w t) whole

abbrev pub ElementFault : Widths → ℕ → Tag → Faults
ElementFault w whole t = ElementFaultBy (is_object t) w whole t

-- ---- the region

abbrev pub EncodesRegion : Widths → Encoding Region
EncodesRegion w r code =
    (is_void r.tag ≡ false) × (items : List ℕ) × EncodesList (EncodesElement w r.tag) r.elements items × (code ≡ tag_byte r.tag ∷ items)

-- a tag and a count stand in front, and behind them at least one element, which has to be kept
abbrev pub RegionIsKept : Widths → List ℕ → Type 0
RegionIsKept w bytes =
    (t : Tag) × (n : ℕ) × (items : List ℕ) × (is_void t ≡ false) × (0 < n) × (n ≤ greatest_int) × (bytes ≡ tag_byte t ∷ (big_bytes 4 n ++ items)) × BeginsWith (EncodesElement w t) items

abbrev pub region_canonical : Widths → Region → List ℕ
region_canonical w r = tag_byte r.tag ∷ list_canonical (element_canonical w r.tag) r.elements

abbrev pub region_refusal : Widths → Region → Option DataFault
region_refusal w r = list_refusal (value_refusal w) r.elements

-- The tag is at fault, or it is V, or the list that follows it is at fault.
abbrev pub RegionFault : Widths → ℕ → Faults
RegionFault w whole = FirstFault EncodesTag (TagFault whole) (λ t.
    UnlessFault (is_void t) BadTag (ListFault (EncodesElement w t) (ElementFault w whole t) whole))

-- ---- the same as a function

abbrev pub element_by : Bool → Widths → ℕ → Tag → Reader Value
element_by true w whole t = mapped (λ x. value.Object x) (tagged_id_at w whole)
element_by false w whole t = untagged_at w whole t

abbrev pub element_at : Widths → ℕ → Tag → Reader Value
element_at w whole t = element_by (is_object t) w whole t

abbrev pub region_of : Tag → List Value → Region
region_of t vs = record { tag = t; elements = vs }

abbrev pub region_at : Widths → ℕ → Reader Region
region_at w whole = seq (tag_at whole) (λ t. unless (is_void t) BadTag (mapped (region_of t) (list_at (element_at w whole t) whole)))

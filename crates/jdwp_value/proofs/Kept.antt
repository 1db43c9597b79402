-- Of a region that is read: what has to be kept, and what follows it.
use Rattle.std.proofs.Common.{◌≡◌, ◌<◌, ℕ, List, ◌∷◌, ◌++◌, false, Ok, ◌∙◌, ap}
use Rattle.jdwp_wire.specs.Widths.{Widths}
use Rattle.jdwp_wire.specs.Bytes.{IsBytes}
use Rattle.jdwp_wire.specs.Reading.{BeginsWith, passed}
use Rattle.jdwp_wire.specs.Numbers.{count_at}
use Rattle.jdwp_wire.specs.NumberLaws.{count_codes}
use Rattle.jdwp_wire.specs.Each.{times_at}
use Rattle.jdwp_wire.proofs.Passed.{passed_mapped}
use Rattle.jdwp_wire.specs.Codes.{IsBytes-rest}
use Rattle.jdwp_value.specs.declared.tag.Tag.{Tag}
use Rattle.jdwp_value.specs.Tags.{tag_byte, tag_at}
use Rattle.jdwp_value.specs.TagLaws.{tag_codes}
use Rattle.jdwp_value.specs.Values.{is_void}
use Rattle.jdwp_value.specs.Regions.{EncodesElement, element_at, region_of, region_at, RegionIsKept}

pub region_is_kept : (w : Widths) (whole : ℕ) (bytes : List ℕ) (t : Tag) (behind : List ℕ) (n : ℕ) (items : List ℕ) → IsBytes bytes → tag_at whole bytes ≡ Ok (t, behind) → is_void t ≡ false
    → count_at whole behind ≡ Ok (n, items) → (0 < n) × BeginsWith (EncodesElement w t) items → RegionIsKept w bytes
region_is_kept w whole bytes t behind n items fits tag full count (some, first) =
    let a = (tag_codes whole).found bytes t behind fits tag in
    let b = (count_codes whole).found behind n items (IsBytes-rest a.0 behind bytes a.2 fits) count in
    let parts : bytes ≡ tag_byte t ∷ behind = a.2 ∙ ap (λ (x : List ℕ). x ++ behind) a.1 in
    (t, n, items, full, some, b.1.0, parts ∙ ap (λ (x : List ℕ). tag_byte t ∷ x) (b.2 ∙ ap (λ (x : List ℕ). x ++ items) b.1.1), first)

pub region_passes : (w : Widths) (whole : ℕ) (bytes : List ℕ) (t : Tag) (behind : List ℕ) (n : ℕ) (items : List ℕ) → tag_at whole bytes ≡ Ok (t, behind) → is_void t ≡ false → count_at whole behind ≡ Ok (n, items)
    → passed (region_at w whole bytes) ≡ passed (times_at (element_at w whole t) n items)
region_passes w whole bytes t behind n items tag full count = rw (tag, full, count) (passed_mapped (region_of t) (times_at (element_at w whole t) n items))

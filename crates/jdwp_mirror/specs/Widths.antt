-- The widths of ids that the answer to IDSizes tells (section "VirtualMachine Command Set", command IDSizes).
use Rattle.std.specs.Prelude.{ℕ, pos, List, [], ◌∷◌, Option, Some, None, if◌then◌else◌}
use Rattle.jdwp_wire.specs.Widths.{Widths}
use Rattle.jdwp_layout.specs.declared.answer.Answer.{Answer}
use Rattle.jdwp_layout.specs.declared.answer.Answer.TheVariants.{Data, Error}
use Rattle.jdwp_layout.specs.Meanings.{Int, DatumMeaning, One}
use Rattle.jdwp_mirror.specs.Faults.{are_widths}

abbrev pub width_said : DatumMeaning → ℕ
width_said (One (Int (pos n))) = n
width_said item = 0

abbrev pub widths_said : List DatumMeaning → Option Widths
widths_said (a ∷ b ∷ c ∷ d ∷ e ∷ []) =
    Some (record { field = width_said a; method = width_said b; object = width_said c; reference = width_said d; frame = width_said e })
widths_said content = None

-- the widths that these data are
abbrev pub widths_if : List DatumMeaning → Option Widths
widths_if content = if are_widths content then widths_said content else None

-- the widths in the answer to IDSizes
abbrev pub widths_in : Answer → Option Widths
widths_in (Data content) = widths_if content
widths_in (Error e) = None

-- How many bytes an id has (JDWP specification, "Data Types": each size is specific to the target VM, up to 8 bytes).
use Rattle.std.specs.Prelude.{ℕ, ◌≤◌}
use Rattle.jdwp_wire.specs.declared.id_sizes.IdKind.{IdKind}
use Rattle.jdwp_wire.specs.declared.id_sizes.IdKind.TheVariants as kind

-- the width of each kind of id, in the order of the IDSizes reply
pub record Widths : Type 0 where
  pub field : ℕ
  pub method : ℕ
  pub object : ℕ
  pub reference : ℕ
  pub frame : ℕ

-- a width that an id may have
abbrev pub IsWidth : ℕ → Type 0
IsWidth n = (1 ≤ n) × (n ≤ 8)

-- widths that all ids may have
pub record AreWidths (field method object reference frame : ℕ) : Type 0 where
  pub field_is : IsWidth field
  pub method_is : IsWidth method
  pub object_is : IsWidth object
  pub reference_is : IsWidth reference
  pub frame_is : IsWidth frame

-- the width of the ids of a kind
abbrev pub width_of : Widths → IdKind → ℕ
width_of w kind.Field = w.field
width_of w kind.Method = w.method
width_of w kind.Object = w.object
width_of w kind.ReferenceType = w.reference
width_of w kind.Frame = w.frame

-- A row of the table of commands, apart from where it lies in memory.
use Rattle.std.specs.Prelude.{ℕ, ◌==◌, List, [], ◌∷◌, Bool, true, false, Option, Some, None, if◌then◌else◌}
use Rattle.std.specs.Borrow.{Bor}
use Rattle.jdwp_layout.specs.declared.command.Layouts.{Layouts}
use Rattle.jdwp_layout.specs.declared.command.CommandRow.{CommandRow}
use Rattle.jdwp_layout.specs.Shapes.{ItemShape, shape}

pub record RowShapes : Type 0 where
  pub request : List ItemShape
  pub reply : List ItemShape

-- The names are bytes of UTF-8. A raw row has no shapes.
pub record Row : Type 0 where
  pub set_name : List ℕ
  pub name : List ℕ
  pub shapes : Option RowShapes
  pub starred : Bool

abbrev pub row_shapes : Option Layouts → Option RowShapes
row_shapes None = None
row_shapes (Some layouts) = Some (record { request = shape layouts.request; reply = shape layouts.reply })

abbrev pub row : CommandRow → Row
row r = record { set_name = r.set_name.now; name = r.name.now; shapes = row_shapes r.layouts; starred = r.starred }

-- the row that was found
abbrev pub found_row : Option (Bor CommandRow) → Option Row
found_row None = None
found_row (Some r) = Some (row r.now)

-- ---- the three kinds of rows

-- the target answers the command
abbrev pub answered : List ℕ → List ℕ → List ItemShape → List ItemShape → Row
answered set_name name request reply = record { set_name = set_name; name = name; shapes = Some (record { request = request; reply = reply }); starred = false }

-- the target does not implement the command
abbrev pub starred : List ℕ → List ℕ → List ItemShape → List ItemShape → Row
starred set_name name request reply = record { set_name = set_name; name = name; shapes = Some (record { request = request; reply = reply }); starred = true }

-- the data are not read
abbrev pub raw : List ℕ → List ℕ → Row
raw set_name name = record { set_name = set_name; name = name; shapes = None; starred = false }

-- ---- looking up

-- what stands under the number, if anything does
abbrev pub look_up : {A : Type 0} → ℕ → List (ℕ × A) → Option A
look_up number [] = None
look_up number (entry ∷ entries) = if number == entry.0 then Some entry.1 else look_up number entries

-- the row of the command in a set that was found
abbrev pub row_in : ℕ → Option (List (ℕ × Row)) → Option Row
row_in command None = None
row_in command (Some rows) = look_up command rows

-- The layout of a command's reply in the table of commands.
use Rattle.std.specs.Prelude.{ℕ, List, [], Option, Some, None}
use Rattle.jdwp_layout.specs.CommandTable.{row_at}
use Rattle.jdwp_layout.specs.Rows.{Row, RowShapes}
use Rattle.jdwp_layout.specs.Shapes.{ItemShape}

abbrev pub reply_where : Option RowShapes → List ItemShape
reply_where None = []
reply_where (Some shapes) = shapes.reply

abbrev pub reply_in : Option Row → List ItemShape
reply_in None = []
reply_in (Some row) = reply_where row.shapes

-- none where the table has no such command, or its data are not read
abbrev pub reply_of : ℕ → ℕ → List ItemShape
reply_of set number = reply_in (row_at set number)

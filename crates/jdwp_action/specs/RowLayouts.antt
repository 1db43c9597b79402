-- The layouts of a command's request and reply, by its row of the table.
use Rattle.std.specs.Prelude.{List, [], Option, Some, None}
use Rattle.jdwp_layout.specs.Rows.{Row, RowShapes}
use Rattle.jdwp_layout.specs.Shapes.{ItemShape, shape}
use Rattle.jdwp_layout.specs.declared.item.Layout.{Layout}

abbrev pub shapes_request : Option RowShapes → List ItemShape
shapes_request None = []
shapes_request (Some shapes) = shapes.request

-- the layout of a row's request
abbrev pub row_request : Option Row → List ItemShape
row_request None = []
row_request (Some row) = shapes_request row.shapes

-- the layout of a row's reply
abbrev pub shapes_reply : Option RowShapes → Option (List ItemShape)
shapes_reply None = None
shapes_reply (Some shapes) = Some shapes.reply

abbrev pub row_reply : Option Row → Option (List ItemShape)
row_reply None = None
row_reply (Some row) = shapes_reply row.shapes

-- ---- in code

abbrev pub found_layout : Option Layout → Option (List ItemShape)
found_layout None = None
found_layout (Some layout) = Some (shape layout)

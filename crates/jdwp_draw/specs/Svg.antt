-- A picture as a document of SVG (Scalable Vector Graphics 1.1), which is XML in UTF-8.
use Rattle.std.specs.Prelude.{ℕ, ◌+◌, ◌-◌, nat_le, List, ◌++◌, length, take, drop, Option, None, if◌then◌else◌, codes, decimal}
use Rattle.jdwp_show.specs.declared.capture_fault.CaptureFault.{CaptureFault}
use Rattle.jdwp_draw.specs.declared.columns.Column.{Column}
use Rattle.jdwp_draw.specs.Columns.{columns_of}
use Rattle.jdwp_draw.specs.Elements.{rows_from, fault_text, heads_from}
use Rattle.jdwp_draw.specs.Layout.{row_top, column_left}
use Rattle.jdwp_draw.specs.Pictures.{RowMeaning, PictureMeaning}

-- its size, for so many rows and columns: there is room for a fault below the rows
abbrev pub size_text : ℕ → ℕ → List ℕ
size_text rows columns =
    codes "width=\"" ++ decimal (column_left columns + 20) ++ codes "\" height=\"" ++ decimal (row_top rows + 60) ++ codes "\" viewBox=\"0 0 " ++ decimal (column_left columns + 20) ++ codes " " ++ decimal (row_top rows + 60) ++ codes "\""

abbrev pub opening_text : ℕ → ℕ → List ℕ
opening_text rows columns = codes "<svg xmlns=\"http://www.w3.org/2000/svg\" " ++ size_text rows columns ++ codes " font-family=\"monospace\" font-size=\"12\">\n"

-- how things of each class look
abbrev pub STYLE : List ℕ
STYLE =
    codes "<style>.a{stroke:#000;fill:none}.d{stroke:#000;fill:none;stroke-dasharray:7 4}.e{stroke:#000;fill:none;stroke-width:3}.t{stroke:#777;fill:none}.y{stroke:#000;stroke-width:2;fill:none}.x{stroke:#b00;stroke-width:4;fill:none}.z{fill:#b00;font-weight:bold}\n"
    ++ codes ".n{text-anchor:end;fill:#444}.c{text-anchor:middle}.mf{text-anchor:middle;fill:#000}.ms{text-anchor:middle;fill:#000;font-weight:bold}.mh{text-anchor:middle;fill:#fff;font-weight:bold}\n"
    ++ codes ".f{fill:#fff;stroke:#777}.s{fill:url(#stripes);stroke:#777}.h{fill:#173f8a;stroke:#777}.q{fill:#d98c00}</style>\n"
    ++ codes "<defs><marker id=\"tip\" viewBox=\"0 0 10 10\" refX=\"10\" refY=\"5\" markerWidth=\"12\" markerHeight=\"9\" markerUnits=\"userSpaceOnUse\" orient=\"auto\"><path d=\"M0 0L10 5L0 10z\"/></marker>\n"
    ++ codes "<pattern id=\"stripes\" width=\"8\" height=\"8\" patternUnits=\"userSpaceOnUse\"><rect width=\"8\" height=\"8\" fill=\"#fff\"/><path d=\"M0 8L8 0\" stroke=\"#f0a860\" stroke-width=\"2\"/></pattern></defs>\n"
    ++ codes "<rect width=\"100%\" height=\"100%\" fill=\"#fff\"/>\n"

-- what the signs mean
abbrev pub LEGEND : List ℕ
LEGEND =
    codes "<rect class=\"f\" x=\"84\" y=\"46\" width=\"76\" height=\"26\"/><text class=\"mf\" x=\"122\" y=\"63\">0</text><text x=\"172\" y=\"63\">a thread that may run: its count by the mirror is 0</text>\n"
    ++ codes "<rect class=\"s\" x=\"84\" y=\"78\" width=\"76\" height=\"26\"/><text class=\"ms\" x=\"122\" y=\"95\">1</text><text x=\"172\" y=\"95\">its count is above 0, and it was not shown alive since</text>\n"
    ++ codes "<rect class=\"h\" x=\"84\" y=\"110\" width=\"76\" height=\"26\"/><text class=\"mh\" x=\"122\" y=\"127\">1</text><text x=\"172\" y=\"127\">it is held for suspended, with this count</text>\n"
    ++ codes "<rect class=\"q\" x=\"114\" y=\"142\" width=\"16\" height=\"26\"/><text x=\"172\" y=\"159\">an event request stands</text>\n"
    ++ codes "<path class=\"a\" d=\"M84 187H158\" marker-end=\"url(#tip)\"/><text x=\"172\" y=\"191\">a command, or a handshake of the debugger</text>\n"
    ++ codes "<path class=\"d\" d=\"M160 205H86\" marker-end=\"url(#tip)\"/><text x=\"172\" y=\"209\">a reply, tied to its command at the left</text>\n"
    ++ codes "<path class=\"e\" d=\"M160 223H86\" marker-end=\"url(#tip)\"/><text x=\"172\" y=\"227\">events, or the handshake of the target</text>\n"

-- how many of the messages are drawn, and from which number on
abbrev pub heading_text : ℕ → ℕ → ℕ → List ℕ
heading_text from shown all = codes "<text x=\"100\" y=\"30\" font-size=\"16\">" ++ decimal shown ++ codes " of " ++ decimal all ++ codes " messages, from number " ++ decimal (from + 1) ++ codes " on</text>\n"

-- the two lifelines
abbrev pub lifelines_text : ℕ → List ℕ
lifelines_text rows =
    codes "<text class=\"c\" x=\"90\" y=\"250\">debugger</text><text class=\"c\" x=\"790\" y=\"250\">target</text><path class=\"y\" d=\"M90 256V" ++ decimal (row_top rows + 30) ++ codes "M790 256V" ++ decimal (row_top rows + 30) ++ codes "\"/>\n"

-- the rows that are drawn: so many at most, from this one on, the first being 0
abbrev pub drawn_rows : PictureMeaning → ℕ → ℕ → List RowMeaning
drawn_rows picture from count = take count (drop from picture.rows)

-- the fault is drawn where the last row is
abbrev pub drawn_fault : PictureMeaning → ℕ → ℕ → Option (ℕ × CaptureFault)
drawn_fault picture from count = if nat_le (length picture.rows - from) count then picture.fault else None

abbrev pub document : ℕ → ℕ → List RowMeaning → List Column → Option (ℕ × CaptureFault) → List ℕ
document from all rows columns fault =
    opening_text (length rows) (length columns) ++ STYLE ++ heading_text from (length rows) all ++ LEGEND ++ lifelines_text (length rows)
    ++ heads_from 0 columns ++ rows_from from columns 0 rows ++ fault_text (length rows) fault ++ codes "</svg>\n"

-- the picture from a row on, of so many rows at most
abbrev pub svg_text : PictureMeaning → ℕ → ℕ → List ℕ
svg_text picture from count = document from (length picture.rows) (drawn_rows picture from count) (columns_of (drawn_rows picture from count)) (drawn_fault picture from count)

-- What is drawn of a message and of what the mirror has behind it, as elements of SVG (Scalable Vector Graphics 1.1).
use Rattle.std.specs.Prelude.{ℕ, ◌+◌, ◌-◌, ◌*◌, ◌%◌, ◌==◌, nat_le, nat_lt, min, Bool, true, false, List, [], ◌∷◌, ◌++◌, length, take, Option, Some, None, if◌then◌else◌, codes, decimal}
use Rattle.std.specs.Char.{encode_utf8}
use Rattle.std.specs.Fmt.{signed_decimal}
use Rattle.std.specs.List.{list_any}
use Rattle.jdwp_mirror.specs.KnownThreads.{count_in, is_held_in}
use Rattle.jdwp_show.specs.declared.capture_fault.CaptureFault.{CaptureFault}
use Rattle.jdwp_draw.specs.declared.sender.Sender.{Sender}
use Rattle.jdwp_draw.specs.declared.sender.Sender.TheVariants.{Debugger, Target}
use Rattle.jdwp_show.specs.FaultNumbers.{number_to_print}
use Rattle.jdwp_draw.specs.declared.columns.Column.{Column}
use Rattle.jdwp_draw.specs.declared.columns.Column.TheVariants.{Thread, Request}
use Rattle.jdwp_draw.specs.Columns.{same_request}
use Rattle.jdwp_draw.specs.Escapes.{drawn_chars, escaped_text}
use Rattle.jdwp_draw.specs.Layout.{row_top, column_left, LABEL_MOST, ELLIPSIS}
use Rattle.jdwp_draw.specs.Pictures.{RowMeaning}

-- ---- the message

-- its whole line, which is shown where the mouse rests
abbrev pub title_text : List ℕ → List ℕ
title_text line = codes "<title>" ++ escaped_text line ++ codes "</title>"

-- the number of the message, from 1
abbrev pub number_text : ℕ → ℕ → List ℕ
number_text index place = codes "<text class=\"n\" x=\"48\" y=\"" ++ decimal (row_top index + 26) ++ codes "\">" ++ decimal (place + 1) ++ codes "</text>"

-- as much of the line as there is room for
abbrev pub label : List ℕ → List ℕ
label line = if nat_lt LABEL_MOST (length line) then escaped_text (take (LABEL_MOST - 1) line) ++ encode_utf8 ELLIPSIS else escaped_text line

abbrev pub label_text : ℕ → List ℕ → List ℕ
label_text index line =
    codes "<text x=\"100\" y=\"" ++ decimal (row_top index + 14) ++ codes "\" textLength=\"" ++ decimal (7 * min (length line) LABEL_MOST) ++ codes "\" lengthAdjust=\"spacingAndGlyphs\" xml:space=\"preserve\">"
    ++ label line ++ codes "</text>"

-- An arrow goes from the end that sent the message to the other one: that of a command is drawn out, that of a reply is in dashes, and that
-- of what the target sends by itself is thick.
abbrev pub arrow_text : ℕ → Sender → Option ℕ → List ℕ
arrow_text index Debugger answers = codes "<path class=\"a\" d=\"M90 " ++ decimal (row_top index + 22) ++ codes "H788\" marker-end=\"url(#tip)\"/>"
arrow_text index Target (Some command) = codes "<path class=\"d\" d=\"M790 " ++ decimal (row_top index + 22) ++ codes "H92\" marker-end=\"url(#tip)\"/>"
arrow_text index Target None = codes "<path class=\"e\" d=\"M790 " ++ decimal (row_top index + 22) ++ codes "H92\" marker-end=\"url(#tip)\"/>"

-- a line from the row of the command, where that is drawn, to the row of its reply
abbrev pub tie_text : ℕ → ℕ → Option ℕ → List ℕ
tie_text from index None = []
tie_text from index (Some command) =
    if nat_le from command
    then codes "<path class=\"t\" d=\"M90 " ++ decimal (row_top (command - from) + 22) ++ codes "H" ++ decimal (76 - 6 * (command % 4)) ++ codes "V" ++ decimal (row_top index + 22) ++ codes "H90\"/>"
    else []

-- ---- what the mirror has behind it

-- held for suspended; free; suspended by its count, but not held
abbrev pub band_class : ℕ → Bool → List ℕ
band_class count true = codes "h"
band_class count false = if count == 0 then codes "f" else codes "s"

-- the box of a thread, and its count
abbrev pub band_box : ℕ → ℕ → List ℕ → List ℕ
band_box index column class = codes "<rect class=\"" ++ class ++ codes "\" x=\"" ++ decimal (column_left column) ++ codes "\" y=\"" ++ decimal (row_top index) ++ codes "\" width=\"76\" height=\"34\"/>"

abbrev pub band_count : ℕ → ℕ → List ℕ → ℕ → List ℕ
band_count index column class count =
    codes "<text class=\"m" ++ class ++ codes "\" x=\"" ++ decimal (column_left column + 38) ++ codes "\" y=\"" ++ decimal (row_top index + 21) ++ codes "\">" ++ decimal count ++ codes "</text>"

-- nothing is drawn of a thread that is not known
abbrev pub band_text : ℕ → ℕ → Option ℕ → Bool → List ℕ
band_text index column None held = []
band_text index column (Some count) held = band_box index column (band_class count held) ++ band_count index column (band_class count held) count

-- a piece of the bar of a request, where it stands
abbrev pub bar_text : ℕ → ℕ → Bool → List ℕ
bar_text index column false = []
bar_text index column true = codes "<rect class=\"q\" x=\"" ++ decimal (column_left column + 30) ++ codes "\" y=\"" ++ decimal (row_top index) ++ codes "\" width=\"16\" height=\"34\"/>"

-- what is drawn of a row in a column
abbrev pub cell_text : ℕ → RowMeaning → ℕ → Column → List ℕ
cell_text index row column (Thread t) = band_text index column (count_in row.threads t) (is_held_in row.threads t)
cell_text index row column (Request r) = bar_text index column (list_any (same_request r) row.requests)

abbrev pub cells_from : ℕ → RowMeaning → ℕ → List Column → List ℕ
cells_from index row column [] = []
cells_from index row column (c ∷ cs) = cell_text index row column c ++ cells_from index row (column + 1) cs

-- ---- rows

-- what is drawn of a row with these characters as its line, the first row that is drawn being this one of the picture
abbrev pub lined_text : ℕ → List Column → ℕ → RowMeaning → List ℕ → List ℕ
lined_text from columns index row line =
    codes "<g>" ++ title_text line ++ number_text index (from + index) ++ tie_text from index row.answers ++ arrow_text index row.sender row.answers
    ++ label_text index line ++ cells_from index row 0 columns ++ codes "</g>\n"

abbrev pub row_text : ℕ → List Column → ℕ → RowMeaning → List ℕ
row_text from columns index row = lined_text from columns index row (drawn_chars row.line)

-- an arrow for each of the rows, one below the other
abbrev pub rows_from : ℕ → List Column → ℕ → List RowMeaning → List ℕ
rows_from from columns index [] = []
rows_from from columns index (row ∷ rows) = row_text from columns index row ++ rows_from from columns (index + 1) rows

-- the fault, below the last row
abbrev pub fault_text : ℕ → Option (ℕ × CaptureFault) → List ℕ
fault_text index None = []
fault_text index (Some place) =
    codes "<path class=\"x\" d=\"M90 " ++ decimal (row_top index + 22) ++ codes "H790\"/><text class=\"z\" x=\"100\" y=\"" ++ decimal (row_top index + 14) ++ codes "\">line " ++ decimal place.0 ++ codes ": fault " ++ decimal (number_to_print place.1) ++ codes "</text>\n"

-- ---- the heads of columns

abbrev pub head_text : ℕ → Column → List ℕ
head_text column (Thread t) = codes "<text transform=\"translate(" ++ decimal (column_left column + 42) ++ codes " 250) rotate(-90)\">thread #" ++ decimal t ++ codes "</text>\n"
head_text column (Request r) = codes "<text transform=\"translate(" ++ decimal (column_left column + 42) ++ codes " 250) rotate(-90)\">request " ++ signed_decimal r.id ++ codes " kind " ++ decimal r.kind ++ codes "</text>\n"

abbrev pub heads_from : ℕ → List Column → List ℕ
heads_from column [] = []
heads_from column (c ∷ cs) = head_text column c ++ heads_from (column + 1) cs

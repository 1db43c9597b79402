-- Where what is drawn stands, in units of the picture, from its left and from its top.
use Rattle.std.specs.Prelude.{ℕ, ◌+◌, ◌*◌}

-- the top of a row, from 0
abbrev pub row_top : ℕ → ℕ
row_top index = 260 + 34 * index

-- the left side of a column, from 0
abbrev pub column_left : ℕ → ℕ
column_left index = 830 + 80 * index

-- how many characters of a line are drawn at most; a longer one ends in an ellipsis
abbrev pub LABEL_MOST : ℕ
LABEL_MOST = 95

abbrev pub ELLIPSIS : ℕ
ELLIPSIS = 8230

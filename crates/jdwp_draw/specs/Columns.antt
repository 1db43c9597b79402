-- The columns of a picture: one for each thread that the mirror knows behind any of these rows, in the order in which they became known,
-- and one for each event request.
use Rattle.std.specs.Prelude.{◌==◌, ◌&&◌, Bool, false, List, [], ◌∷◌, ◌++◌, map, if◌then◌else◌}
use Rattle.std.specs.List.{fold, flat_map, list_any}
use Rattle.std.specs.Ordering.{int_eq}
use Rattle.jdwp_mirror.specs.declared.threads.Known.{Known}
use Rattle.jdwp_draw.specs.declared.columns.Column.{Column}
use Rattle.jdwp_draw.specs.declared.columns.Column.TheVariants.{Thread, Request}
use Rattle.jdwp_draw.specs.declared.picture.Standing.{Standing}
use Rattle.jdwp_draw.specs.Pictures.{RowMeaning}

abbrev pub same_request : Standing → Standing → Bool
same_request a b = int_eq a.id b.id && (a.kind == b.kind)

abbrev pub same_column : Column → Column → Bool
same_column (Thread t) (Thread u) = t == u
same_column (Thread t) (Request r) = false
same_column (Request r) (Thread u) = false
same_column (Request r) (Request s) = same_request r s

abbrev pub thread_columns : RowMeaning → List Column
thread_columns row = map (λ (k : Known). Thread k.id.0) row.threads

abbrev pub request_columns : RowMeaning → List Column
request_columns row = map (λ (r : Standing). Request r) row.requests

-- each column once
abbrev pub with_column : List Column → Column → List Column
with_column columns column = if list_any (same_column column) columns then columns else columns ++ column ∷ []

-- the columns of these rows: the threads, and then the requests
abbrev pub columns_of : List RowMeaning → List Column
columns_of rows = fold with_column (fold with_column [] (flat_map thread_columns rows)) (flat_map request_columns rows)

use Rattle.std.proofs.Common.{◌+◌, ◌++◌, ap, codes}
use Rattle.std.specs.String.{string_bytes}
use Rattle.jdwp_draw.specs.Elements.{arrow_text, cells_from, label_text, number_text, tie_text, title_text}
use Rattle.jdwp_draw.specs.Pictures.{RowMeaning}
use Rattle.jdwp_draw.proofs.TextLemmas.{joined}
use Rattle.jdwp_draw.proofs.rows.push_lined.Goals as goal

pub returns : goal.returns
returns c =
    let old = string_bytes c.args.out.now in
    let row = c.args.row.now in
    let line = c.args.line.now in
    let index = c.args.index in
    let title = codes "<g>" ++ title_text line in
    let number = title ++ number_text index (c.args.from + index) in
    let tie = number ++ tie_text c.args.from index row.answers in
    let arrow = tie ++ arrow_text index row.sender row.answers in
    let label = arrow ++ label_text index line in
    let cells = label ++ cells_from index row 0 c.args.columns.now in
    let same_answers = ap (λ (r : RowMeaning). r.answers) c.row.view_is in
    let same_sender = ap (λ (r : RowMeaning). r.sender) c.row.view_is in
    let tie_is = rw same_answers at c.in_ok-push_tie.ensures in
    let arrow_is = rw (same_answers, same_sender) at c.in_ok-push_arrow.ensures in
    let to_title = joined old (codes "<g>") (title_text line) c.in_ok-push_str.ensures.bytes c.in_ok-push_title.ensures in
    let to_number = joined old title (number_text index (c.args.from + index)) to_title c.in_ok-push_number.ensures in
    let to_tie = joined old number (tie_text c.args.from index row.answers) to_number tie_is in
    let to_arrow = joined old tie (arrow_text index row.sender row.answers) to_tie arrow_is in
    let to_label = joined old arrow (label_text index line) to_arrow c.in_ok-push_label.ensures in
    let to_cells = joined old label (cells_from index row 0 c.args.columns.now) to_label c.in_ok-push_cells.ensures in
    joined old cells (codes "</g>\n") to_cells c.in_ok-push_str-2.ensures.bytes

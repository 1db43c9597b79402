use Rattle.std.proofs.Common.{◌++◌, length, codes}
use Rattle.std.specs.String.{string_bytes}
use Rattle.jdwp_draw.specs.Elements.{fault_text, heads_from, rows_from}
use Rattle.jdwp_draw.specs.Svg.{LEGEND, STYLE, heading_text, lifelines_text, opening_text}
use Rattle.jdwp_draw.proofs.TextLemmas.{joined}
use Rattle.jdwp_draw.proofs.document.push_document.Goals as goal

pub returns : goal.returns
returns c =
    let old = string_bytes c.args.out.now in
    let rows = c.args.rows.now in
    let columns = c.args.columns.now in
    let opening = opening_text (length rows) (length columns) in
    let style = opening ++ STYLE in
    let heading = style ++ heading_text c.args.from (length rows) c.args.all in
    let legend = heading ++ LEGEND in
    let lifelines = legend ++ lifelines_text (length rows) in
    let heads = lifelines ++ heads_from 0 columns in
    let body = heads ++ rows_from c.args.from columns 0 rows in
    let fault = body ++ fault_text (length rows) c.args.fault.now in
    let to_style = joined old opening STYLE c.in_ok-push_opening.ensures c.in_ok-push_style.ensures in
    let to_heading = joined old style (heading_text c.args.from (length rows) c.args.all) to_style c.in_ok-push_heading.ensures in
    let to_legend = joined old heading LEGEND to_heading c.in_ok-push_legend.ensures in
    let to_lifelines = joined old legend (lifelines_text (length rows)) to_legend c.in_ok-push_lifelines.ensures in
    let to_heads = joined old lifelines (heads_from 0 columns) to_lifelines c.in_ok-push_heads.ensures in
    let to_body = joined old heads (rows_from c.args.from columns 0 rows) to_heads c.in_ok-push_rows.ensures in
    let to_fault = joined old body (fault_text (length rows) c.args.fault.now) to_body c.in_ok-push_fault.ensures in
    joined old fault (codes "</svg>\n") to_fault c.in_ok-push_str.ensures.bytes

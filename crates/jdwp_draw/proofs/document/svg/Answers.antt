use Rattle.std.proofs.Common.{List, ◌∙◌, ap, drop, length, sym, take}
use Rattle.jdwp_draw.specs.Pictures.{PictureMeaning, RowMeaning}
use Rattle.jdwp_draw.proofs.TextLemmas.{document_of}
use Rattle.jdwp_draw.proofs.document.svg.Goals as goal

pub returns : goal.returns
returns c =
    let same_rows = ap (λ (p : PictureMeaning). p.rows) c.picture.view_is in
    let all_rows = c.deref.ensures.value ∙ same_rows in
    let count_is = c.len.ensures ∙ sym c.deref.ensures.len ∙ ap (λ (rows : List RowMeaning). length rows) all_rows in
    let drawn = c.drawn_rows-rows.ensures ∙ ap (λ (rows : List RowMeaning). take c.args.count (drop c.args.from rows)) all_rows in
    document_of c.args.picture.now c.args.from c.args.count c.len.result _ _ c.drawn_fault.result _ _ c.new-out.ensures.bytes count_is drawn (c.deref-2.ensures.value ∙ c.in_ok-columns.ensures) c.drawn_fault.ensures
    c.in_ok-push_document.ensures

-- Text that grows by one thing at a time.
use Rattle.std.proofs.Common.{◌≡◌, ℕ, ◌+◌, ◌<◌, List, [], ◌∷◌, ◌++◌, length, drop, get_or, Option, sym, ap, ◌∙◌, append_assoc}
use Rattle.std.proofs.lemmas.List.{drop_more}
use Rattle.jdwp_show.specs.declared.capture_fault.CaptureFault.{CaptureFault}
use Rattle.jdwp_draw.specs.Columns.{columns_of}
use Rattle.jdwp_draw.specs.declared.columns.Column.{Column}
use Rattle.jdwp_draw.specs.Elements.{row_text, rows_from}
use Rattle.jdwp_draw.specs.Pictures.{PictureMeaning, RowMeaning}
use Rattle.jdwp_draw.specs.Svg.{document, drawn_fault, drawn_rows, svg_text}

-- a thing behind those before it
pub joined : (old things thing : List ℕ) {before new : List ℕ} → before ≡ old ++ things → new ≡ before ++ thing → new ≡ old ++ (things ++ thing)
joined old things thing {before} {new} e f = f ∙ ap (λ (x : List ℕ). x ++ thing) e ∙ append_assoc old things thing

-- one row more
pub row_more : (from : ℕ) (columns : List Column) (index : ℕ) (rows : List RowMeaning) (row : RowMeaning) (old new all : List ℕ) → index < length rows → row ≡ get_or rows index row → new ≡ old ++ row_text from columns index row
    → old ++ rows_from from columns index (drop index rows) ≡ all → new ++ rows_from from columns (index + 1) (drop (index + 1) rows) ≡ all
row_more from columns index rows row old new all inside here grows so_far =
    let at : drop index rows ≡ row ∷ drop (index + 1) rows = drop_more rows index row inside ∙ ap (λ (x : RowMeaning). x ∷ drop (index + 1) rows) (sym here) in
    ap (λ (x : List ℕ). x ++ rows_from from columns (index + 1) (drop (index + 1) rows)) grows
    ∙ append_assoc old (row_text from columns index row) (rows_from from columns (index + 1) (drop (index + 1) rows))
    ∙ ap (λ (x : List RowMeaning). old ++ rows_from from columns index x) (sym at) ∙ so_far

-- the whole document, in text that was empty
pub document_of : (picture : PictureMeaning) (from count all : ℕ) (rows : List RowMeaning) (columns : List Column) (fault : Option (ℕ × CaptureFault)) (start new : List ℕ) → start ≡ [] → all ≡ length picture.rows
    → rows ≡ drawn_rows picture from count → columns ≡ columns_of rows → fault ≡ drawn_fault picture from count → new ≡ start ++ document from all rows columns fault → new ≡ svg_text picture from count
document_of picture from count all rows columns fault start new empty count_is drawn shown told grows =
    grows ∙ ap (λ (x : List ℕ). x ++ document from all rows columns fault) empty
    ∙ ap (λ (n : ℕ). document from n rows columns fault) count_is ∙ ap (λ (c : List Column). document from (length picture.rows) rows c fault) shown
    ∙ ap (λ (f : Option (ℕ × CaptureFault)). document from (length picture.rows) rows (columns_of rows) f) told
    ∙ ap (λ (r : List RowMeaning). document from (length picture.rows) r (columns_of r) (drawn_fault picture from count)) drawn

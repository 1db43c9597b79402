use Rattle.std.proofs.Common.{◌≡◌, false, true, sym, ◌∙◌}
use Rattle.std.specs.List.{list_any}
use Rattle.jdwp_attach.specs.Lines.{is_empty, words_of}
use Rattle.jdwp_attach.proofs.PlanLaws.{misspaced, well_spaced}
use Rattle.jdwp_attach.proofs.plans.reading.read_line.Goals as goal

pub returns-then-has_empty-clause-value : goal.returns-then-has_empty-clause-value
returns-then-has_empty-clause-value c =
    let empty : list_any is_empty (words_of c.args.line.now) ≡ true = rw (c.deref.ensures.value, c.in_ok-words.ensures) at (sym c.has_empty.ensures ∙ c.if-has_empty.true) in
    misspaced c.args.line.now (cc) empty

pub returns-clause-memory : goal.returns-clause-memory
returns-clause-memory c = λ _. cc

pub returns-clause-value : goal.returns-clause-value
returns-clause-value c =
    let full : list_any is_empty (words_of c.args.line.now) ≡ false = rw (c.deref.ensures.value, c.in_ok-words.ensures) at (sym c.has_empty.ensures ∙ c.if-has_empty.false) in
    well_spaced c.args.line.now c.read_words.result (cc) full (rw (c.deref-2.ensures.value, c.in_ok-words.ensures) at c.read_words.ensures)

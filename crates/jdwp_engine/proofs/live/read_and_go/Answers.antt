use Rattle.jdwp_engine.proofs.live.read_and_go.Goals as goal

pub returns-in-Ok-true-clause-goes : goal.returns-in-Ok-true-clause-goes
returns-in-Ok-true-clause-goes g c = λ e.
    let h = rw c.in-Ok-true.field-0-test at c.in-Ok-true.ensures.reads in
    (h.0, h.1, h.2, h.3)

pub returns-in-Ok-false-clause-nothing : goal.returns-in-Ok-false-clause-nothing
returns-in-Ok-false-clause-nothing g c = λ e.
    let h = rw c.in-Ok-false.field-0-test at c.in-Ok-false.ensures.reads in
    (h.0, h.1, h.2)

use Rattle.std.proofs.Common.{◌∙◌, sym}
use Rattle.jdwp_attach.proofs.LastFlush.{flush-fails-kept, flush-fails-lost, flush-fails-refused, last-flush}
use Rattle.jdwp_attach.proofs.attaching.lose_what_is_kept.Goals as goal

pub returns-in-Refused-clause-ends : goal.returns-in-Refused-clause-ends
returns-in-Refused-clause-ends c = λ plan base pipe out pipe' out' r m f.
    let is = sym c.ended.ensures ∙ c.in-Refused.is in
    rw is (flush-fails-refused plan c.in-Refused.field-0 base pipe out pipe' out' c.args.debugger.now r (rw is at m) (last-flush pipe out pipe' out' f))

pub returns-in-Done-clause-ends : goal.returns-in-Done-clause-ends
returns-in-Done-clause-ends c = λ plan base pipe out pipe' out' r m f.
    flush-fails-lost plan c.ended.result base pipe out pipe' out' c.args.debugger.now c.in-Done.is r (rw (← c.ended.ensures) at m) (last-flush pipe out pipe' out' f)

pub returns-in-NoMemory-clause-ends : goal.returns-in-NoMemory-clause-ends
returns-in-NoMemory-clause-ends c = λ plan base pipe out pipe' out' r m f.
    flush-fails-kept plan c.ended.result base pipe out pipe' out' c.args.debugger.now c.lose.new.self c.in-NoMemory.is c.lose.ensures.lost r (rw (← c.ended.ensures) at m) (last-flush pipe out pipe' out' f)

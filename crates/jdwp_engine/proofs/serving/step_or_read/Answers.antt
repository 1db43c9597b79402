use Rattle.std.proofs.Common.{Err, false, refl, true, Ok}
use Rattle.jdwp_engine.specs.declared.serving.AfterRound.TheVariants.{Ends}
use Rattle.jdwp_engine.specs.Sessions.{Reads, WantsToStep, Writes}
use Rattle.jdwp_engine.proofs.Rounding.{moved, reads-last, starved-last, steps-last}
use Rattle.jdwp_engine.proofs.Runs.{memory-ends, memory-goes, read-goes, read-next-ends, steps-ends, steps-goes}
use Rattle.jdwp_engine.proofs.serving.step_or_read.Goals as goal

pub returns-in-Ok-true-clause-goes : goal.returns-in-Ok-true-clause-goes
returns-in-Ok-true-clause-goes g c = λ e.
    let on = rw c.in-Ok-true.field-0-test at c.in-Ok-true.ensures.stepped in
    steps-goes (g.P.Pipe.story c.args.pipe.now) (g.P.Pipe.story c.write_and_go.new.pipe) c.args.target.now c.step_each.new.target c.write_and_go.new.target
    on (c.write_and_go.ensures.goes e)

pub returns-in-Ok-true-clause-ends : goal.returns-in-Ok-true-clause-ends
returns-in-Ok-true-clause-ends g c =
    let on = rw c.in-Ok-true.field-0-test at c.in-Ok-true.ensures.stepped in
    let w = c.write_and_go.ensures in
    steps-ends g.M.Machine.meaning (g.P.Pipe.story c.args.pipe.now) (g.P.Pipe.story c.write_and_go.new.pipe) c.args.target.now c.step_each.new.target c.write_and_go.new.target
    c.write_and_go.result on w.ends w.done w.fails

pub returns-in-Ok-false-clause-goes : goal.returns-in-Ok-false-clause-goes
returns-in-Ok-false-clause-goes g c = λ e.
    let same = rw c.in-Ok-false.field-0-test at c.in-Ok-false.ensures.stepped in
    read-goes (g.P.Pipe.story c.args.pipe.now) (g.P.Pipe.story c.read_and_go.new.pipe) c.args.target.now c.step_each.new.target c.read_and_go.new.target
    same (c.read_and_go.ensures.goes e)

pub returns-in-Ok-false-clause-ends : goal.returns-in-Ok-false-clause-ends
returns-in-Ok-false-clause-ends g c =
    let same = rw c.in-Ok-false.field-0-test at c.in-Ok-false.ensures.stepped in
    read-next-ends g.M.Machine.meaning (g.P.Pipe.story c.args.pipe.now) (g.P.Pipe.story c.read_and_go.new.pipe) c.args.target.now c.step_each.new.target c.read_and_go.new.target
    c.read_and_go.result c.session.ensures.ran c.requires.is_open c.requires.flows c.requires.asks c.requires.none same c.read_and_go.ensures.ends

pub returns-in-Goes-clause-ends : goal.returns-in-Goes-clause-ends
returns-in-Goes-clause-ends g c =
    let memory = c.in-Err.ensures.memory in
    memory-goes g.M.Machine.meaning (g.P.Pipe.story c.args.pipe.now) (g.P.Pipe.story c.write_and_go-in-Err.new.pipe) c.args.target.now c.step_each.new.target c.write_and_go-in-Err.new.target
    memory.0.0 memory.0.1 memory.2 (c.in-Goes.ensures.goes refl)

pub returns-in-Ends-clause-ends : goal.returns-in-Ends-clause-ends
returns-in-Ends-clause-ends g c =
    let memory = c.in-Err.ensures.memory in
    let w = c.in-Ends.ensures in
    memory-ends g.M.Machine.meaning (g.P.Pipe.story c.args.pipe.now) (g.P.Pipe.story c.write_and_go-in-Err.new.pipe) c.args.target.now c.step_each.new.target c.write_and_go-in-Err.new.target
    memory.0.0 (Ends c.in-Ends.ended) memory.0.1 memory.1 w.ends w.done w.fails

pub returns-in-Ok-true-clause-round : goal.returns-in-Ok-true-clause-round
returns-in-Ok-true-clause-round g c = λ e before left.
    let came = rw c.in-Ok-true.is at c.step_each.ensures.each in
    let each = rw c.in-Ok-true.field-0-test at came in
    let on = c.write_and_go.ensures.goes e in
    Writes c.step_each.new.target (g.P.Pipe.story c.args.pipe.now)
    (moved g.M.Machine.meaning c.args.target.now c.step_each.new.target before (g.P.Pipe.story c.args.pipe.now) (Ok true) c.requires.asks c.requires.none each left) on.0 on.1

pub returns-in-Ok-true-clause-last : goal.returns-in-Ok-true-clause-last
returns-in-Ok-true-clause-last g c =
    let came = rw c.in-Ok-true.is at c.step_each.ensures.each in
    let each = rw c.in-Ok-true.field-0-test at came in
    let w = c.write_and_go.ensures in
    steps-last g.M.Machine.meaning c.args.target.now c.step_each.new.target c.write_and_go.new.target (g.P.Pipe.story c.args.pipe.now) (g.P.Pipe.story c.write_and_go.new.pipe)
    c.write_and_go.result c.requires.asks c.requires.none each w.ends w.done w.fails

pub returns-in-Ok-false-clause-round : goal.returns-in-Ok-false-clause-round
returns-in-Ok-false-clause-round g c = λ e before left.
    let came = rw c.in-Ok-false.is at c.step_each.ensures.each in
    let each = rw c.in-Ok-false.field-0-test at came in
    Reads c.step_each.new.target (g.P.Pipe.story c.args.pipe.now)
    (moved g.M.Machine.meaning c.args.target.now c.step_each.new.target before (g.P.Pipe.story c.args.pipe.now) (Ok false) c.requires.asks c.requires.none each left) (c.read_and_go.ensures.goes e)

pub returns-in-Ok-false-clause-last : goal.returns-in-Ok-false-clause-last
returns-in-Ok-false-clause-last g c =
    let came = rw c.in-Ok-false.is at c.step_each.ensures.each in
    let each = rw c.in-Ok-false.field-0-test at came in
    reads-last g.M.Machine.meaning c.args.target.now c.step_each.new.target c.read_and_go.new.target (g.P.Pipe.story c.args.pipe.now) (g.P.Pipe.story c.read_and_go.new.pipe)
    c.read_and_go.result c.requires.asks c.requires.none each c.read_and_go.ensures.ends

pub returns-in-Goes-clause-last : goal.returns-in-Goes-clause-last
returns-in-Goes-clause-last g c = λ before left.
    let each = rw c.in-Err.is at c.step_each.ensures.each in
    WantsToStep _ c.step_each.new.target (g.P.Pipe.story c.args.pipe.now)
    (moved g.M.Machine.meaning c.args.target.now c.step_each.new.target before (g.P.Pipe.story c.args.pipe.now) (Err _) c.requires.asks c.requires.none each left) (c.in-Goes.ensures.goes refl).1

pub returns-in-Ends-clause-last : goal.returns-in-Ends-clause-last
returns-in-Ends-clause-last g c =
    let each = rw c.in-Err.is at c.step_each.ensures.each in
    let w = c.in-Ends.ensures in
    starved-last g.M.Machine.meaning c.args.target.now c.step_each.new.target c.write_and_go-in-Err.new.target (g.P.Pipe.story c.args.pipe.now) (g.P.Pipe.story c.write_and_go-in-Err.new.pipe) _
    c.in-Ends.ended c.requires.asks c.requires.none each c.in-Err.ensures.memory.1 w.ends w.done w.fails

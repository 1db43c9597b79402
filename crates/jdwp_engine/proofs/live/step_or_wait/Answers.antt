use Rattle.std.proofs.Common.{◌∙◌, Err, Ok, ap, false, refl, true}
use Rattle.jdwp_target.specs.Targets.{Target}
use Rattle.jdwp_engine.specs.declared.pipes.pipe.Patience.TheVariants.{Forever}
use Rattle.jdwp_engine.specs.LiveRounds.{Waits, WantsToStep, Writes}
use Rattle.jdwp_engine.proofs.Established.{steps-turns}
use Rattle.jdwp_engine.proofs.Living.{memory-on, memory-over, read-on, read-over, steps-go, steps-over}
use Rattle.jdwp_engine.proofs.LiveRounding.{moved, starved-last, steps-last, waits-last}
use Rattle.jdwp_engine.proofs.live.step_or_wait.Goals as goal

pub returns-in-Ok-true-clause-goes : goal.returns-in-Ok-true-clause-goes
returns-in-Ok-true-clause-goes g c = λ e.
    let on = rw c.in-Ok-true.field-0-test at c.in-Ok-true.ensures.stepped in
    steps-go (g.P.LivePipe.story c.args.pipe.now) (g.P.LivePipe.story c.write_and_go.new.pipe) c.args.target.now c.step_each.new.target c.write_and_go.new.target
    on (c.write_and_go.ensures.goes e)

pub returns-in-Ok-true-clause-ends : goal.returns-in-Ok-true-clause-ends
returns-in-Ok-true-clause-ends g c =
    let on = rw c.in-Ok-true.field-0-test at c.in-Ok-true.ensures.stepped in
    let w = c.write_and_go.ensures in
    steps-over g.M.Machine.meaning (g.P.LivePipe.story c.args.pipe.now) (g.P.LivePipe.story c.write_and_go.new.pipe) c.args.target.now c.step_each.new.target c.write_and_go.new.target
    c.write_and_go.result on w.ends w.done w.fails

pub returns-in-Ok-true-clause-turns : goal.returns-in-Ok-true-clause-turns
returns-in-Ok-true-clause-turns g c = λ e.
    ap (λ (t : Target g.row.M.Denot). t.end.session.turns) (c.write_and_go.ensures.goes e).1.0
    ∙ steps-turns g.M.Machine.meaning _ c.args.target.now c.step_each.new.target c.step_each.result c.step_each.ensures.each

pub returns-in-Ok-false-clause-goes : goal.returns-in-Ok-false-clause-goes
returns-in-Ok-false-clause-goes g c = λ e.
    let same = rw c.in-Ok-false.field-0-test at c.in-Ok-false.ensures.stepped in
    read-on Forever (g.P.LivePipe.story c.args.pipe.now) (g.P.LivePipe.story c.wait_and_go.new.pipe) c.args.target.now c.step_each.new.target c.wait_and_go.new.target
    same (c.wait_and_go.ensures.goes e)

pub returns-in-Ok-false-clause-ends : goal.returns-in-Ok-false-clause-ends
returns-in-Ok-false-clause-ends g c =
    let same = rw c.in-Ok-false.field-0-test at c.in-Ok-false.ensures.stepped in
    read-over g.M.Machine.meaning Forever (g.P.LivePipe.story c.args.pipe.now) (g.P.LivePipe.story c.wait_and_go.new.pipe) c.args.target.now c.step_each.new.target c.wait_and_go.new.target
    c.wait_and_go.result c.session.ensures.ran c.requires.is_open c.requires.flows c.requires.asks c.requires.none same c.wait_and_go.ensures.ends

pub returns-in-Ok-false-clause-turns : goal.returns-in-Ok-false-clause-turns
returns-in-Ok-false-clause-turns g c = λ e.
    ap (λ (t : Target g.row.M.Denot). t.end.session.turns) (c.wait_and_go.ensures.goes e).2
    ∙ steps-turns g.M.Machine.meaning _ c.args.target.now c.step_each.new.target c.step_each.result c.step_each.ensures.each

pub returns-in-Goes-clause-ends : goal.returns-in-Goes-clause-ends
returns-in-Goes-clause-ends g c =
    let memory = c.in-Err.ensures.memory in
    memory-on g.M.Machine.meaning (g.P.LivePipe.story c.args.pipe.now) (g.P.LivePipe.story c.write_and_go-in-Err.new.pipe) c.args.target.now c.step_each.new.target c.write_and_go-in-Err.new.target
    memory.0.0 memory.0.1 memory.2 (c.in-Goes.ensures.goes refl)

pub returns-in-Ends-clause-ends : goal.returns-in-Ends-clause-ends
returns-in-Ends-clause-ends g c =
    let memory = c.in-Err.ensures.memory in
    let w = c.in-Ends.ensures in
    memory-over g.M.Machine.meaning (g.P.LivePipe.story c.args.pipe.now) (g.P.LivePipe.story c.write_and_go-in-Err.new.pipe) c.args.target.now c.step_each.new.target c.write_and_go-in-Err.new.target
    memory.0.0 c.in-Ends.ended memory.0.1 memory.1 w.ends w.done w.fails

pub returns-in-Ok-true-clause-round : goal.returns-in-Ok-true-clause-round
returns-in-Ok-true-clause-round g c = λ e before left.
    let came = rw c.in-Ok-true.is at c.step_each.ensures.each in
    let each = rw c.in-Ok-true.field-0-test at came in
    let on = c.write_and_go.ensures.goes e in
    Writes c.step_each.new.target (g.P.LivePipe.story c.args.pipe.now)
    (moved g.M.Machine.meaning c.args.target.now c.step_each.new.target before (g.P.LivePipe.story c.args.pipe.now) (Ok true) (c.requires.asks, c.requires.none) c.requires.established each left) on.0 on.1

pub returns-in-Ok-true-clause-last : goal.returns-in-Ok-true-clause-last
returns-in-Ok-true-clause-last g c =
    let came = rw c.in-Ok-true.is at c.step_each.ensures.each in
    let each = rw c.in-Ok-true.field-0-test at came in
    let w = c.write_and_go.ensures in
    steps-last g.M.Machine.meaning c.args.target.now c.step_each.new.target c.write_and_go.new.target (g.P.LivePipe.story c.args.pipe.now) (g.P.LivePipe.story c.write_and_go.new.pipe)
    c.write_and_go.result (c.requires.asks, c.requires.none) c.requires.established each w.ends w.done w.fails

pub returns-in-Ok-false-clause-round : goal.returns-in-Ok-false-clause-round
returns-in-Ok-false-clause-round g c = λ e before left.
    let came = rw c.in-Ok-false.is at c.step_each.ensures.each in
    let each = rw c.in-Ok-false.field-0-test at came in
    Waits c.step_each.new.target (g.P.LivePipe.story c.args.pipe.now)
    (moved g.M.Machine.meaning c.args.target.now c.step_each.new.target before (g.P.LivePipe.story c.args.pipe.now) (Ok false) (c.requires.asks, c.requires.none) c.requires.established each left)
    (c.wait_and_go.ensures.goes e)

pub returns-in-Ok-false-clause-last : goal.returns-in-Ok-false-clause-last
returns-in-Ok-false-clause-last g c =
    let came = rw c.in-Ok-false.is at c.step_each.ensures.each in
    let each = rw c.in-Ok-false.field-0-test at came in
    waits-last g.M.Machine.meaning c.args.target.now c.step_each.new.target c.wait_and_go.new.target (g.P.LivePipe.story c.args.pipe.now) (g.P.LivePipe.story c.wait_and_go.new.pipe)
    c.wait_and_go.result (c.requires.asks, c.requires.none) c.requires.established each c.wait_and_go.ensures.ends

pub returns-in-Goes-clause-last : goal.returns-in-Goes-clause-last
returns-in-Goes-clause-last g c = λ before left.
    let each = rw c.in-Err.is at c.step_each.ensures.each in
    WantsToStep _ c.step_each.new.target (g.P.LivePipe.story c.args.pipe.now)
    (moved g.M.Machine.meaning c.args.target.now c.step_each.new.target before (g.P.LivePipe.story c.args.pipe.now) (Err _) (c.requires.asks, c.requires.none) c.requires.established each left) (c.in-Goes.ensures.goes refl).1

pub returns-in-Ends-clause-last : goal.returns-in-Ends-clause-last
returns-in-Ends-clause-last g c =
    let each = rw c.in-Err.is at c.step_each.ensures.each in
    let w = c.in-Ends.ensures in
    starved-last g.M.Machine.meaning c.args.target.now c.step_each.new.target c.write_and_go-in-Err.new.target (g.P.LivePipe.story c.args.pipe.now) (g.P.LivePipe.story c.write_and_go-in-Err.new.pipe) _
    c.in-Ends.ended (c.requires.asks, c.requires.none) c.requires.established each c.in-Err.ensures.memory.1 w.ends w.done w.fails

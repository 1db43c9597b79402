use Rattle.std.proofs.Common.{◌≡◌, ◌≤◌, ◌+◌, length, map, drop, arith}
use Rattle.std.proofs.lemmas.Iterator.Consumers.{YieldsList-turn, YieldsList-end}
use Rattle.std.proofs.lemmas.Iterator.Splits.{YieldsList-from_lines}
use Rattle.std.proofs.lemmas.List.{length_push, length-map}
use Rattle.std.specs.Str.Lines.{lines}
use Rattle.jdwp_attach.specs.PlanLines.{line_for, said_by}
use Rattle.jdwp_attach.specs.Plans.{IsFirstFaultBy}
use Rattle.jdwp_attach.proofs.PlanLaws.{one_more, one_behind, one_faulty, all_read, fails_so, read_is_not_empty}
use Rattle.jdwp_attach.proofs.plans.reading.read_lines.Goals as goal

pub loop-line-preserved : goal.loop-line-preserved
loop-line-preserved c =
    let t = YieldsList-turn (YieldsList-from_lines c.args.text.now cc) c.loop-line.yielded _ c.loop-line.yielded_by _ _ c.in-Some.line c.in-Some.is c.next.ensures.steps in
    let one = length_push c.loop-line.yielded c.in-Some.line in
    rw (one, c.in_ok-push-in-Ok.ensures.items) (one_more (line_for c.args.command) (lines c.args.text.now) (length c.loop-line.yielded) c.in-Some.line.now c.loop-line.plan.items c.in-Ok.line t.0 t.1 c.in-Ok.ensures.value c.loop-line.invariant)

pub returns-in-Err-Fault-clause-fault : goal.returns-in-Err-Fault-clause-fault
returns-in-Err-Fault-clause-fault c =
    let t = YieldsList-turn (YieldsList-from_lines c.args.text.now cc) c.loop-line.yielded _ c.loop-line.yielded_by _ _ c.in-Some.line c.in-Some.is c.next.ensures.steps in
    let read = rw c.in-Err-Fault.field-0-is at c.in-Err-Fault.ensures.value in
    let before = map said_by c.loop-line.plan.items in
    let count : c.len.result + 1 ≡ length before + 1 = omega (arith, length-map c.loop-line.plan.items said_by, c.len.ensures, c.loop-line.plan.ok.0) in
    let all = one_faulty (line_for c.args.command) (lines c.args.text.now) (length c.loop-line.yielded) c.in-Some.line.now before c.in-Err-Fault.fault t.0 t.1 read c.loop-line.invariant in
    rw c.in-Err-Fault.field-0-is (before, map (line_for c.args.command) (drop (length c.loop-line.yielded + 1) (lines c.args.text.now)), all, count)

pub returns-in-Err-NoMemory-clause-fault : goal.returns-in-Err-NoMemory-clause-fault
returns-in-Err-NoMemory-clause-fault c =
    let t = YieldsList-turn (YieldsList-from_lines c.args.text.now cc) c.loop-line.yielded _ c.loop-line.yielded_by _ _ c.in-Some.line c.in-Some.is c.next.ensures.steps in
    let before = map said_by c.loop-line.plan.items in
    let all = one_behind (line_for c.args.command) (lines c.args.text.now) (length c.loop-line.yielded) c.in-Some.line.now before t.0 t.1 c.loop-line.invariant in
    (before, c.in-Some.line.now, map (line_for c.args.command) (drop (length c.loop-line.yielded + 1) (lines c.args.text.now)), all, c.in-Err-NoMemory.ensures.memory cc)

pub returns-in_err-push-in-Ok-clause-fault : goal.returns-in_err-push-in-Ok-clause-fault
returns-in_err-push-in-Ok-clause-fault c =
    let t = YieldsList-turn (YieldsList-from_lines c.args.text.now cc) c.loop-line.yielded _ c.loop-line.yielded_by _ _ c.in-Some.line c.in-Some.is c.next.ensures.steps in
    let before = map said_by c.loop-line.plan.items in
    let all = one_behind (line_for c.args.command) (lines c.args.text.now) (length c.loop-line.yielded) c.in-Some.line.now before t.0 t.1 c.loop-line.invariant in
    let full = read_is_not_empty c.args.command c.in-Some.line.now (said_by c.in-Ok.line) c.in-Ok.ensures.value in
    fails_so (IsFirstFaultBy (line_for c.args.command) (lines c.args.text.now)) c.from_residual.result c.from_residual.ensures.1
    (before, c.in-Some.line.now, map (line_for c.args.command) (drop (length c.loop-line.yielded + 1) (lines c.args.text.now)), all, full)

pub returns-clause-read : goal.returns-clause-read
returns-clause-read c =
    let t = YieldsList-end (YieldsList-from_lines c.args.text.now cc) c.loop-line.yielded _ c.loop-line.yielded_by _ _ c.in-None.is c.next.ensures.steps in
    let past : length (lines c.args.text.now) ≤ length c.loop-line.yielded = omega (arith, t.1) in
    all_read (line_for c.args.command) (lines c.args.text.now) (length c.loop-line.yielded) _ past c.loop-line.invariant

use Rattle.std.proofs.Common.{◌≡◌, ◌≤◌, ◌+◌, ◌-◌, length, map, inl, inr, refl, arith, rules}
use Rattle.std.proofs.lemmas.Iterator.Consumers.{YieldsList-turn, YieldsList-end}
use Rattle.std.proofs.lemmas.Iterator.Splits.{YieldsList-from_lines}
use Rattle.std.proofs.lemmas.List.{length_push, length-map}
use Rattle.std.specs.Str.Lines.{lines}
use Rattle.jdwp_plan.specs.Meanings.{said_by}
use Rattle.jdwp_plan.specs.Plans.{IsFirstFault}
use Rattle.jdwp_plan.proofs.PlanLaws.{one_more, one_behind, all_read, fails_so, wrong}
use Rattle.jdwp_plan.proofs.reading.read_written.Goals as goal

pub loop-line-preserved : goal.loop-line-preserved
loop-line-preserved c =
    let t = YieldsList-turn (YieldsList-from_lines c.args.text.now cc) c.loop-line.yielded _ c.loop-line.yielded_by _ _ c.in-Some.line c.in-Some.is c.next.ensures.steps in
    let one = length_push c.loop-line.yielded c.in-Some.line in
    rw (one, c.in_ok-push-in-Ok.ensures.items) (one_more (lines c.args.text.now) (length c.loop-line.yielded) c.in-Some.line.now c.loop-line.plan.items c.in-Ok.line t.0 t.1 c.in-Ok.ensures c.loop-line.invariant)

pub returns-in-Err-Stop-clause-fault : goal.returns-in-Err-Stop-clause-fault
returns-in-Err-Stop-clause-fault c =
    let t = YieldsList-turn (YieldsList-from_lines c.args.text.now cc) c.loop-line.yielded _ c.loop-line.yielded_by _ _ c.in-Some.line c.in-Some.is c.next.ensures.steps in
    let read = rw c.in-Err-Stop.field-0-is at c.in-Err-Stop.ensures in
    let before = map said_by c.loop-line.plan.items in
    let all = one_behind (lines c.args.text.now) (length c.loop-line.yielded) c.in-Some.line.now before t.0 t.1 c.loop-line.invariant in
    let count : c.len.result + 1 ≡ length before + 1 = omega (arith, length-map c.loop-line.plan.items said_by, c.len.ensures, c.loop-line.plan.ok.0) in
    let place : c.saturating_sub.result ≡ length c.in-Some.line.now - c.in-Err-Stop.stop.left = search rules in
    rw c.in-Err-Stop.field-0-is (before, c.in-Some.line.now, all, count, inl (c.in-Err-Stop.stop.left, wrong c.in-Some.line.now c.in-Err-Stop.stop read, place))

pub returns-in-Err-NoCommand-clause-fault : goal.returns-in-Err-NoCommand-clause-fault
returns-in-Err-NoCommand-clause-fault c =
    let t = YieldsList-turn (YieldsList-from_lines c.args.text.now cc) c.loop-line.yielded _ c.loop-line.yielded_by _ _ c.in-Some.line c.in-Some.is c.next.ensures.steps in
    let read = rw c.in-Err-NoCommand.field-0-is at c.in-Err-NoCommand.ensures in
    let before = map said_by c.loop-line.plan.items in
    let all = one_behind (lines c.args.text.now) (length c.loop-line.yielded) c.in-Some.line.now before t.0 t.1 c.loop-line.invariant in
    let count : c.len-in-Err-NoCommand.result + 1 ≡ length before + 1 = omega (arith, length-map c.loop-line.plan.items said_by, c.len-in-Err-NoCommand.ensures, c.loop-line.plan.ok.0) in
    (before, c.in-Some.line.now, all, count, inr (read, refl, refl))

pub returns-in-Err-NoMemory-clause-fault : goal.returns-in-Err-NoMemory-clause-fault
returns-in-Err-NoMemory-clause-fault c =
    let t = YieldsList-turn (YieldsList-from_lines c.args.text.now cc) c.loop-line.yielded _ c.loop-line.yielded_by _ _ c.in-Some.line c.in-Some.is c.next.ensures.steps in
    let before = map said_by c.loop-line.plan.items in
    (before, c.in-Some.line.now, one_behind (lines c.args.text.now) (length c.loop-line.yielded) c.in-Some.line.now before t.0 t.1 c.loop-line.invariant)

pub returns-in_err-push-in-Ok-clause-fault : goal.returns-in_err-push-in-Ok-clause-fault
returns-in_err-push-in-Ok-clause-fault c =
    let t = YieldsList-turn (YieldsList-from_lines c.args.text.now cc) c.loop-line.yielded _ c.loop-line.yielded_by _ _ c.in-Some.line c.in-Some.is c.next.ensures.steps in
    let before = map said_by c.loop-line.plan.items in
    fails_so (IsFirstFault (lines c.args.text.now)) c.from_residual.result c.from_residual.ensures.1
    (before, c.in-Some.line.now, one_behind (lines c.args.text.now) (length c.loop-line.yielded) c.in-Some.line.now before t.0 t.1 c.loop-line.invariant)

pub returns-clause-read : goal.returns-clause-read
returns-clause-read c =
    let t = YieldsList-end (YieldsList-from_lines c.args.text.now cc) c.loop-line.yielded _ c.loop-line.yielded_by _ _ c.in-None.is c.next.ensures.steps in
    let past : length (lines c.args.text.now) ≤ length c.loop-line.yielded = omega (arith, t.1) in
    all_read (lines c.args.text.now) (length c.loop-line.yielded) _ past c.loop-line.invariant

use Rattle.std.proofs.Common.{◌≤◌, length, arith}
use Rattle.std.proofs.lemmas.Iterator.Consumers.{YieldsList-turn, YieldsList-end}
use Rattle.std.proofs.lemmas.Iterator.Splits.{YieldsList-from_lines}
use Rattle.std.proofs.lemmas.List.{length_push}
use Rattle.std.specs.Str.Lines.{lines}
use Rattle.jdwp_draw.proofs.SentLemmas.{goes_on, stops, ends}
use Rattle.jdwp_draw.proofs.sent.read_sent.Goals as goal

pub returns-then-not-branch : goal.returns-then-not-branch
returns-then-not-branch c =
    let t = YieldsList-turn (YieldsList-from_lines c.args.text.now cc) c.loop-line.yielded _ c.loop-line.yielded_by _ _ c.in-Some.line c.in-Some.is c.next.ensures.steps in
    let read = rw c.if-not-branch.true at c.in_ok-read_line.ensures in
    let bad = rw c.as_bytes.ensures.value at read in
    let all = stops (lines c.args.text.now) (length c.loop-line.yielded) c.in-Some.line.now c.loop-line.sent c.read_line.new.sent t.0 t.1 bad c.loop-line.invariant in
    record { debugger = all.debugger; target = all.target }

pub loop-line-preserved : goal.loop-line-preserved
loop-line-preserved c =
    let t = YieldsList-turn (YieldsList-from_lines c.args.text.now cc) c.loop-line.yielded _ c.loop-line.yielded_by _ _ c.in-Some.line c.in-Some.is c.next.ensures.steps in
    let read = rw c.if-not-branch.false at c.in_ok-read_line.ensures in
    let good = rw c.as_bytes.ensures.value at read in
    let one = length_push c.loop-line.yielded c.in-Some.line in
    rw one (goes_on (lines c.args.text.now) (length c.loop-line.yielded) c.in-Some.line.now c.loop-line.sent c.read_line.new.sent t.0 t.1 good c.loop-line.invariant)

pub returns : goal.returns
returns c =
    let t = YieldsList-end (YieldsList-from_lines c.args.text.now cc) c.loop-line.yielded _ c.loop-line.yielded_by _ _ c.in-None.is c.next.ensures.steps in
    let past : length (lines c.args.text.now) ≤ length c.loop-line.yielded = omega (arith, t.1) in
    let all = ends (lines c.args.text.now) (length c.loop-line.yielded) c.loop-line.sent past c.loop-line.invariant in
    record { debugger = all.debugger; target = all.target }

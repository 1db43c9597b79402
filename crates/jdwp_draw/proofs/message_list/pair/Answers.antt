use Rattle.std.proofs.Common.{◌≤◌, length, arith}
use Rattle.std.proofs.lemmas.Iterator.Consumers.{YieldsList-turn, YieldsList-end}
use Rattle.std.proofs.lemmas.Iterator.Splits.{YieldsList-from_lines}
use Rattle.std.proofs.lemmas.List.{length_push}
use Rattle.std.specs.Str.Lines.{lines}
use Rattle.jdwp_draw.proofs.StreamLemmas.{pairs_end, pairs_no_more, pairs_on}
use Rattle.jdwp_draw.proofs.message_list.pair.Goals as goal

pub returns-in_default : goal.returns-in_default
returns-in_default c =
    let t = YieldsList-turn (YieldsList-from_lines c.args.text.now cc) c.loop-line.yielded _ c.loop-line.yielded_by _ _ c.in-Some.line c.in-Some.is c.next.ensures.steps in
    let shown = rw c.in_default.is at c.in_ok-message.ensures in
    pairs_no_more (lines c.args.text.now) (length c.loop-line.yielded) c.in-Some.line.now c.loop-line.streams c.next_shown.new.self _ _ t.0 t.1 shown c.loop-line.invariant

pub loop-line-preserved : goal.loop-line-preserved
loop-line-preserved c =
    let t = YieldsList-turn (YieldsList-from_lines c.args.text.now cc) c.loop-line.yielded _ c.loop-line.yielded_by _ _ c.in-Some.line c.in-Some.is c.next.ensures.steps in
    let shown = rw c.in-Some-2.is at c.in_ok-message.ensures in
    rw (length_push c.loop-line.yielded c.in-Some.line)
    (pairs_on (lines c.args.text.now) (length c.loop-line.yielded) c.in-Some.line.now c.loop-line.streams c.next_shown.new.self c.in-Some-2.message _ _ _ t.0 t.1 shown c.in_ok-push.ensures.items c.loop-line.invariant)

pub returns : goal.returns
returns c =
    let t = YieldsList-end (YieldsList-from_lines c.args.text.now cc) c.loop-line.yielded _ c.loop-line.yielded_by _ _ c.in-None.is c.next.ensures.steps in
    let past : length (lines c.args.text.now) ≤ length c.loop-line.yielded = omega (arith, t.1) in
    pairs_end (lines c.args.text.now) (length c.loop-line.yielded) c.loop-line.streams _ _ past c.loop-line.invariant

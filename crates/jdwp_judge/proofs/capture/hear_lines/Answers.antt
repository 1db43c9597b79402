use Rattle.std.proofs.Common.{◌≡◌, [], ◌∷◌, ◌+◌, ◌∙◌, ◌++◌, ◌≤◌, ℕ, List, length, take, sym, ap, arith}
use Rattle.std.proofs.lemmas.Iterator.Consumers.{YieldsList-turn, YieldsList-end}
use Rattle.std.proofs.lemmas.Iterator.Splits.{YieldsList-from_lines}
use Rattle.std.proofs.lemmas.List.{length_push, take_all, take_more}
use Rattle.std.specs.Str.Lines.{lines}
use Rattle.jdwp_show.specs.declared.table.Table.{Table}
use Rattle.jdwp_show.proofs.TextLemmas.{grows_none, grows_as}
use Rattle.jdwp_judge.specs.LineJudges.{HasHeardLines, HasHeardLine}
use Rattle.jdwp_judge.proofs.CaptureLaws.{told_nothing, told_more}
use Rattle.jdwp_judge.proofs.capture.hear_lines.Goals as goal

pub loop-line-init : goal.loop-line-init
loop-line-init c = record { heard = λ table start. start; told_so = λ table start. grows_as (sym (told_nothing table)) (grows_none c.args.lines.now.lines) }

pub loop-line-preserved : goal.loop-line-preserved
loop-line-preserved c =
    let t = YieldsList-turn (YieldsList-from_lines c.args.text.now cc) c.loop-line.yielded _ c.loop-line.yielded_by _ _ c.in-Some.line c.in-Some.is c.next.ensures.steps in
    let all : List (List ℕ) = lines c.args.text.now in
    let k : ℕ = length c.loop-line.yielded in
    let before : List (List ℕ) = take k all in
    let line : List ℕ = c.as_bytes.result.now in
    let is : line ≡ c.in-Some.line.now = c.as_bytes.ensures.value in
    let one = length_push c.loop-line.yielded c.in-Some.line in
    let more : take (k + 1) all ≡ before ++ line ∷ [] = take_more all k c.in-Some.line.now t.0 ∙ ap (λ (x : List ℕ). before ++ x ∷ []) (sym t.1 ∙ sym is) in
    let heard : (table : Table) → HasHeardLines table c.args.judge.now [] → HasHeardLine table c.hear.new.self before line c.loop-line.lines c.hear.new.lines =
    λ table start. c.in_ok-hear.ensures table before (c.loop-line.invariant.heard table start) in
    record {
      heard = λ table start. rw (one, more) (heard table start).heard;
      told_so = λ table start. rw (one, more) (told_more table c.hear.new.self before line c.args.lines.now c.loop-line.lines c.hear.new.lines (c.loop-line.invariant.told_so table start) (heard table start));
    }

pub returns-clause-heard : goal.returns-clause-heard
returns-clause-heard c =
    let t = YieldsList-end (YieldsList-from_lines c.args.text.now cc) c.loop-line.yielded _ c.loop-line.yielded_by _ _ c.in-None.is c.next.ensures.steps in
    let past : length (lines c.args.text.now) ≤ length c.loop-line.yielded = omega (arith, t.1) in
    λ table start. rw (take_all (length c.loop-line.yielded) (lines c.args.text.now) past) at (c.loop-line.invariant.heard table start)

pub returns-clause-told : goal.returns-clause-told
returns-clause-told c =
    let t = YieldsList-end (YieldsList-from_lines c.args.text.now cc) c.loop-line.yielded _ c.loop-line.yielded_by _ _ c.in-None.is c.next.ensures.steps in
    let past : length (lines c.args.text.now) ≤ length c.loop-line.yielded = omega (arith, t.1) in
    λ table start. rw (take_all (length c.loop-line.yielded) (lines c.args.text.now) past) at (c.loop-line.invariant.told_so table start)

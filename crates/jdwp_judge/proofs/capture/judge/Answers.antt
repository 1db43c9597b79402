use Rattle.std.proofs.Common.{refl}
use Rattle.std.specs.Str.Lines.{lines}
use Rattle.jdwp_show.specs.Lines.{bad_line}
use Rattle.jdwp_judge.proofs.CaptureLaws.{fault_judged, lines_judged}
use Rattle.jdwp_judge.proofs.capture.judge.Goals as goal

pub returns-clause-fault : goal.returns-clause-fault
returns-clause-fault c =
    let text = c.args.text.now in
    fault_judged c.args.table text (bad_line text) _ _ _ refl (c.finish.ensures c.args.table (lines text) (c.in_ok-hear_lines.ensures.heard c.args.table c.under-judge.ensures))

pub returns-clause-lines : goal.returns-clause-lines
returns-clause-lines c =
    let text = c.args.text.now in
    lines_judged c.args.table text (bad_line text) _ _ _ _ refl (c.in_ok-hear_lines.ensures.told c.args.table c.under-judge.ensures) (c.finish.ensures c.args.table (lines text) (c.in_ok-hear_lines.ensures.heard c.args.table c.under-judge.ensures))

use Rattle.std.proofs.Common.{rules}
use Rattle.jdwp_show.specs.Sessions.{first_fault_under}
use Rattle.jdwp_program.specs.Captures.{Tells, verdict_text}
use Rattle.jdwp_program.proofs.Telling.{leaves_judged}
use Rattle.jdwp_program.proofs.captures.check_capture.Goals as goal

pub returns-clause-leaves : goal.returns-clause-leaves
returns-clause-leaves g c =
    let tells : Tells (first_fault_under c.args.table c.args.capture.now) (verdict_text (first_fault_under c.args.table c.args.capture.now)) (g.O.Write.contents c.args.out.now) (g.O.Write.contents c.tell.new.out) c.tell.result = search rules in
    leaves_judged c.args.table c.args.capture.now _ _ c.tell.result tells

use Rattle.std.proofs.Common.{rules}
use Rattle.jdwp_show.specs.Sessions.{first_fault_under}
use Rattle.jdwp_program.specs.Captures.{Tells, shown_text_under}
use Rattle.jdwp_program.proofs.Telling.{leaves_shown}
use Rattle.jdwp_program.proofs.captures.show_capture.Goals as goal

pub returns-clause-leaves : goal.returns-clause-leaves
returns-clause-leaves g c =
    let tells : Tells (first_fault_under c.args.table c.args.capture.now) (shown_text_under c.args.table c.args.capture.now) (g.O.Write.contents c.args.out.now) (g.O.Write.contents c.tell.new.out) c.tell.result = search rules in
    leaves_shown c.args.table c.args.capture.now _ _ c.tell.result tells

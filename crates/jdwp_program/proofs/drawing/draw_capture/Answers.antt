use Rattle.std.proofs.Common.{◌≡◌, rules}
use Rattle.jdwp_show.specs.Sessions.{first_fault}
use Rattle.std.specs.String.{string_bytes}
use Rattle.jdwp_program.specs.Captures.{Tells}
use Rattle.jdwp_program.proofs.Telling.{draws, leaves_drawn}
use Rattle.jdwp_program.proofs.drawing.draw_capture.Goals as goal

pub returns-clause-draws : goal.returns-clause-draws
returns-clause-draws g c =
    let tells : Tells (first_fault c.args.capture.now) (string_bytes c.in_ok-drawing.drawing.text) (g.O.Write.contents c.args.out.now) (g.O.Write.contents c.tell.new.out) c.tell.result = search rules in
    draws c.args.capture.now c.args.from c.args.count _ _ _ c.tell.result c.in_ok-drawing.ensures.text tells

pub returns-clause-leaves : goal.returns-clause-leaves
returns-clause-leaves g c =
    let tells : Tells (first_fault c.args.capture.now) (string_bytes c.in_ok-drawing.drawing.text) (g.O.Write.contents c.args.out.now) (g.O.Write.contents c.tell.new.out) c.tell.result = search rules in
    leaves_drawn c.args.capture.now c.args.from c.args.count _ _ _ c.tell.result c.in_ok-drawing.ensures.text tells

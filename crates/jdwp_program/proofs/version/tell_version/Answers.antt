use Rattle.std.proofs.Common.{rules, None}
use Rattle.jdwp_program.specs.Captures.{Tells}
use Rattle.jdwp_program.specs.Version.{version_line}
use Rattle.jdwp_program.proofs.Telling.{leaves_version}
use Rattle.jdwp_program.proofs.version.tell_version.Goals as goal

pub returns-clause-leaves : goal.returns-clause-leaves
returns-clause-leaves g c =
    let tells : Tells None version_line (g.O.Write.contents c.args.out.now) (g.O.Write.contents c.tell.new.out) c.tell.result = search rules in
    leaves_version _ _ c.tell.result tells

use Rattle.std.proofs.Common.{◌≡◌, ap, arith}
use Rattle.jdwp_debuggee.specs.Debuggees.{Debuggee}
use Rattle.jdwp_debuggee.proofs.MadeStrings.{object-fits}
use Rattle.jdwp_debuggee.proofs.debuggee.Debuggee.make_string.Goals as goal
use Rattle.jdwp_debuggee.proofs.debuggee.Debuggee.make_string.Goals.{in-Error, in-Data+in-Some}

pub returns-clause-fits : goal.returns-clause-fits
returns-clause-fits g c =
    let machine : c.self.inside.machine ≡ c.args.self.now.moment.machine = ap (λ (d : Debuggee g.row.M.Denot). d.moment.machine) c.self.view_is in
    elim c.match-branch-2.branch [
      | in-Error w ↦ rw w.result-is (λ h. omega (arith, h))
      | in-Data+in-Some w ↦ rw w.result-is (λ h. object-fits g.M.Machine.meaning g.met.M.Machine.lawful c.args.self.now.moment.machine _ w.in-Some.object (rw machine at c.self.invariant.sound.state) h)
    ]

use Rattle.std.proofs.Common.{◌≡◌, Some, ap, rules}
use Rattle.jdwp_layout.specs.Shapes.{shape}
use Rattle.jdwp_layout.specs.Invocations.{invocation_request}
use Rattle.jdwp_debuggee.specs.Debuggees.{Debuggee}
use Rattle.jdwp_debuggee.proofs.InvocationsRefused.{sent-refused}
use Rattle.jdwp_debuggee.proofs.debuggee.Debuggee.ask.Goals as goal

pub returns-in-Some-clause-refused : goal.returns-in-Some-clause-refused
returns-in-Some-clause-refused g c =
    let of : invocation_request c.args.query.now.set c.args.query.now.number ≡ Some (shape c.in-Some.layout) = search rules in
    let machine : c.self.inside.machine ≡ c.args.self.now.moment.machine = ap (λ (d : Debuggee g.row.M.Denot). d.moment.machine) c.self.view_is in
    sent-refused g.M.Machine.meaning g.met.M.Machine.lawful c.args.self.now.settings c.args.self.now.moment c.args.query.now (shape c.in-Some.layout) c.ask_invocation.result (rw machine at c.self.invariant.sound.state) of c.ask_invocation.ensures.value

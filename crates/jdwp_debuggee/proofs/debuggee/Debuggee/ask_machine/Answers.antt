use Rattle.jdwp_debuggee.proofs.Writable.{answer-writable}
use Rattle.jdwp_debuggee.proofs.debuggee.Debuggee.ask_machine.Goals as goal

pub sent-requires : goal.sent-requires
sent-requires g c =
    rw (c.sizes-sizes.ensures, c.in_ok-answer.ensures.value)
    (answer-writable g.M.Machine.meaning c.self.inside.machine c.args.query.now.set c.args.query.now.number _ (g.met.M.Machine.lawful.answers c.self.inside.machine c.args.query.now c.self.invariant.sound.state))

use Rattle.jdwp_link.specs.Insides.{link_of}
use Rattle.jdwp_link.proofs.Done.{step-done}
use Rattle.jdwp_link.proofs.link.Link.step.Goals as goal

pub invariant_of-self : goal.invariant_of-self
invariant_of-self g c =
    let s = c.self.inside in
    let e = c.in-Ok.ensures in
    rw c.has_stepped-self-inside.ensures
    ((step-done g.M.Machine.meaning c.of_sessions.ensures.worlds (link_of s.target s.debugger s.to_target.bytes s.to_debugger.bytes s.did) c.args.thread.0 c.in-Ok.stepped c.step.new.self s.to_target.capacity s.to_debugger.capacity c.of_sessions.ensures c.self.invariant
    c.keeps.ensures.target e.steps e.encoded e.packets c.keeps-in-Ok.ensures.target c.keeps-in-Ok.ensures.debugger).right)

pub returns-in-Ok-clause-ok : goal.returns-in-Ok-clause-ok
returns-in-Ok-clause-ok g c =
    let s = c.self.inside in
    let e = c.in-Ok.ensures in
    rw (← c.self.view_is, c.has_stepped-self-inside.ensures)
    ((step-done g.M.Machine.meaning c.of_sessions.ensures.worlds (link_of s.target s.debugger s.to_target.bytes s.to_debugger.bytes s.did) c.args.thread.0 c.in-Ok.stepped c.step.new.self s.to_target.capacity s.to_debugger.capacity c.of_sessions.ensures c.self.invariant
    c.keeps.ensures.target e.steps e.encoded e.packets c.keeps-in-Ok.ensures.target c.keeps-in-Ok.ensures.debugger).goes)

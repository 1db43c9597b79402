use Rattle.jdwp_link.specs.Insides.{link_of}
use Rattle.jdwp_link.proofs.Done.{defer-done}
use Rattle.jdwp_link.proofs.link.Link.set_deferring.Goals as goal

pub invariant_of-self : goal.invariant_of-self
invariant_of-self g c =
    let s = c.self.inside in
    (defer-done g.M.Machine.meaning (link_of s.target s.debugger s.to_target.bytes s.to_debugger.bytes s.did) c.args.deferring c.set_deferring.new.self s.to_target.capacity s.to_debugger.capacity c.self.invariant c.set_deferring.ensures c.keeps.ensures.target c.keeps.ensures.debugger).right

pub returns : goal.returns
returns g c =
    let s = c.self.inside in
    rw (← c.self.view_is)
    ((defer-done g.M.Machine.meaning (link_of s.target s.debugger s.to_target.bytes s.to_debugger.bytes s.did) c.args.deferring c.set_deferring.new.self s.to_target.capacity s.to_debugger.capacity c.self.invariant c.set_deferring.ensures c.keeps.ensures.target c.keeps.ensures.debugger).goes)

use Rattle.std.proofs.Common.{◌∙◌, ap}
use Rattle.jdwp_end.specs.Ends.{front_of}
use Rattle.jdwp_debugger.specs.Debuggers.{is_front}
use Rattle.jdwp_link.specs.Insides.{link_of}
use Rattle.jdwp_link.proofs.Tells.{waits-done}
use Rattle.jdwp_link.proofs.link.Link.wait_at_debugger.Goals as goal

pub invariant_of-self : goal.invariant_of-self
invariant_of-self g c =
    let s = c.self.inside in
    (waits-done g.M.Machine.meaning c.of_sessions.ensures.worlds (link_of s.target s.debugger s.to_target.bytes s.to_debugger.bytes s.did) c.read_nothing.new.debugger s.to_target.capacity s.to_debugger.capacity c.of_sessions.ensures c.self.invariant
    c.keeps.ensures.debugger (ap (λ l. is_front (front_of l.debugger.end)) c.self.view_is ∙ c.requires) c.read_nothing.ensures c.keeps-2.ensures.target c.keeps-2.ensures.debugger).right

pub returns : goal.returns
returns g c =
    let s = c.self.inside in
    rw (← c.self.view_is)
    ((waits-done g.M.Machine.meaning c.of_sessions.ensures.worlds (link_of s.target s.debugger s.to_target.bytes s.to_debugger.bytes s.did) c.read_nothing.new.debugger s.to_target.capacity s.to_debugger.capacity c.of_sessions.ensures c.self.invariant
    c.keeps.ensures.debugger (ap (λ l. is_front (front_of l.debugger.end)) c.self.view_is ∙ c.requires) c.read_nothing.ensures c.keeps-2.ensures.target c.keeps-2.ensures.debugger).goes)

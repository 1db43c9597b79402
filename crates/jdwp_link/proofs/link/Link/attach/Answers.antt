use Rattle.std.proofs.Common.{refl}
use Rattle.jdwp_link.specs.Insides.{link_of}
use Rattle.jdwp_link.proofs.Done.{attach-done, none-waits}
use Rattle.jdwp_link.proofs.link.Link.attach.Goals as goal

pub begin_session-begun-requires : goal.begin_session-begun-requires
begin_session-begun-requires g c =
    let s = c.self.inside in
    none-waits g.M.Machine.meaning (link_of s.target s.debugger s.to_target.bytes s.to_debugger.bytes s.did) c.self.invariant.is_link

pub invariant_of-self : goal.invariant_of-self
invariant_of-self g c =
    let s = c.self.inside in
    let b = c.begin_session-begun in
    (attach-done g.M.Machine.meaning c.of_sessions.ensures.worlds (link_of s.target s.debugger s.to_target.bytes s.to_debugger.bytes s.did) b.new.target b.new.debugger s.to_target c.clear_where.new.queue s.to_debugger c.clear_where-2.new.queue
    b.result c.self.invariant refl refl b.ensures.when b.ensures.begun b.ensures.same c.clear_where.ensures c.clear_where-2.ensures c.keeps.ensures.target c.keeps.ensures.debugger).right

pub returns : goal.returns
returns g c =
    let s = c.self.inside in
    let b = c.begin_session-begun in
    rw (← c.self.view_is)
    ((attach-done g.M.Machine.meaning c.of_sessions.ensures.worlds (link_of s.target s.debugger s.to_target.bytes s.to_debugger.bytes s.did) b.new.target b.new.debugger s.to_target c.clear_where.new.queue s.to_debugger c.clear_where-2.new.queue
    b.result c.self.invariant refl refl b.ensures.when b.ensures.begun b.ensures.same c.clear_where.ensures c.clear_where-2.ensures c.keeps.ensures.target c.keeps.ensures.debugger).goes)

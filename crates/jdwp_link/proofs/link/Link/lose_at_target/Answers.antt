use Rattle.std.proofs.Common.{arith, refl}
use Rattle.std.proofs.lemmas.List.{length-append}
use Rattle.jdwp_target.specs.Targets as targets
use Rattle.jdwp_link.specs.Insides.{link_of}
use Rattle.jdwp_link.proofs.Done.{target-loses-done}
use Rattle.jdwp_link.proofs.link.Link.lose_at_target.Goals as goal

pub lose_and_keep-requires : goal.lose_and_keep-requires
lose_and_keep-requires g c =
    let s = c.self.inside in
    omega (arith, length-append s.to_debugger.bytes s.target.end.outgoing, c.self.invariant.to_debugger_fits)

pub invariant_of-self : goal.invariant_of-self
invariant_of-self g c =
    let s = c.self.inside in
    let k = c.lose_and_keep in
    (target-loses-done g.M.Machine.meaning (link_of s.target s.debugger s.to_target.bytes s.to_debugger.bytes s.did) s.to_debugger k.new.queue (targets.with_taken s.target.end.outgoing s.target) k.new.target s.to_target.capacity
    c.self.invariant refl refl k.ensures.kept k.ensures.lost c.keeps.ensures.target c.keeps.ensures.debugger).right

pub returns : goal.returns
returns g c =
    let s = c.self.inside in
    let k = c.lose_and_keep in
    rw (← c.self.view_is)
    ((target-loses-done g.M.Machine.meaning (link_of s.target s.debugger s.to_target.bytes s.to_debugger.bytes s.did) s.to_debugger k.new.queue (targets.with_taken s.target.end.outgoing s.target) k.new.target s.to_target.capacity
    c.self.invariant refl refl k.ensures.kept k.ensures.lost c.keeps.ensures.target c.keeps.ensures.debugger).goes)

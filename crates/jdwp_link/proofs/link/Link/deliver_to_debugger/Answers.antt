use Rattle.std.proofs.Common.{◌-◌, ◌∙◌, ap, min, refl}
use Rattle.jdwp_link.specs.declared.way.Side.TheVariants as side
use Rattle.jdwp_link.specs.Insides.{link_of}
use Rattle.jdwp_link.specs.Ways.{with_carried}
use Rattle.jdwp_link.proofs.Done.{to-debugger-done}
use Rattle.jdwp_link.proofs.link.Link.deliver_to_debugger.Goals as goal

pub invariant_of-self : goal.invariant_of-self
invariant_of-self g c =
    let s = c.self.inside in
    let q = c.queue_to_debugger-kept in
    (to-debugger-done g.M.Machine.meaning (link_of s.target s.debugger s.to_target.bytes s.to_debugger.bytes s.did) s.to_debugger q.new.queue q.new.debugger c.pieces_to_debugger.new.debugger c.pieces_to_debugger.new.target c.args.most q.result c.min-left.result
    c.waiting.result c.room.result s.to_target.capacity c.of_sessions.ensures.finds c.self.invariant refl q.ensures.count q.ensures.left q.ensures.fed c.waiting.ensures.count c.room.ensures.room (c.min-left.ensures ∙ ap (λ k. min k (c.args.most - q.result)) c.min.ensures)
    c.pieces_to_debugger.ensures.taken c.pieces_to_debugger.ensures.fed c.keeps.ensures.target c.keeps.ensures.debugger).done.right

pub returns-clause-goes : goal.returns-clause-goes
returns-clause-goes g c =
    let s = c.self.inside in
    let q = c.queue_to_debugger-kept in
    rw (← c.self.view_is)
    ((to-debugger-done g.M.Machine.meaning (link_of s.target s.debugger s.to_target.bytes s.to_debugger.bytes s.did) s.to_debugger q.new.queue q.new.debugger c.pieces_to_debugger.new.debugger c.pieces_to_debugger.new.target c.args.most q.result c.min-left.result
    c.waiting.result c.room.result s.to_target.capacity c.of_sessions.ensures.finds c.self.invariant refl q.ensures.count q.ensures.left q.ensures.fed c.waiting.ensures.count c.room.ensures.room (c.min-left.ensures ∙ ap (λ k. min k (c.args.most - q.result)) c.min.ensures)
    c.pieces_to_debugger.ensures.taken c.pieces_to_debugger.ensures.fed c.keeps.ensures.target c.keeps.ensures.debugger).done.goes)

pub returns-clause-delivers : goal.returns-clause-delivers
returns-clause-delivers g c =
    let s = c.self.inside in
    let q = c.queue_to_debugger-kept in
    rw (← c.self.view_is)
    ((to-debugger-done g.M.Machine.meaning (link_of s.target s.debugger s.to_target.bytes s.to_debugger.bytes s.did) s.to_debugger q.new.queue q.new.debugger c.pieces_to_debugger.new.debugger c.pieces_to_debugger.new.target c.args.most q.result c.min-left.result
    c.waiting.result c.room.result s.to_target.capacity c.of_sessions.ensures.finds c.self.invariant refl q.ensures.count q.ensures.left q.ensures.fed c.waiting.ensures.count c.room.ensures.room (c.min-left.ensures ∙ ap (λ k. min k (c.args.most - q.result)) c.min.ensures)
    c.pieces_to_debugger.ensures.taken c.pieces_to_debugger.ensures.fed c.keeps.ensures.target c.keeps.ensures.debugger).delivers)

pub returns-clause-carried : goal.returns-clause-carried
returns-clause-carried g c =
    let s = c.self.inside in
    let q = c.queue_to_debugger-kept in
    rw (← c.self.view_is)
    (λ free. c.pieces_to_debugger.ensures.carried free ∙ ap (λ b. with_carried side.Target b (g.W.Way.story c.args.way.now)) (to-debugger-done g.M.Machine.meaning (link_of s.target s.debugger s.to_target.bytes s.to_debugger.bytes s.did) s.to_debugger q.new.queue q.new.debugger c.pieces_to_debugger.new.debugger c.pieces_to_debugger.new.target c.args.most q.result c.min-left.result
    c.waiting.result c.room.result s.to_target.capacity c.of_sessions.ensures.finds c.self.invariant refl q.ensures.count q.ensures.left q.ensures.fed c.waiting.ensures.count c.room.ensures.room (c.min-left.ensures ∙ ap (λ k. min k (c.args.most - q.result)) c.min.ensures)
    c.pieces_to_debugger.ensures.taken c.pieces_to_debugger.ensures.fed c.keeps.ensures.target c.keeps.ensures.debugger).carried)

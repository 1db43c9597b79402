use Rattle.std.proofs.Common.{◌≡◌, ◌++◌, ◌∙◌, ap, refl}
use Rattle.jdwp_debugger.specs.Debuggers.{tickets_of}
use Rattle.jdwp_link.specs.EventParts.{lost_of}
use Rattle.jdwp_link.specs.Insides.{link_of}
use Rattle.jdwp_link.proofs.Tells.{loses-done}
use Rattle.jdwp_link.proofs.link.Link.lose_at_debugger.Goals as goal
use Rattle.jdwp_link.proofs.link.Link.lose_at_debugger.Goals.{then-have_tickets+in_ok-reserve, else-have_tickets}

pub invariant_of-self : goal.invariant_of-self
invariant_of-self g c =
    let s = c.self.inside in
    let t = c.lose_and_tell in
    (loses-done g.M.Machine.meaning c.of_sessions.ensures.worlds (link_of s.target s.debugger s.to_target.bytes s.to_debugger.bytes s.did) s.to_target t.new.queue t.new.debugger s.to_debugger.capacity c.self.invariant refl
    t.ensures.debugger t.ensures.queue c.keeps-2.ensures.target c.keeps-2.ensures.debugger).right

pub returns-clause-ok : goal.returns-clause-ok
returns-clause-ok g c =
    let s = c.self.inside in
    let t = c.lose_and_tell in
    let same : c.if-have_tickets.outcomes.items ≡ c.args.outcomes.now.items =
    elim c.if-have_tickets.branch [ then-have_tickets+in_ok-reserve w ↦ ap (λ v. v.items) w.outcomes-is ∙ w.reserve.ensures.items | else-have_tickets w ↦ ap (λ v. v.items) w.outcomes-is ] in (
      lost_of (tickets_of s.debugger.pending),
      t.ensures.told ∙ ap (λ os. os ++ lost_of (tickets_of s.debugger.pending)) same,
      rw (← c.self.view_is)
          ((loses-done g.M.Machine.meaning c.of_sessions.ensures.worlds (link_of s.target s.debugger s.to_target.bytes s.to_debugger.bytes s.did) s.to_target t.new.queue t.new.debugger s.to_debugger.capacity c.self.invariant refl
          t.ensures.debugger t.ensures.queue c.keeps-2.ensures.target c.keeps-2.ensures.debugger).goes),
    )

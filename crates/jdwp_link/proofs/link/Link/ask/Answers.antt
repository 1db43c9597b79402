use Rattle.std.proofs.Common.{[], ◌∷◌, ◌++◌, ◌∙◌, ap, subst}
use Rattle.jdwp_link.specs.EventParts.{AsksSo}
use Rattle.jdwp_link.specs.Insides.{link_of}
use Rattle.jdwp_link.proofs.Tells.{ask-done}
use Rattle.jdwp_link.proofs.link.Link.ask.Goals as goal

pub invariant_of-self-2 : goal.invariant_of-self-2
invariant_of-self-2 g c =
    let s = c.self.inside in
    let o = c.in_ok-outcome.outcome in
    let after = c.ask_debugger.new.debugger in
    (ask-done g.M.Machine.meaning (link_of s.target s.debugger s.to_target.bytes s.to_debugger.bytes s.did) c.args.command.now o after s.to_target.capacity s.to_debugger.capacity c.of_sessions.ensures.finds c.self.invariant
    c.keeps.ensures.debugger (subst (λ k. AsksSo k s.debugger o after) c.in_ok-copy.ensures c.in_ok-outcome.ensures.ok) c.keeps-2.ensures.target c.keeps-2.ensures.debugger).right

pub returns-clause-ok : goal.returns-clause-ok
returns-clause-ok g c =
    let s = c.self.inside in
    let o = c.in_ok-outcome.outcome in
    let after = c.ask_debugger.new.debugger in (
      o ∷ [],
      c.push_reserved.ensures.items ∙ ap (λ os. os ++ o ∷ []) c.reserve.ensures.items,
      rw (← c.self.view_is)
          ((ask-done g.M.Machine.meaning (link_of s.target s.debugger s.to_target.bytes s.to_debugger.bytes s.did) c.args.command.now o after s.to_target.capacity s.to_debugger.capacity c.of_sessions.ensures.finds c.self.invariant
          c.keeps.ensures.debugger (subst (λ k. AsksSo k s.debugger o after) c.in_ok-copy.ensures c.in_ok-outcome.ensures.ok) c.keeps-2.ensures.target c.keeps-2.ensures.debugger).goes),
    )

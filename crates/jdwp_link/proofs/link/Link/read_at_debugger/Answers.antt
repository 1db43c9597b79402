use Rattle.std.proofs.Common.{◌++◌, ◌∙◌, ap, refl, subst, sym}
use Rattle.std.proofs.lemmas.List.{append_assoc}
use Rattle.jdwp_debugger.specs.DebuggerTurns as turns
use Rattle.jdwp_link.specs.EventParts.{is_left, lost_where, outcomes_of}
use Rattle.jdwp_link.specs.Insides.{IsRightLink, link_of}
use Rattle.jdwp_link.specs.Told.{told_outcomes}
use Rattle.jdwp_link.proofs.Keeping.{small-limits}
use Rattle.jdwp_link.proofs.Settling.{read-fails}
use Rattle.jdwp_link.proofs.Tells.{read-done, read-fits, room-to-keep}
use Rattle.jdwp_link.proofs.link.Link.read_at_debugger.Goals as goal

pub settle-requires-clause-kept : goal.settle-requires-clause-kept
settle-requires-clause-kept g c =
    let s = c.self.inside in
    let l = link_of s.target s.debugger s.to_target.bytes s.to_debugger.bytes s.did in
    λ left. room-to-keep s.to_target.bytes c.turn.new.self.end.outgoing s.to_target.capacity
    (read-fits g.M.Machine.meaning c.of_sessions.ensures.worlds l c.in-Ok.read c.turn.new.self s.to_target.capacity s.to_debugger.capacity c.of_sessions.ensures c.self.invariant c.keeps.ensures.debugger c.in-Ok.ensures.turns c.keeps-in-Ok.ensures.debugger)

pub invariant_of-self : goal.invariant_of-self
invariant_of-self g c =
    let s = c.self.inside in
    let l = link_of s.target s.debugger s.to_target.bytes s.to_debugger.bytes s.did in
    (read-done g.M.Machine.meaning c.of_sessions.ensures.worlds l c.in-Ok.read c.turn.new.self c.settle.new.debugger s.to_target c.settle.new.queue c.tell_read-self-inside.result s.to_debugger.capacity c.of_sessions.ensures c.self.invariant refl
    c.keeps.ensures.debugger c.in-Ok.ensures.turns c.keeps-in-Ok.ensures.debugger c.tell_read-self-inside.ensures.did c.settle.ensures.debugger c.settle.ensures.queue c.keeps-in-Ok-2.ensures.target c.keeps-in-Ok-2.ensures.debugger).right

pub invariant_of-self-in-Err : goal.invariant_of-self-in-Err
invariant_of-self-in-Err g c =
    let s = c.self.inside in
    let m = g.M.Machine.meaning in
    let l = link_of s.target s.debugger s.to_target.bytes s.to_debugger.bytes s.did in
    let fails = read-fails m c.of_sessions.ensures.worlds l c.in-Err.fault c.turn.new.self c.of_sessions.ensures (small-limits m l c.self.invariant.is_link c.keeps.ensures.debugger) c.keeps.ensures.debugger c.self.invariant.is_link c.in-Err.ensures.turns in
    subst (λ d. IsRightLink m (link_of s.target d s.to_target.bytes s.to_debugger.bytes s.did) s.to_target.capacity s.to_debugger.capacity) (sym fails.1) c.self.invariant

pub returns-in-Ok-clause-ok : goal.returns-in-Ok-clause-ok
returns-in-Ok-clause-ok g c =
    let s = c.self.inside in
    let l = link_of s.target s.debugger s.to_target.bytes s.to_debugger.bytes s.did in
    let after = c.turn.new.self in
    let os = told_outcomes (outcomes_of (turns.read_meaning c.in-Ok.read)) in (
      os ++ lost_where (is_left after) after,
      c.settle.ensures.told ∙ (ap (λ l. l ++ lost_where (is_left after) after) c.tell_read-self-inside.ensures.items ∙ append_assoc c.args.outcomes.now.items os (lost_where (is_left after) after)),
      rw (← c.self.view_is)
          ((read-done g.M.Machine.meaning c.of_sessions.ensures.worlds l c.in-Ok.read after c.settle.new.debugger s.to_target c.settle.new.queue c.tell_read-self-inside.result s.to_debugger.capacity c.of_sessions.ensures c.self.invariant refl
          c.keeps.ensures.debugger c.in-Ok.ensures.turns c.keeps-in-Ok.ensures.debugger c.tell_read-self-inside.ensures.did c.settle.ensures.debugger c.settle.ensures.queue c.keeps-in-Ok-2.ensures.target c.keeps-in-Ok-2.ensures.debugger).goes),
    )

pub returns-in-Err-clause-err : goal.returns-in-Err-clause-err
returns-in-Err-clause-err g c =
    let s = c.self.inside in
    let m = g.M.Machine.meaning in
    let l = link_of s.target s.debugger s.to_target.bytes s.to_debugger.bytes s.did in
    let fails = read-fails m c.of_sessions.ensures.worlds l c.in-Err.fault c.turn.new.self c.of_sessions.ensures (small-limits m l c.self.invariant.is_link c.keeps.ensures.debugger) c.keeps.ensures.debugger c.self.invariant.is_link c.in-Err.ensures.turns in
    rw (← c.self.view_is) (ap (λ d. link_of s.target d s.to_target.bytes s.to_debugger.bytes s.did) fails.1, refl, fails.2)

pub wanted-requires : goal.wanted-requires
wanted-requires g c =
    let s = c.self.inside in
    let m = g.M.Machine.meaning in
    let l = link_of s.target s.debugger s.to_target.bytes s.to_debugger.bytes s.did in
    (read-fails m c.of_sessions.ensures.worlds l c.in-Err.fault c.turn.new.self c.of_sessions.ensures (small-limits m l c.self.invariant.is_link c.keeps.ensures.debugger) c.keeps.ensures.debugger c.self.invariant.is_link c.in-Err.ensures.turns).0

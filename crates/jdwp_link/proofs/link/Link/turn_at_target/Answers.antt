use Rattle.std.proofs.Common.{◌≡◌, ap, subst, sym}
use Rattle.jdwp_target.specs.declared.target.TargetFault.TheVariants as faults
use Rattle.jdwp_link.specs.Insides.{IsRightLink, link_of}
use Rattle.jdwp_link.proofs.Done.{turn-done}
use Rattle.jdwp_link.proofs.Going.{turn-fails}
use Rattle.jdwp_link.proofs.Keeping.{small-limits}
use Rattle.jdwp_link.proofs.link.Link.turn_at_target.Goals as goal

pub invariant_of-self : goal.invariant_of-self
invariant_of-self g c =
    let s = c.self.inside in
    let e = c.in-Ok.ensures in
    rw c.has_turned-self-inside.ensures
    ((turn-done g.M.Machine.meaning c.of_sessions.ensures.worlds (link_of s.target s.debugger s.to_target.bytes s.to_debugger.bytes s.did) c.in-Ok.turn c.turn.new.self s.to_target.capacity s.to_debugger.capacity c.of_sessions.ensures c.self.invariant
    c.keeps.ensures.debugger e.turns e.encoded e.packets c.keeps-in-Ok.ensures.target).right)

pub invariant_of-self-in-Err-NoMemory : goal.invariant_of-self-in-Err-NoMemory
invariant_of-self-in-Err-NoMemory g c =
    let s = c.self.inside in
    let m = g.M.Machine.meaning in
    let l = link_of s.target s.debugger s.to_target.bytes s.to_debugger.bytes s.did in
    let fails = turn-fails m c.of_sessions.ensures.worlds l c.in-Err-NoMemory.field-0 c.turn.new.self c.of_sessions.ensures (small-limits m l c.self.invariant.is_link c.keeps.ensures.debugger) c.self.invariant.is_link c.in-Err-NoMemory.ensures.turns in
    subst (λ t. IsRightLink m (link_of t s.debugger s.to_target.bytes s.to_debugger.bytes s.did) s.to_target.capacity s.to_debugger.capacity) (sym fails.1) c.self.invariant

pub unreachable-requires : goal.unreachable-requires
unreachable-requires g c =
    let s = c.self.inside in
    let m = g.M.Machine.meaning in
    let l = link_of s.target s.debugger s.to_target.bytes s.to_debugger.bytes s.did in
    let fails = turn-fails m c.of_sessions.ensures.worlds l c.in-Err-Frame.field-0 c.turn.new.self c.of_sessions.ensures (small-limits m l c.self.invariant.is_link c.keeps.ensures.debugger) c.self.invariant.is_link c.in-Err-Frame.ensures.turns in
    let none : c.in-Err-Frame.field-0 ≡ faults.NoMemory = fails.0 in
    let is = c.in-Err-Frame.field-0-is in
    absurd (cc)

pub returns-in-Ok-clause-ok : goal.returns-in-Ok-clause-ok
returns-in-Ok-clause-ok g c =
    let s = c.self.inside in
    let e = c.in-Ok.ensures in
    rw (← c.self.view_is, c.has_turned-self-inside.ensures)
    ((turn-done g.M.Machine.meaning c.of_sessions.ensures.worlds (link_of s.target s.debugger s.to_target.bytes s.to_debugger.bytes s.did) c.in-Ok.turn c.turn.new.self s.to_target.capacity s.to_debugger.capacity c.of_sessions.ensures c.self.invariant
    c.keeps.ensures.debugger e.turns e.encoded e.packets c.keeps-in-Ok.ensures.target).goes)

pub returns-in-Err-NoMemory-clause-err : goal.returns-in-Err-NoMemory-clause-err
returns-in-Err-NoMemory-clause-err g c =
    let s = c.self.inside in
    let m = g.M.Machine.meaning in
    let l = link_of s.target s.debugger s.to_target.bytes s.to_debugger.bytes s.did in
    let fails = turn-fails m c.of_sessions.ensures.worlds l c.in-Err-NoMemory.field-0 c.turn.new.self c.of_sessions.ensures (small-limits m l c.self.invariant.is_link c.keeps.ensures.debugger) c.self.invariant.is_link c.in-Err-NoMemory.ensures.turns in
    rw (← c.self.view_is) (ap (λ t. link_of t s.debugger s.to_target.bytes s.to_debugger.bytes s.did) fails.1, fails.2)

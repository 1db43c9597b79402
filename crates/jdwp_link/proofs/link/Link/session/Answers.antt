use Rattle.jdwp_link.specs.Insides.{link_of}
use Rattle.jdwp_link.proofs.Going.{turn-fails}
use Rattle.jdwp_link.proofs.Holding.{counts-at-most, holds-suspended, mirrors-seen, stays-true}
use Rattle.jdwp_link.proofs.Keeping.{small-limits}
use Rattle.jdwp_link.proofs.Settling.{read-fails}
use Rattle.jdwp_link.proofs.link.Link.session.Goals as goal

pub returns-clause-stands : goal.returns-clause-stands
returns-clause-stands g c = rw (← c.self.view_is) c.self.invariant.is_link

pub returns-clause-mirror : goal.returns-clause-mirror
returns-clause-mirror g c =
    let s = c.self.inside in
    let l = link_of s.target s.debugger s.to_target.bytes s.to_debugger.bytes s.did in
    rw (← c.self.view_is) (λ x at. mirrors-seen g.M.Machine.meaning c.of_sessions.ensures.worlds _ _ l x at)

pub returns-clause-held : goal.returns-clause-held
returns-clause-held g c =
    let s = c.self.inside in
    let l = link_of s.target s.debugger s.to_target.bytes s.to_debugger.bytes s.did in
    let link = c.self.invariant.is_link in
    rw (← c.self.view_is) (holds-suspended g.M.Machine.meaning c.of_sessions.ensures.worlds _ _ l link.world c.keeps.ensures.debugger.own link.stands)

pub returns-clause-at_most : goal.returns-clause-at_most
returns-clause-at_most g c =
    let s = c.self.inside in
    let l = link_of s.target s.debugger s.to_target.bytes s.to_debugger.bytes s.did in
    rw (← c.self.view_is) (λ x at. counts-at-most g.M.Machine.meaning c.of_sessions.ensures.worlds _ _ l x c.keeps.ensures.debugger.own at)

pub returns-clause-stays : goal.returns-clause-stays
returns-clause-stays g c =
    let s = c.self.inside in
    let l = link_of s.target s.debugger s.to_target.bytes s.to_debugger.bytes s.did in
    rw (← c.self.view_is) (λ x at. stays-true g.M.Machine.meaning c.of_sessions.ensures.worlds _ _ l x c.keeps.ensures.debugger.own at)

pub returns-clause-faultless : goal.returns-clause-faultless
returns-clause-faultless g c =
    let s = c.self.inside in
    let m = g.M.Machine.meaning in
    let l = link_of s.target s.debugger s.to_target.bytes s.to_debugger.bytes s.did in
    let link = c.self.invariant.is_link in
    let keeps = c.keeps.ensures.debugger in
    let small = small-limits m l link keeps in
    rw (← c.self.view_is) (record {
      target = λ fault after turns. (turn-fails m c.of_sessions.ensures.worlds l fault after c.of_sessions.ensures small link turns).0;
      debugger = λ fault after turns. (read-fails m c.of_sessions.ensures.worlds l fault after c.of_sessions.ensures small keeps link turns).0;
    })

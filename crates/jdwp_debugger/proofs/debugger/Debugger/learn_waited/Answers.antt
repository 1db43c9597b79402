use Rattle.std.proofs.Common.{◌≡◌, ◌∙◌, ap, sym, subst, Some}
use Rattle.jdwp_debugger.specs.Debuggers.{Asked, Debugger}
use Rattle.jdwp_debugger.specs.FollowingKept.{HasNoTicket}
use Rattle.jdwp_debugger.specs.PendingKept.{asked_of}
use Rattle.jdwp_debugger.proofs.Keeping.{own-at}
use Rattle.jdwp_debugger.proofs.debugger.Debugger.learn_waited.Goals as goal

pub follow_waited-requires : goal.follow_waited-requires
follow_waited-requires c =
    let ps = c.self.inside.pending in
    let bare = subst (λ (d : Debugger). HasNoTicket c.args.place d.pending) (sym c.self.view_is) c.requires.bare in
    own-at ps c.args.place (asked_of (c.at.result.0, c.at.result.1.now)) c.self.invariant.own c.at.ensures
    (let same : asked_of (c.at.result.0, c.at.result.1.now) ≡ bare.0 = some-same (sym c.at.ensures ∙ bare.1) in ap (λ (a : Asked). a.ticket) same ∙ bare.2)
  where
    some-same : {a b : Asked} → Some a ≡ Some b → a ≡ b
    some-same {a} {b} h = cc

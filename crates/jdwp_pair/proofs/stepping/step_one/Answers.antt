use Rattle.std.proofs.Common.{◌∙◌, ℕ, List, subst, sym}
use Rattle.jdwp_target.specs.Targets.{Target}
use Rattle.jdwp_engine.specs.Rounds.{IsAhead, id_in}
use Rattle.jdwp_pair.proofs.Leading.{unmade-live}
use Rattle.jdwp_pair.proofs.stepping.step_one.Goals as goal

pub returns-then-not-did-clause-ahead : goal.returns-then-not-did-clause-ahead
returns-then-not-did-clause-ahead g c = λ ahead.
    let walk = c.args.walk.now in
    let same = unmade-live g.M.Machine.meaning c.args.thread.0 c.args.link.now c.act.new.link c.session.ensures.stands c.in-Ok.ensures.acts (sym c.did.ensures ∙ c.if-not-did.true) in
    subst (λ (ids : List ℕ). IsAhead ids (id_in walk.last) walk.place) (sym same) ahead

pub returns-clause-ahead : goal.returns-clause-ahead
returns-clause-ahead g c = λ before.
    let walk = c.renew.new.self in
    subst (λ (t : Target _). IsAhead (g.M.Machine.meaning.live t.moment.machine) (id_in walk.last) walk.place) c.target.ensures
    (subst (λ (ids : List ℕ). IsAhead ids (id_in walk.last) walk.place) c.live.ensures.live c.renew.ensures.ahead)

use Rattle.std.proofs.Common.{◌≡◌, ◌||◌, true, false, ℕ, Bool, List, Option, Some, None, refl, subst, sym, ap, ◌∙◌, rules}
use Rattle.jdwp_value.specs.declared.id.ObjectId.{ObjectId}
use Rattle.jdwp_model.specs.Events as events
use Rattle.jdwp_target.specs.Targets.{Target}
use Rattle.jdwp_engine.specs.Rounds.{IsAhead, IsNext, id_in}
use Rattle.jdwp_pair.specs.Rounds.{StepsUntil}
use Rattle.jdwp_pair.proofs.Leading.{moves-none, moves-on, moves-one, quietly-ends, steps-begin, steps-on, steps-over}
use Rattle.jdwp_pair.proofs.stepping.step_each.Goals as goal

pub loop-thread-init : goal.loop-thread-init
loop-thread-init g c =
    let m = g.M.Machine.meaning in
    let first = c.args.link.now in
    let walk = c.begin-walk.result in
    record {
      each = subst (λ (last : Option ObjectId). StepsUntil m first false (id_in last) first) (sym c.begin-walk.ensures.last) (steps-begin m first);
      moves = moves-none m first;
      works = c.requires;
      ahead = subst (λ (t : Target _). IsAhead (m.live t.moment.machine) (id_in walk.last) walk.place) c.target.ensures
          (subst (λ (ids : List ℕ). IsAhead ids (id_in walk.last) walk.place) c.live.ensures.live c.begin-walk.ensures.ahead);
    }

pub returns-clause-each : goal.returns-clause-each
returns-clause-each g c =
    let m = g.M.Machine.meaning in
    let last = id_in c.loop-thread.walk.last in
    steps-over m c.args.link.now c.loop-thread.link c.loop-thread.has_stepped last c.loop-thread.invariant.each
    (subst (λ (t : Target _). IsNext (m.live t.moment.machine) last None) c.target-in-loop-thread.ensures
    (subst (λ (ids : List ℕ). IsNext ids last None) c.live-in-loop-thread.ensures.live c.in_default.ensures.next))

pub returns-in-Err-clause-ends : goal.returns-in-Err-clause-ends
returns-in-Err-clause-ends g c =
    quietly-ends g.M.Machine.meaning c.in-Err.ended c.args.link.now c.loop-thread.link c.step_one.new.link c.loop-thread.invariant.moves c.in-Err.ensures.ends

pub loop-thread-preserved-then-has_stepped : goal.loop-thread-preserved-then-has_stepped
loop-thread-preserved-then-has_stepped g c =
    let m = g.M.Machine.meaning in
    let first = c.args.link.now in
    let last = id_in c.loop-thread.walk.last in
    let walk = c.next.new.self in
    record {
      each =
          subst (λ (x : Option ObjectId). StepsUntil m first c.loop-thread.has_stepped (id_in x) c.step_one.new.link) (sym (c.in-Ok.ensures.last ∙ c.in-Some.ensures.last))
          (steps-on m first c.loop-thread.link c.step_one.new.link c.loop-thread.has_stepped c.loop-thread.has_stepped last c.in-Some.thread.0 c.loop-thread.invariant.each
          (subst (λ (t : Target _). IsNext (m.live t.moment.machine) last (Some c.in-Some.thread.0)) c.target-in-loop-thread.ensures
          (subst (λ (ids : List ℕ). IsNext ids last (Some c.in-Some.thread.0)) c.live-in-loop-thread.ensures.live c.in-Some.ensures.next))
          c.in-Ok.ensures.acts (c.if-has_stepped.true ∙ sym (ap (λ (b : Bool). b || c.step_one.new.link.did) c.if-has_stepped.true)));
      moves = moves-on m first c.loop-thread.link c.step_one.new.link c.loop-thread.invariant.moves (moves-one m (events.Step c.in-Some.thread.0) c.loop-thread.link c.step_one.new.link tt c.in-Ok.ensures.acts);
      works = search rules;
      ahead = c.in-Ok.ensures.ahead
          (subst (λ (t : Target _). IsAhead (m.live t.moment.machine) (id_in walk.last) walk.place) c.target-in-loop-thread.ensures
          (subst (λ (ids : List ℕ). IsAhead ids (id_in walk.last) walk.place) c.live-in-loop-thread.ensures.live c.in-Some.ensures.ahead));
    }

pub loop-thread-preserved : goal.loop-thread-preserved
loop-thread-preserved g c =
    let m = g.M.Machine.meaning in
    let first = c.args.link.now in
    let last = id_in c.loop-thread.walk.last in
    let walk = c.next.new.self in
    record {
      each =
          subst (λ (x : Option ObjectId). StepsUntil m first c.did-has_stepped.result (id_in x) c.step_one.new.link) (sym (c.in-Ok.ensures.last ∙ c.in-Some.ensures.last))
          (steps-on m first c.loop-thread.link c.step_one.new.link c.loop-thread.has_stepped c.did-has_stepped.result last c.in-Some.thread.0 c.loop-thread.invariant.each
          (subst (λ (t : Target _). IsNext (m.live t.moment.machine) last (Some c.in-Some.thread.0)) c.target-in-loop-thread.ensures
          (subst (λ (ids : List ℕ). IsNext ids last (Some c.in-Some.thread.0)) c.live-in-loop-thread.ensures.live c.in-Some.ensures.next))
          c.in-Ok.ensures.acts (c.did-has_stepped.ensures ∙ sym (ap (λ (b : Bool). b || c.step_one.new.link.did) c.if-has_stepped.false)));
      moves = moves-on m first c.loop-thread.link c.step_one.new.link c.loop-thread.invariant.moves (moves-one m (events.Step c.in-Some.thread.0) c.loop-thread.link c.step_one.new.link tt c.in-Ok.ensures.acts);
      works = search rules;
      ahead = c.in-Ok.ensures.ahead
          (subst (λ (t : Target _). IsAhead (m.live t.moment.machine) (id_in walk.last) walk.place) c.target-in-loop-thread.ensures
          (subst (λ (ids : List ℕ). IsAhead ids (id_in walk.last) walk.place) c.live-in-loop-thread.ensures.live c.in-Some.ensures.ahead));
    }

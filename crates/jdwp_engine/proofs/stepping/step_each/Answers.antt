use Rattle.std.proofs.Common.{◌∙◌, ℕ, List, Option, Some, None, false, refl, subst, sym}
use Rattle.jdwp_value.specs.declared.id.ObjectId.{ObjectId}
use Rattle.jdwp_engine.specs.Rounds.{IsAhead, IsNext, StepsUntil, id_in}
use Rattle.jdwp_engine.proofs.Advancing.{stops}
use Rattle.jdwp_engine.proofs.Onward.{steps-begin, steps-on, steps-over, steps-stop}
use Rattle.jdwp_engine.proofs.Still.{steps-none}
use Rattle.jdwp_engine.proofs.stepping.step_each.Goals as goal

pub loop-thread-init : goal.loop-thread-init
loop-thread-init g c =
    let m = g.M.Machine.meaning in
    let first = c.args.target.now in
    let walk = c.begin-walk.result in
    record {
      made = refl;
      each = subst (λ (last : Option ObjectId). StepsUntil m first false (id_in last) first) (sym c.begin-walk.ensures.last) (steps-begin m first);
      ahead = subst (λ (ids : List ℕ). IsAhead ids (id_in walk.last) walk.place) c.live.ensures.live c.begin-walk.ensures.ahead;
    }

pub loop-thread-preserved : goal.loop-thread-preserved
loop-thread-preserved g c =
    let m = g.M.Machine.meaning in
    let first = c.args.target.now in
    let walk = c.next.new.self in
    let stepped = c.in-Ok.ensures.steps in
    record {
      made = c.in-Ok.ensures.goes first c.requires c.loop-thread.invariant.made;
      each =
          subst (λ (last : Option ObjectId). StepsUntil m first c.in-Ok.now (id_in last) c.step_one.new.target) (sym (c.in-Ok.ensures.last ∙ c.in-Some.ensures.last))
          (steps-on m first c.loop-thread.target c.step_one.new.target c.loop-thread.has_stepped c.in-Ok.now (id_in c.loop-thread.walk.last) c.in-Some.thread.0 stepped.0 c.loop-thread.invariant.each
          (subst (λ (ids : List ℕ). IsNext ids (id_in c.loop-thread.walk.last) (Some c.in-Some.thread.0)) c.live-in-loop-thread.ensures.live c.in-Some.ensures.next)
          stepped.1 stepped.2 stepped.3);
      ahead = c.in-Ok.ensures.ahead (subst (λ (ids : List ℕ). IsAhead ids (id_in walk.last) walk.place) c.live-in-loop-thread.ensures.live c.in-Some.ensures.ahead);
    }

pub returns-clause-stepped : goal.returns-clause-stepped
returns-clause-stepped g c = c.loop-thread.invariant.made

pub returns-clause-each : goal.returns-clause-each
returns-clause-each g c =
    steps-over g.M.Machine.meaning c.args.target.now c.loop-thread.target c.loop-thread.has_stepped (id_in c.loop-thread.walk.last) c.loop-thread.invariant.each
    (subst (λ (ids : List ℕ). IsNext ids (id_in c.loop-thread.walk.last) None) c.live-in-loop-thread.ensures.live c.in_default.ensures.next)

pub returns-in-Err-clause-memory : goal.returns-in-Err-clause-memory
returns-in-Err-clause-memory g c =
    let memory = c.in-Err.ensures.memory in
    stops c.args.target.now c.loop-thread.target c.step_one.new.target c.loop-thread.has_stepped c.requires c.loop-thread.invariant.made memory.0 memory.1

pub returns-in-Err-clause-each : goal.returns-in-Err-clause-each
returns-in-Err-clause-each g c =
    steps-stop g.M.Machine.meaning c.args.target.now c.loop-thread.target c.step_one.new.target c.loop-thread.has_stepped (id_in c.loop-thread.walk.last) c.in-Some.thread.0 c.in-Err.fault
    c.loop-thread.invariant.each
    (subst (λ (ids : List ℕ). IsNext ids (id_in c.loop-thread.walk.last) (Some c.in-Some.thread.0)) c.live-in-loop-thread.ensures.live c.in-Some.ensures.next)
    c.in-Err.ensures.wants

pub returns-then-is_still-clause-each : goal.returns-then-is_still-clause-each
returns-then-is_still-clause-each g c = steps-none g.M.Machine.meaning c.args.target.now (c.is_still.ensures.frozen c.if-is_still.true)

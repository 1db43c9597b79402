use Rattle.std.proofs.Common.{◌≡◌, ◌&&◌, Bool, true, false, not, length, nat_le, refl, subst, sym, ◌∙◌, rules, arith}
use Rattle.jdwp_debugger.specs.Debuggers.{Debugger, has_tickets}
use Rattle.jdwp_pair.specs.Calls.{at}
use Rattle.jdwp_pair.specs.PlanRuns.{Another, NoRound}
use Rattle.jdwp_pair.specs.Rounds.{IsRound}
use Rattle.jdwp_pair.proofs.Planned.{ends-finished, ends-round}
use Rattle.jdwp_pair.proofs.pairing.run_rounds.Goals as goal

pub loop-done-init : goal.loop-done-init
loop-done-init g c = record { rounds = NoRound; followed = c.requires.followed; works = c.requires.works }

pub loop-done-preserved : goal.loop-done-preserved
loop-done-preserved g c =
    let story = g.W.Pipe.story in
    let run = c.round.new.run in
    record {
      rounds =
          Another c.loop-done._done (at c.loop-done.link c.loop-done.run (story c.loop-done.out)) (at c.round.new.link run (story c.round.new.out)) c.loop-done.invariant.rounds
          (subst (λ (b : Bool). IsRound g.M.Machine.meaning c.args.plan.now (at c.loop-done.link c.loop-done.run (story c.loop-done.out)) b (at c.round.new.link c.round.new.run (story c.round.new.out))) c.in-Ok-true.field-0-test c.in-Ok-true.ensures.round)
          (subst (λ (d : Debugger). (run.begun && (nat_le (length c.args.plan.now) run.carried && not (has_tickets d.pending))) ≡ false) c.debugger.ensures (sym c.is_finished.ensures ∙ c.if-is_finished.false));
      followed = c.in-Ok-true.ensures.followed;
      works = search rules;
    }

pub returns-in-Ok-false-clause-ends : goal.returns-in-Ok-false-clause-ends
returns-in-Ok-false-clause-ends g c =
    let story = g.W.Pipe.story in
    record {
      rounds = c.loop-done._done;
      within = omega (arith, c.loop-done-test.true);
      last = at c.loop-done.link c.loop-done.run (story c.loop-done.out);
      reached = c.loop-done.invariant.rounds;
      ends = (
        at c.round.new.link c.round.new.run (story c.round.new.out),
        (subst (λ (b : Bool). IsRound g.M.Machine.meaning c.args.plan.now (at c.loop-done.link c.loop-done.run (story c.loop-done.out)) b (at c.round.new.link c.round.new.run (story c.round.new.out))) c.in-Ok-false.field-0-test c.in-Ok-false.ensures.round),
        refl,
        refl,
        c.waiting_line-line.ensures,
      );
    }

pub returns-in-Err-clause-ends : goal.returns-in-Err-clause-ends
returns-in-Err-clause-ends g c =
    let story = g.W.Pipe.story in
    ends-round g.M.Machine.meaning c.args.plan.now c.args.rounds c.in-Err.ended (at c.args.link.now c.args.run.now (story c.args.out.now)) (at c.loop-done.link c.loop-done.run (story c.loop-done.out)) c.loop-done._done
    c.round.new.link (story c.round.new.out) (omega (arith, c.loop-done-test.true)) c.loop-done.invariant.rounds c.in-Err.ensures.ends

pub returns-then-is_finished-clause-ends : goal.returns-then-is_finished-clause-ends
returns-then-is_finished-clause-ends g c =
    let story = g.W.Pipe.story in
    let run = c.round.new.run in
    ends-finished g.M.Machine.meaning c.args.plan.now c.args.rounds c.lose_both.result (at c.args.link.now c.args.run.now (story c.args.out.now)) (at c.loop-done.link c.loop-done.run (story c.loop-done.out))
    (at c.round.new.link run (story c.round.new.out)) c.loop-done._done c.lose_both.new.link (story c.lose_both.new.out) (omega (arith, c.loop-done-test.true)) c.loop-done.invariant.rounds
    (subst (λ (b : Bool). IsRound g.M.Machine.meaning c.args.plan.now (at c.loop-done.link c.loop-done.run (story c.loop-done.out)) b (at c.round.new.link c.round.new.run (story c.round.new.out))) c.in-Ok-true.field-0-test c.in-Ok-true.ensures.round)
    (subst (λ (d : Debugger). (run.begun && (nat_le (length c.args.plan.now) run.carried && not (has_tickets d.pending))) ≡ true) c.debugger.ensures (sym c.is_finished.ensures ∙ c.if-is_finished.true))
    c.lose_both.ensures.loses

pub returns-clause-ends : goal.returns-clause-ends
returns-clause-ends g c =
    record {
      rounds = c.loop-done._done;
      within = omega arith;
      last = at c.loop-done.link c.loop-done.run (g.W.Pipe.story c.loop-done.out);
      reached = c.loop-done.invariant.rounds;
      ends = (omega (arith, c.loop-done-test.false), refl, refl);
    }

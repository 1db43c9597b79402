use Rattle.std.proofs.Common.{◌≡◌, ℕ, arith, refl, rules, subst}
use Rattle.jdwp_engine.proofs.Runs.{going-opened}
use Rattle.jdwp_engine.specs.LiveRounds.{All, NoRound, OneMore, Rounds, Until}
use Rattle.jdwp_engine.proofs.Established.{none-opened}
use Rattle.jdwp_engine.proofs.live.run_rounds.Goals as goal

pub returns-in-Ends-clause-in_order : goal.returns-in-Ends-clause-in_order
returns-in-Ends-clause-in_order g c =
    (c.in-Ends.ensures.ends.1 c.args.target.now (g.P.LivePipe.story c.args.pipe.now).through c.loop-done.invariant.going).0

pub returns-in-Ends-clause-ended : goal.returns-in-Ends-clause-ended
returns-in-Ends-clause-ended g c =
    (c.in-Ends.ensures.ends.1 c.args.target.now (g.P.LivePipe.story c.args.pipe.now).through c.loop-done.invariant.going).1

pub loop-done-preserved : goal.loop-done-preserved
loop-done-preserved g c =
    let h = c.in_default.ensures.goes refl in
    record {
      going = h.1 c.args.target.now (g.P.LivePipe.story c.args.pipe.now).through c.loop-done.invariant.going;
      rounds = OneMore c.loop-done._done c.loop-done.target c.round.new.target (g.P.LivePipe.story c.loop-done.pipe) (g.P.LivePipe.story c.round.new.pipe) c.loop-done.invariant.rounds (c.in_default.ensures.round refl);
      greeted = c.in_default.ensures.greeted refl;
    }

pub loop-done-init : goal.loop-done-init
loop-done-init g c = record {
  going = going-opened (g.P.LivePipe.story c.args.pipe.now).through c.args.target.now c.requires.opened;
  rounds = NoRound;
  greeted = none-opened c.args.target.now c.requires.opened;
}

pub returns-clause-ended : goal.returns-clause-ended
returns-clause-ended g c =
    search rules

pub returns-in-Ends-clause-rounds : goal.returns-in-Ends-clause-rounds
returns-in-Ends-clause-rounds g c =
    Until c.loop-done._done c.loop-done.target c.round.new.target (g.P.LivePipe.story c.loop-done.pipe) (g.P.LivePipe.story c.round.new.pipe) c.in-Ends.ended (omega (arith, c.loop-done-test.true))
    c.loop-done.invariant.rounds c.in-Ends.ensures.last

pub returns-clause-rounds : goal.returns-clause-rounds
returns-clause-rounds g c =
    let all : c.loop-done._done ≡ c.args.rounds = omega (arith, c.loop-done-test.false) in
    All c.loop-done.target (g.P.LivePipe.story c.loop-done.pipe)
    (subst (λ (n : ℕ). Rounds g.M.Machine.meaning c.args.target.now (g.P.LivePipe.story c.args.pipe.now) n c.loop-done.target (g.P.LivePipe.story c.loop-done.pipe)) all c.loop-done.invariant.rounds)

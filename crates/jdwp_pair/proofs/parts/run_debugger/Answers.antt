use Rattle.std.proofs.Common.{Bool, subst, refl, rules, arith}
use Rattle.jdwp_pair.specs.Calls.{at}
use Rattle.jdwp_pair.specs.Rounds.{NotYet, OneMore, TurnsDebugger}
use Rattle.jdwp_pair.proofs.Leading.{ends-behind, once-more, repeats-lead, until-stops, until-used}
use Rattle.jdwp_pair.proofs.parts.run_debugger.Goals as goal

pub loop-done-init : goal.loop-done-init
loop-done-init g c = record { repeats = NotYet; handled = refl; followed = c.requires.followed; works = c.requires.works }

pub loop-done-preserved : goal.loop-done-preserved
loop-done-preserved g c =
    let story = g.W.Pipe.story in
    record {
      repeats =
          OneMore c.loop-done._done (at c.loop-done.link c.loop-done.run (story c.loop-done.out)) (at c.turn_debugger.new.link c.turn_debugger.new.run (story c.turn_debugger.new.out)) c.loop-done.invariant.repeats
          (subst (λ (b : Bool). TurnsDebugger g.M.Machine.meaning (at c.loop-done.link c.loop-done.run (story c.loop-done.out)) b (at c.turn_debugger.new.link c.turn_debugger.new.run (story c.turn_debugger.new.out))) c.in-Ok-true.field-0-test c.in-Ok-true.ensures.turns);
      handled = once-more c.loop-done._done;
      followed = c.in-Ok-true.ensures.followed;
      works = search rules;
    }

pub returns-in-Ok-false-clause-runs : goal.returns-in-Ok-false-clause-runs
returns-in-Ok-false-clause-runs g c =
    let story = g.W.Pipe.story in
    until-stops (TurnsDebugger g.M.Machine.meaning) (at c.args.link.now c.args.run.now (story c.args.out.now)) (at c.loop-done.link c.loop-done.run (story c.loop-done.out))
    (at c.turn_debugger.new.link c.turn_debugger.new.run (story c.turn_debugger.new.out)) c.loop-done._done c.loop-done.handled c.loop-done.invariant.repeats
    (subst (λ (b : Bool). TurnsDebugger g.M.Machine.meaning (at c.loop-done.link c.loop-done.run (story c.loop-done.out)) b (at c.turn_debugger.new.link c.turn_debugger.new.run (story c.turn_debugger.new.out))) c.in-Ok-false.field-0-test c.in-Ok-false.ensures.turns) c.loop-done.invariant.handled

pub returns-in-Err-clause-ends : goal.returns-in-Err-clause-ends
returns-in-Err-clause-ends g c =
    let m = g.M.Machine.meaning in
    let story = g.W.Pipe.story in
    let first = at c.args.link.now c.args.run.now (story c.args.out.now) in
    let now = at c.loop-done.link c.loop-done.run (story c.loop-done.out) in
    ends-behind m c.in-Err.ended first now c.turn_debugger.new.link (story c.turn_debugger.new.out) (repeats-lead m first c.loop-done._done now c.loop-done.invariant.repeats) c.in-Err.ensures.ends

pub returns-clause-runs : goal.returns-clause-runs
returns-clause-runs g c =
    let story = g.W.Pipe.story in
    until-used (TurnsDebugger g.M.Machine.meaning) (at c.args.link.now c.args.run.now (story c.args.out.now)) (at c.loop-done.link c.loop-done.run (story c.loop-done.out)) c.loop-done._done c.loop-done.handled
    c.loop-done.invariant.repeats (omega (arith, c.loop-done-test.false)) c.loop-done.invariant.handled

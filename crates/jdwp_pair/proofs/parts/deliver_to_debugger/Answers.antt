use Rattle.std.proofs.Common.{nat_lt, Bool, subst, refl, rules, arith}
use Rattle.jdwp_pair.specs.Rounds.{NotYet, OneMore, PieceToDebugger}
use Rattle.jdwp_pair.proofs.Keeping.{keeps-both, keeps-none}
use Rattle.jdwp_pair.proofs.Leading.{piece-to-debugger-moves, quietly-ends, repeats-move, until-stops, until-used}
use Rattle.jdwp_pair.proofs.parts.deliver_to_debugger.Goals as goal

pub loop-done-init : goal.loop-done-init
loop-done-init g c = record { repeats = NotYet; follows = keeps-none g.M.Machine.meaning c.args.link.now c.args.follower.now; works = c.requires }

pub loop-done-preserved : goal.loop-done-preserved
loop-done-preserved g c = record {
  repeats = OneMore c.loop-done._done c.loop-done.link c.piece_to_debugger.new.link c.loop-done.invariant.repeats
      (subst (λ (b : Bool). PieceToDebugger g.M.Machine.meaning c.loop-done.link b c.piece_to_debugger.new.link) c.in-Ok-true.field-0-test c.in-Ok-true.ensures.comes);
  follows = keeps-both g.M.Machine.meaning c.args.link.now c.loop-done.link c.piece_to_debugger.new.link c.args.follower.now c.loop-done.follower c.piece_to_debugger.new.follower c.loop-done.invariant.follows c.in-Ok-true.ensures.follows;
  works = search rules;
}

pub returns-in-Ok-false-clause-comes : goal.returns-in-Ok-false-clause-comes
returns-in-Ok-false-clause-comes g c = (
  nat_lt 0 c.loop-done._done,
  until-stops (PieceToDebugger g.M.Machine.meaning) c.args.link.now c.loop-done.link c.piece_to_debugger.new.link c.loop-done._done (nat_lt 0 c.loop-done._done) c.loop-done.invariant.repeats
      (subst (λ (b : Bool). PieceToDebugger g.M.Machine.meaning c.loop-done.link b c.piece_to_debugger.new.link) c.in-Ok-false.field-0-test c.in-Ok-false.ensures.comes) refl,
)

pub returns-in-Err-clause-ends : goal.returns-in-Err-clause-ends
returns-in-Err-clause-ends g c =
    let m = g.M.Machine.meaning in
    quietly-ends m c.in-Err.ended c.args.link.now c.loop-done.link c.piece_to_debugger.new.link
    (repeats-move m (PieceToDebugger m) (λ a b did d. piece-to-debugger-moves m a b did d) c.args.link.now c.loop-done._done c.loop-done.link c.loop-done.invariant.repeats) c.in-Err.ensures.ends

pub returns-clause-comes : goal.returns-clause-comes
returns-clause-comes g c = (
  nat_lt 0 c.loop-done._done,
  until-used (PieceToDebugger g.M.Machine.meaning) c.args.link.now c.loop-done.link c.loop-done._done (nat_lt 0 c.loop-done._done) c.loop-done.invariant.repeats (omega (arith, c.loop-done-test.false)) refl,
)

pub returns-in-Ok-false-clause-follows : goal.returns-in-Ok-false-clause-follows
returns-in-Ok-false-clause-follows g c =
    keeps-both g.M.Machine.meaning c.args.link.now c.loop-done.link c.piece_to_debugger.new.link c.args.follower.now c.loop-done.follower c.piece_to_debugger.new.follower c.loop-done.invariant.follows c.in-Ok-false.ensures.follows

pub returns-clause-follows : goal.returns-clause-follows
returns-clause-follows g c = c.loop-done.invariant.follows

use Rattle.std.proofs.Common.{◌≡◌, ◌≢◌, rules}
use Rattle.std.proofs.lemmas.Result.{err_from_is_err_and}
use Rattle.milunovesk.specs.End.Ends.{front_of}
use Rattle.milunovesk.specs.Target.Turn.TheVariants.{Nothing}
use Rattle.milunovesk_uses.specs.Answering.{NoTurn, OneMore, Turned}
use Rattle.milunovesk_uses.proofs.Resting.{nothing-More}
use Rattle.milunovesk_uses.proofs.target.answer.Goals as goal

pub loop-init : goal.loop-init
loop-init g c = NoTurn

pub loop-preserved : goal.loop-preserved
loop-preserved g c =
    let some : c.in_ok-turn.field-0 ≢ Nothing = search rules in
    OneMore c.loop.target c.turn.new.self c.in_ok-turn.field-0 c.loop.invariant some c.in_ok-turn.ensures.turns

pub returns-in_err-turn-clause-fails : goal.returns-in_err-turn-clause-fails
returns-in_err-turn-clause-fails g c =
    let p = err_from_is_err_and c.from_residual.result c.from_residual.ensures.1 in
    rw (p.1, p.2) (c.loop.target, rw (c.feed-taken.ensures.fed, c.feed-taken.ensures.count) at c.loop.invariant, c.in_err-turn.ensures.turns)

pub returns-clause-answered : goal.returns-clause-answered
returns-clause-answered g c =
    let m = g.M.Machine.meaning in
    let nothing : c.in_ok-turn.field-0 ≡ Nothing = search rules in
    let more = nothing-More m (front_of c.loop.target.end) c.loop.target c.turn.new.self (rw nothing at c.in_ok-turn.ensures.turns) in
    let turned = rw c.feed-taken.ensures.fed at c.loop.invariant in
    record {
      handled = c.turn.new.self;
      turned = rw more.1 turned;
      rests = rw more.1 more.0;
      count = c.take-filled.ensures.count;
      bytes = c.take-filled.ensures.bytes;
      taken = c.take-filled.ensures.taken;
    }

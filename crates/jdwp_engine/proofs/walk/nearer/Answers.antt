use Rattle.std.proofs.Common.{Option, subst, arith}
use Rattle.std.proofs.lemmas.Grind.{common_steps}
use Rattle.jdwp_value.specs.declared.id.ObjectId.{ObjectId}
use Rattle.jdwp_engine.specs.Rounds.{IsNext, id_in}
use Rattle.jdwp_engine.proofs.Onward.{next-below, next-first, next-kept, next-nearer}
use Rattle.jdwp_engine.proofs.walk.nearer.Goals as goal

pub returns-then-not-is_above : goal.returns-then-not-is_above
returns-then-not-is_above c = λ ids n.
    next-below ids c.args.thread.0 (id_in c.args.last) (id_in c.args.found) (grind (arith, common_steps, c.is_above.ensures, c.if-not-is_above.true)) n

pub returns-in-Some : goal.returns-in-Some
returns-in-Some c = λ ids n.
    next-kept ids c.args.thread.0 c.in-Some.other.0 (id_in c.args.last) (grind (arith, common_steps, c.if-other-thread.true))
    (subst (λ (f : Option ObjectId). IsNext ids (id_in c.args.last) (id_in f)) c.in-Some.is n)

pub returns-in_default : goal.returns-in_default
returns-in_default c = λ ids n.
    next-nearer ids c.args.thread.0 c.in-Some.other.0 (id_in c.args.last) (grind (arith, common_steps, c.is_above.ensures, c.if-not-is_above.false)) (grind (arith, common_steps, c.if-other-thread.false))
    (subst (λ (f : Option ObjectId). IsNext ids (id_in c.args.last) (id_in f)) c.in-Some.is n)

pub returns-in_default-2 : goal.returns-in_default-2
returns-in_default-2 c = λ ids n.
    next-first ids c.args.thread.0 (id_in c.args.last) (grind (arith, common_steps, c.is_above.ensures, c.if-not-is_above.false))
    (subst (λ (f : Option ObjectId). IsNext ids (id_in c.args.last) (id_in f)) c.in_default.is n)

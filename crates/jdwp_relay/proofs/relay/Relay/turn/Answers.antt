use Rattle.std.proofs.Common.{◌≡◌, true, false, Ok, Err, inl, inr, refl}
use Rattle.std.specs.declared.io.Error.{Error}
use Rattle.jdwp_relay.proofs.Recording.{covered, recorded, relaying}
use Rattle.jdwp_relay.proofs.relay.Relay.turn.Goals as goal

pub returns-in-Err-clause-turns : goal.returns-in-Err-clause-turns
returns-in-Err-clause-turns g c = inl (rw c.forget.ensures.writer at c.in-Err.ensures.passes, record { passage = refl; source = refl; sink = refl })

pub returns-in-Err-clause-relaying : goal.returns-in-Err-clause-relaying
returns-in-Err-clause-relaying g c = relaying {E = Error} _ _ (Err c.in-Err.error) _ _ (inl (rw c.forget.ensures.writer at c.in-Err.ensures.passes, record { passage = refl; source = refl; sink = refl }))

pub returns-in-Err-clause-covered : goal.returns-in-Err-clause-covered
returns-in-Err-clause-covered g c = λ start r d. covered {E = Error} start _ _ (Err c.in-Err.error) _ _ (inl (rw c.forget.ensures.writer at c.in-Err.ensures.passes, record { passage = refl; source = refl; sink = refl })) r d

pub returns-then-up-clause-turns : goal.returns-then-up-clause-turns
returns-then-up-clause-turns g c = (c.in-Ok.moved, c.in-Ok-down.moved, _, rw (c.forget.ensures.writer, c.stage.ensures) at c.in-Ok.ensures.passes, rw c.stage-2.ensures at c.in-Ok-down.ensures.passes, rw c.if-up.true refl)

pub returns-then-up-clause-relaying : goal.returns-then-up-clause-relaying
returns-then-up-clause-relaying g c = relaying {E = Error} _ _ (Ok true) _ _ ((c.in-Ok.moved, c.in-Ok-down.moved, _, rw (c.forget.ensures.writer, c.stage.ensures) at c.in-Ok.ensures.passes, rw c.stage-2.ensures at c.in-Ok-down.ensures.passes, rw c.if-up.true refl))

pub returns-then-up-clause-recorded : goal.returns-then-up-clause-recorded
returns-then-up-clause-recorded g c = λ start r d. recorded {E = Error} start _ _ true _ _ ((c.in-Ok.moved, c.in-Ok-down.moved, _, rw (c.forget.ensures.writer, c.stage.ensures) at c.in-Ok.ensures.passes, rw c.stage-2.ensures at c.in-Ok-down.ensures.passes, rw c.if-up.true refl)) r d

pub returns-then-up-clause-covered : goal.returns-then-up-clause-covered
returns-then-up-clause-covered g c = λ start r d. covered {E = Error} start _ _ (Ok true) _ _ ((c.in-Ok.moved, c.in-Ok-down.moved, _, rw (c.forget.ensures.writer, c.stage.ensures) at c.in-Ok.ensures.passes, rw c.stage-2.ensures at c.in-Ok-down.ensures.passes, rw c.if-up.true refl)) r d

pub returns-else-up-clause-turns : goal.returns-else-up-clause-turns
returns-else-up-clause-turns g c = (c.in-Ok.moved, c.in-Ok-down.moved, _, rw (c.forget.ensures.writer, c.stage.ensures) at c.in-Ok.ensures.passes, rw c.stage-2.ensures at c.in-Ok-down.ensures.passes, rw c.if-up.false refl)

pub returns-else-up-clause-relaying : goal.returns-else-up-clause-relaying
returns-else-up-clause-relaying g c = relaying {E = Error} _ _ (Ok c.in-Ok-down.moved) _ _ ((c.in-Ok.moved, c.in-Ok-down.moved, _, rw (c.forget.ensures.writer, c.stage.ensures) at c.in-Ok.ensures.passes, rw c.stage-2.ensures at c.in-Ok-down.ensures.passes, rw c.if-up.false refl))

pub returns-else-up-clause-recorded : goal.returns-else-up-clause-recorded
returns-else-up-clause-recorded g c = λ start r d. recorded {E = Error} start _ _ c.in-Ok-down.moved _ _ ((c.in-Ok.moved, c.in-Ok-down.moved, _, rw (c.forget.ensures.writer, c.stage.ensures) at c.in-Ok.ensures.passes, rw c.stage-2.ensures at c.in-Ok-down.ensures.passes, rw c.if-up.false refl)) r d

pub returns-else-up-clause-covered : goal.returns-else-up-clause-covered
returns-else-up-clause-covered g c = λ start r d. covered {E = Error} start _ _ (Ok c.in-Ok-down.moved) _ _ ((c.in-Ok.moved, c.in-Ok-down.moved, _, rw (c.forget.ensures.writer, c.stage.ensures) at c.in-Ok.ensures.passes, rw c.stage-2.ensures at c.in-Ok-down.ensures.passes, rw c.if-up.false refl)) r d

pub returns-in-Err-down-clause-turns : goal.returns-in-Err-down-clause-turns
returns-in-Err-down-clause-turns g c = inr (c.in-Ok.moved, _, rw (c.forget.ensures.writer, c.stage.ensures) at c.in-Ok.ensures.passes, c.in-Err-down.ensures.passes)

pub returns-in-Err-down-clause-relaying : goal.returns-in-Err-down-clause-relaying
returns-in-Err-down-clause-relaying g c = relaying {E = Error} _ _ (Err c.in-Err-down.error) _ _ (inr (c.in-Ok.moved, _, rw (c.forget.ensures.writer, c.stage.ensures) at c.in-Ok.ensures.passes, c.in-Err-down.ensures.passes))

pub returns-in-Err-down-clause-covered : goal.returns-in-Err-down-clause-covered
returns-in-Err-down-clause-covered g c = λ start r d. covered {E = Error} start _ _ (Err c.in-Err-down.error) _ _ (inr (c.in-Ok.moved, _, rw (c.forget.ensures.writer, c.stage.ensures) at c.in-Ok.ensures.passes, c.in-Err-down.ensures.passes)) r d

pub returns-in-Err-clause-recorded : goal.returns-in-Err-clause-recorded
returns-in-Err-clause-recorded g c = tt

pub returns-in-Err-down-clause-recorded : goal.returns-in-Err-down-clause-recorded
returns-in-Err-down-clause-recorded g c = tt

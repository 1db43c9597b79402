use Rattle.std.proofs.Common.{◌≡◌, true, false, subst, sym}
use Rattle.jdwp_client.specs.declared.errors.ClientError.{ClientError}
use Rattle.jdwp_client.specs.Clients.{EndsWait}
use Rattle.jdwp_client.proofs.Lists.{if-err, on-ok}
use Rattle.jdwp_client.proofs.Steps.{read-fails, read-more, turn-fails, turned}
use Rattle.jdwp_client.proofs.client.Client.turn_or_read.Goals as goal

pub returns-in-Ok-true-clause-ok : goal.returns-in-Ok-true-clause-ok
returns-in-Ok-true-clause-ok g c = λ old opened put.
    let same : c.in-Ok-true.field-0 ≡ true = cc in
    turned g.P.Pipe.story old c.args.self.now c.turn.new.self c.settle.new.self opened put (rw same at c.in-Ok-true.ensures.ok) c.turn.ensures.others c.settle.ensures

pub returns-in-Ok-false-clause-ok : goal.returns-in-Ok-false-clause-ok
returns-in-Ok-false-clause-ok g c =
    let same : c.in-Ok-false.field-0 ≡ false = cc in
    on-ok c.read.result
    (λ h old opened put. read-more g.P.Pipe.story old c.args.self.now c.turn.new.self c.read.new.self opened put (rw same at c.in-Ok-false.ensures.ok) c.turn.ensures.others h) c.read.ensures.ok

pub returns-in-Ok-false-clause-err : goal.returns-in-Ok-false-clause-err
returns-in-Ok-false-clause-err g c =
    let same : c.in-Ok-false.field-0 ≡ false = cc in
    if-err c.read.result
    (λ e h old opened put.
    subst (λ (x : ClientError). EndsWait g.P.Pipe.story old x c.read.new.self) (sym h.0)
    (read-fails g.P.Pipe.story old c.args.self.now c.turn.new.self c.read.new.self opened put (rw same at c.in-Ok-false.ensures.ok) c.turn.ensures.others h.1 h.2)) c.read.ensures.err

pub returns-in-Err-clause-err : goal.returns-in-Err-clause-err
returns-in-Err-clause-err g c = λ old opened put.
    rw (c.fail.ensures.same, c.fail.ensures.left) (turn-fails g.P.Pipe.story old c.args.self.now c.turn.new.self c.in-Err.error opened put c.in-Err.ensures.err c.turn.ensures.others)

use Rattle.std.proofs.Common.{◌∙◌, subst, sym}
use Rattle.jdwp_client.specs.declared.errors.ClientError.{ClientError}
use Rattle.jdwp_client.specs.Clients.{EndsWait}
use Rattle.jdwp_client.proofs.Lists.{if-err, on-ok}
use Rattle.jdwp_client.proofs.Steps.{put-all, put-fails, put-left, put-open}
use Rattle.jdwp_client.proofs.client.Client.advance.Goals as goal

pub returns-in-Err-clause-err : goal.returns-in-Err-clause-err
returns-in-Err-clause-err g c =
    subst (λ (e : ClientError). EndsWait g.P.Pipe.story c.args.self.now e c.put.new.self) (sym c.in-Err.ensures.err.0)
    (put-fails g.P.Pipe.story c.args.self.now c.put.new.self c.in-Err.ensures.err.1)

pub turn_or_read-requires-clause-opened : goal.turn_or_read-requires-clause-opened
turn_or_read-requires-clause-opened g c =
    put-open g.P.Pipe.story c.args.self.now c.put.new.self c.in-Ok.ensures.ok ∙ (sym c.is_open.ensures ∙ c.if-not-is_open.false)

pub turn_or_read-requires-clause-written : goal.turn_or_read-requires-clause-written
turn_or_read-requires-clause-written g c = put-all g.P.Pipe.story c.args.self.now c.put.new.self c.in-Ok.ensures.ok

pub turn_or_read-requires-clause-left : goal.turn_or_read-requires-clause-left
turn_or_read-requires-clause-left g c = put-left g.P.Pipe.story c.args.self.now c.put.new.self c.in-Ok.ensures.ok

pub returns-in-Ok-clause-ok : goal.returns-in-Ok-clause-ok
returns-in-Ok-clause-ok g c =
    on-ok c.turn_or_read.result (λ h. h c.args.self.now (sym c.is_open.ensures ∙ c.if-not-is_open.false) c.in-Ok.ensures.ok) c.turn_or_read.ensures.ok

pub returns-in-Ok-clause-err : goal.returns-in-Ok-clause-err
returns-in-Ok-clause-err g c =
    if-err c.turn_or_read.result (λ e h. h c.args.self.now (sym c.is_open.ensures ∙ c.if-not-is_open.false) c.in-Ok.ensures.ok) c.turn_or_read.ensures.err

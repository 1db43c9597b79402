use Rattle.std.proofs.Common.{◌∙◌, sym}
use Rattle.jdwp_client.proofs.Freeing.{may-free}
use Rattle.jdwp_client.proofs.holding.may_free.Goals as goal

pub returns : goal.returns
returns c =
    may-free c.args.command.now c.args.thread.0 c.kind.result c.thread.result c.frees.result (sym c.is_invocation.ensures ∙ c.if-is_invocation.false) c.kind.ensures c.thread.ensures c.frees.ensures

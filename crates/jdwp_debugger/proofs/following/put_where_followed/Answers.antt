use Rattle.std.proofs.Common.{◌∙◌, ap, sym}
use Rattle.jdwp_watch.specs.declared.put.Put.{Put}
use Rattle.jdwp_watch.specs.declared.put.Put.TheVariants.{Asks}
use Rattle.jdwp_watch.specs.Ledgers.{put_of}
use Rattle.jdwp_debugger.specs.FollowingKept.{ledger_put}
use Rattle.jdwp_debugger.proofs.Followed.{put-none}
use Rattle.jdwp_debugger.proofs.following.put_where_followed.Goals as goal

pub returns-in-Some : goal.returns-in-Some
returns-in-Some c = ap (λ (k : Put). ledger_put k c.args.ledger.now) c.of.ensures

pub returns-in-None : goal.returns-in-None
returns-in-None c = put-none Asks c.args.ledger.now c.in-None.is ∙ sym (put-none (put_of c.args.command.now) c.args.ledger.now c.in-None.is)

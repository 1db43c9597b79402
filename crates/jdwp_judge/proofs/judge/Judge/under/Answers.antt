use Rattle.std.proofs.Common.{refl}
use Rattle.jdwp_judge.proofs.SessionLaws.{heard_none}
use Rattle.jdwp_judge.proofs.judge.Judge.under.Goals as goal

pub returns : goal.returns
returns c = heard_none c.args.table _ refl c.new-3.ensures c.new.ensures.bytes c.new.ensures.fresh c.new-2.ensures.bytes c.new-2.ensures.fresh

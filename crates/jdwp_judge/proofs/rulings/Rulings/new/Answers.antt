use Rattle.std.proofs.Common.{refl}
use Rattle.jdwp_judge.proofs.HearingLaws.{follows_none}
use Rattle.jdwp_judge.proofs.rulings.Rulings.new.Goals as goal

pub returns : goal.returns
returns c = follows_none c.args.table _ refl c.new.ensures.begun c.new.ensures.waits c.new.ensures.count refl c.new-2.ensures refl

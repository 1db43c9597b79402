use Rattle.std.proofs.Common.{lit<}
use Rattle.jdwp_plan.proofs.CutLaws.{front_some, behind_some, front_none, behind_none}
use Rattle.jdwp_plan.proofs.cutting.cut_at_space.Goals as goal

pub returns-in-Some-clause-front : goal.returns-in-Some-clause-front
returns-in-Some-clause-front c = front_some 32 (lit< tt) c.args.text.now _ c.split_once.ensures.cases _ c.in-Some.is

pub returns-in-Some-clause-behind : goal.returns-in-Some-clause-behind
returns-in-Some-clause-behind c = behind_some 32 (lit< tt) c.args.text.now _ c.split_once.ensures.cases _ c.in-Some.is

pub returns-in-None-clause-front : goal.returns-in-None-clause-front
returns-in-None-clause-front c = front_none 32 (lit< tt) c.args.text.now _ c.split_once.ensures.cases c.in-None.is

pub returns-in-None-clause-behind : goal.returns-in-None-clause-behind
returns-in-None-clause-behind c = behind_none 32 (lit< tt) c.args.text.now _ c.split_once.ensures.cases c.in-None.is

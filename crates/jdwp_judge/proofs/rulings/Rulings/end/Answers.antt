use Rattle.std.proofs.Common.{◌∙◌, sym}
use Rattle.jdwp_judge.proofs.SameLaws.{none_of}
use Rattle.jdwp_judge.proofs.HearingLaws.{ended_after_fault, ended_released}
use Rattle.jdwp_judge.proofs.rulings.Rulings.end.Goals as goal

pub returns-then-is_some : goal.returns-then-is_some
returns-then-is_some c = λ table items follows. ended_after_fault table c.args.self.now items _ follows (sym c.is_some.ensures ∙ c.if-is_some.true)

pub release-requires : goal.release-requires
release-requires c = none_of c.args.self.now.fault (sym c.is_some.ensures ∙ c.if-is_some.false)

pub returns : goal.returns
returns c = λ table items follows. ended_released table c.args.self.now _ items _ _ follows (none_of c.args.self.now.fault (sym c.is_some.ensures ∙ c.if-is_some.false)) c.release.ensures.told

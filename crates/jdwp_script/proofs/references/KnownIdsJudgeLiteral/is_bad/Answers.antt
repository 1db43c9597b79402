use Rattle.std.proofs.Common.{rules}
use Rattle.jdwp_script.proofs.references.KnownIdsJudgeLiteral.is_bad.Goals as goal

pub returns-then-is_object : goal.returns-then-is_object
returns-then-is_object c = search rules

use Rattle.std.proofs.KnownBytes.{Keeps-refl}
use Rattle.jdwp_judge.proofs.CaptureJudgeLaws.{told_goes_on}
use Rattle.jdwp_program.proofs.streaming.show_more.Goals as goal

pub returns-in_default : goal.returns-in_default
returns-in_default g c = λ table text heard. let on = told_goes_on table text c.args.bytes.now in (tt, on.0, on.1, Keeps-refl _)

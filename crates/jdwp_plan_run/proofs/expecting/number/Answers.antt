use Rattle.std.proofs.Common.{◌^◌, refl}
use Rattle.std.specs.Str.{all_ascii_digits}
use Rattle.jdwp_plan_run.proofs.TextLaws.{not-number}
use Rattle.jdwp_plan_run.proofs.expecting.number.Goals as goal

pub returns-in-Err : goal.returns-in-Err
returns-in-Err c = not-number (2 ^ 64) c.args.digits.now (all_ascii_digits c.args.digits.now) refl c.in-Err.ensures.cases.0

use Rattle.std.proofs.Common.{◌∙◌, sym}
use Rattle.jdwp_script.specs.Meanings.{script_part}
use Rattle.jdwp_script_machine.proofs.Standing.{reached_alone}
use Rattle.jdwp_script_machine.proofs.sites.reached.Goals as goal

pub returns-then-stands_alone : goal.returns-then-stands_alone
returns-then-stands_alone c =
    rw (← reached_alone (script_part c.args.script.now) c.args.from.0 (sym c.stands_alone.ensures ∙ c.if-stands_alone.true)) c.classes_with_id.ensures

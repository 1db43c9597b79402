use Rattle.std.proofs.Common.{◌∙◌, sym}
use Rattle.jdwp_show.proofs.TableLaws.{jdi_stays}
use Rattle.jdwp_show.proofs.table.jdi_row.Goals as goal

pub returns-then-is_read : goal.returns-then-is_read
returns-then-is_read c = jdi_stays c.args.set c.args.command _ c.requires (sym c.is_read.ensures ∙ c.if-is_read.true)

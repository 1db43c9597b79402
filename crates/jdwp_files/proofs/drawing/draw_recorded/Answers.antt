use Rattle.std.proofs.Common.{inl, inr, refl}
use Rattle.jdwp_show.specs.declared.table.Table.TheVariants.{Standard}
use Rattle.jdwp_files.proofs.Recorded.{behind}
use Rattle.jdwp_files.proofs.drawing.draw_recorded.Goals as goal

pub returns-in-Ok : goal.returns-in-Ok
returns-in-Ok g c =
    let drawn = c.in-Ok.ensures.draws in
    behind Standard c.as_str.result.now drawn.0 _ _ _ c.in-Ok.told c.faulty_where.result (inl (inr (inr (refl, _, _, drawn.1)))) drawn.2 c.in-Ok.ensures.leaves c.faulty_where.ensures.ok c.faulty_where.ensures.err

pub returns-in-Err-Output : goal.returns-in-Err-Output
returns-in-Err-Output g c = rw c.in-Err-Output.field-0-is at c.in-Err-Output.ensures.leaves

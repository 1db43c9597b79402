use Rattle.std.proofs.Common.{inl, inr, refl}
use Rattle.jdwp_show.specs.declared.table.Table.TheVariants.{Standard}
use Rattle.jdwp_files.proofs.Recorded.{behind, left}
use Rattle.jdwp_files.proofs.files.print_recorded.Goals as goal

pub returns-in-Ok : goal.returns-in-Ok
returns-in-Ok g c =
    behind Standard c.as_str.result.now _ _ _ _ c.in-Ok.told c.faulty_where.result (inr refl) c.in-Ok.ensures (left _ _ _ c.in-Ok.told c.in-Ok.ensures) c.faulty_where.ensures.ok c.faulty_where.ensures.err

pub returns-in-Err-Output : goal.returns-in-Err-Output
returns-in-Err-Output g c = inr (inr (inr (inr (inl (Standard, _, _, inr refl, inr (refl, (rw c.in-Err-Output.field-0-is at c.in-Err-Output.ensures).1))))))

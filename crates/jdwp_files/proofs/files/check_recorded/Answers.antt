use Rattle.std.proofs.Common.{inl, inr, refl}
use Rattle.jdwp_files.proofs.Recorded.{behind}
use Rattle.jdwp_files.proofs.files.check_recorded.Goals as goal

pub returns-in-Ok : goal.returns-in-Ok
returns-in-Ok g c =
    behind c.args.words.now.table c.as_str.result.now _ _ _ _ c.in-Ok.told c.faulty_where.result (inl (inr (inl refl))) c.in-Ok.ensures.tells c.in-Ok.ensures.leaves c.faulty_where.ensures.ok c.faulty_where.ensures.err

pub returns-in-Err-Output : goal.returns-in-Err-Output
returns-in-Err-Output g c = rw c.in-Err-Output.field-0-is at c.in-Err-Output.ensures.leaves

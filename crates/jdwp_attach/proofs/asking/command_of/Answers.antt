use Rattle.std.proofs.Common.{Err, ap, rules, arith}
use Rattle.jdwp_wire.specs.declared.data_fault.DataFault.{DataFault}
use Rattle.std.proofs.lemmas.Grind.{common_steps}
use Rattle.jdwp_attach.proofs.asking.command_of.Goals.{in-Some, in-None}
use Rattle.jdwp_attach.proofs.asking.command_of.Goals as goal

pub returns-in-Ok-clause-ok : goal.returns-in-Ok-clause-ok
returns-in-Ok-clause-ok c = search rules

pub returns-in-Err-NoMemory-clause-memory : goal.returns-in-Err-NoMemory-clause-memory
returns-in-Err-NoMemory-clause-memory c =
    let hidden = c.in-Err-NoMemory.ensures.hides (ap (λ (f : DataFault). Err f) c.in-Err-NoMemory.field-0-is) in
    let reads = c.reads_what_is_encoded.ensures _ _ hidden.0 _ hidden.1 in
    λ _. first_of (grind (arith, common_steps, reads), search (rules, reads))

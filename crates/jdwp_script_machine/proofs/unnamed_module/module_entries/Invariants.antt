use Rattle.std.proofs.Common.{◌≡◌, ◌++◌, drop, map}
use Rattle.jdwp_layout.specs.Meanings.{entry_meanings}
use Rattle.jdwp_script.specs.Meanings.{module_part}
use Rattle.jdwp_script_machine.specs.ClassAnswers.{module_entry}
use Rattle.jdwp_script_machine.proofs.unnamed_module.module_entries.Given as goal

abbrev pub invariant-loop-part : goal.invariant-loop-part
invariant-loop-part l =
    entry_meanings l.entries.items ++ map module_entry (map module_part (drop l.part-index l.script.modules.items)) ≡ map module_entry (map module_part l.script.modules.items)

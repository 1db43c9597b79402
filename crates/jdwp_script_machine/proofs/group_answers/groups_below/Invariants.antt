use Rattle.std.proofs.Common.{◌≡◌, ◌++◌, map, drop}
use Rattle.std.specs.Prelude.{◌==◌, filter}
use Rattle.jdwp_layout.specs.Meanings.{entry_meanings}
use Rattle.jdwp_script.specs.Meanings.{group_part}
use Rattle.jdwp_script.specs.Parts.{GroupPart}
use Rattle.jdwp_script_machine.specs.ClassAnswers.{group_entry}
use Rattle.jdwp_script_machine.proofs.group_answers.groups_below.Given as goal

abbrev pub invariant-loop-group : goal.invariant-loop-group
invariant-loop-group l =
    entry_meanings l.found.items ++ map group_entry (filter (λ (g : GroupPart). g.parent == l.parent.0) (map group_part (drop l.group-index l.script.groups.items)))
    ≡ map group_entry (filter (λ (g : GroupPart). g.parent == l.parent.0) (map group_part l.script.groups.items))

use Rattle.std.proofs.Common.{◌≡◌, ◌++◌, drop, map, filter}
use Rattle.std.specs.Prelude.{bytes_eq}
use Rattle.jdwp_layout.specs.Meanings.{entry_meanings}
use Rattle.jdwp_script.specs.Parts.{ClassPart}
use Rattle.jdwp_script.specs.Meanings.{class_part}
use Rattle.jdwp_script_machine.specs.StateMeanings.{state_now}
use Rattle.jdwp_script_machine.specs.ClassAnswers.{class_entry}
use Rattle.jdwp_script_machine.proofs.machine_answers.classes_with.Given as goal

abbrev pub invariant-loop-class : goal.invariant-loop-class
invariant-loop-class l =
    entry_meanings l.entries.items ++ map (class_entry (state_now l.state)) (filter (λ (c : ClassPart). bytes_eq c.signature l.signature) (map class_part (drop l.class-index l.state.script.classes.items)))
    ≡ map (class_entry (state_now l.state)) (filter (λ (c : ClassPart). bytes_eq c.signature l.signature) (map class_part l.state.script.classes.items))

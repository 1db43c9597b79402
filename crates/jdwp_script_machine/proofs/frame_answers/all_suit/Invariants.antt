use Rattle.std.proofs.Common.{◌≡◌, map, drop}
use Rattle.std.specs.List.{list_all}
use Rattle.jdwp_layout.specs.Meanings.{entry_meanings}
use Rattle.jdwp_script_machine.specs.StateMeanings.{slot_now}
use Rattle.jdwp_script_machine.specs.SlotQuestions.{entry_asks}
use Rattle.jdwp_script_machine.proofs.frame_answers.all_suit.Given as goal

abbrev pub invariant-loop-entry : goal.invariant-loop-entry
invariant-loop-entry l = list_all (entry_asks (map slot_now l.slots)) (entry_meanings (drop l.entry-index l.entries)) ≡ list_all (entry_asks (map slot_now l.slots)) (entry_meanings l.entries)

use Rattle.std.proofs.Common.{◌≡◌, map, drop}
use Rattle.std.specs.List.{list_all}
use Rattle.jdwp_layout.specs.Meanings.{entry_meanings}
use Rattle.jdwp_script_machine.specs.StateMeanings.{slot_now}
use Rattle.jdwp_script_machine.specs.ThreadAnswers.{entry_has_slot}
use Rattle.jdwp_script_machine.proofs.frame_answers.all_have_slots.Given as goal

abbrev pub invariant-loop-entry : goal.invariant-loop-entry
invariant-loop-entry l = list_all (entry_has_slot (map slot_now l.slots)) (entry_meanings (drop l.entry-index l.entries)) ≡ list_all (entry_has_slot (map slot_now l.slots)) (entry_meanings l.entries)

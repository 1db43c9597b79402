use Rattle.std.proofs.Common.{◌≡◌, ◌≤◌, ◌+◌, length, vec_len, vec_capacity, ◌++◌, map, drop}
use Rattle.jdwp_layout.specs.Meanings.{entry_meanings}
use Rattle.jdwp_script.specs.Meanings.{script_part}
use Rattle.jdwp_script_machine.specs.StateMeanings.{frame_now}
use Rattle.jdwp_script_machine.specs.ThreadAnswers.{frame_entry}
use Rattle.jdwp_script_machine.proofs.thread_answers.listed.Given as goal

abbrev pub invariant-loop-frame : goal.invariant-loop-frame
invariant-loop-frame l = record {
  made : entry_meanings l.entries.items ++ map (frame_entry (script_part l.script)) (map frame_now (drop l.frame-index l.frames)) ≡ map (frame_entry (script_part l.script)) (map frame_now l.frames);
  room : vec_len l.entries + length l.frames ≤ vec_capacity l.entries + l.frame-index;
}

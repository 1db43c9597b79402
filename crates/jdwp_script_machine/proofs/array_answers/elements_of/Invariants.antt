use Rattle.std.proofs.Common.{◌≡◌, ◌≤◌, ◌+◌, length, vec_len, vec_capacity, ◌++◌, map, drop}
use Rattle.jdwp_script.specs.Meanings.{script_part}
use Rattle.jdwp_script_machine.specs.ObjectAnswers.{element}
use Rattle.jdwp_script_machine.proofs.array_answers.elements_of.Given as goal

abbrev pub invariant-loop-each : goal.invariant-loop-each
invariant-loop-each l = record {
  made : l.values.items ++ map (element (script_part l.script) l.tag) (drop l.each-index l.bits) ≡ map (element (script_part l.script) l.tag) l.bits;
  room : vec_len l.values + length l.bits ≤ vec_capacity l.values + l.each-index;
}

use Rattle.std.proofs.Common.{◌≡◌, drop, None}
use Rattle.jdwp_script_machine.specs.Sites.{last_line}
use Rattle.jdwp_script_machine.proofs.sites.line_of.Given as goal

abbrev pub invariant-loop-line : goal.invariant-loop-line
invariant-loop-line l = last_line l.index l.found (drop l.line-index l.lines) ≡ last_line l.index None l.lines

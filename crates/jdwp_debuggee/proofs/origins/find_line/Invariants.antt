use Rattle.std.proofs.Common.{◌≡◌, drop, None}
use Rattle.jdwp_layout.specs.Meanings.{entry_meanings}
use Rattle.jdwp_debuggee.specs.Origins.{line_at}
use Rattle.jdwp_debuggee.proofs.origins.find_line.Given as goal

abbrev pub invariant-loop-entry : goal.invariant-loop-entry
invariant-loop-entry l =
    line_at l.index (entry_meanings (drop l.entry-index l.entries)) l.line ≡ line_at l.index (entry_meanings l.entries) None

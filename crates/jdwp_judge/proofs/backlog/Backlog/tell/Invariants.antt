use Rattle.std.proofs.Common.{◌≡◌, length, drop}
use Rattle.jdwp_judge.specs.Entries.{total, all_with}
use Rattle.jdwp_judge.specs.Standing.{kept_in}
use Rattle.jdwp_judge.proofs.TellingLaws.{Telling}
use Rattle.jdwp_judge.proofs.backlog.Backlog.tell.Given as goal

abbrev pub invariant-loop-entry : goal.invariant-loop-entry
invariant-loop-entry l = record {
  fits : total (drop l.entry-index l.self.entries.items) ≡ length l.rest;
  telling : Telling l.terms (kept_in l.self) (all_with (drop l.entry-index l.self.entries.items) l.rest) l.fn.lines l.lines;
}

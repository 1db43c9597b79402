use Rattle.std.proofs.Common.{drop}
use Rattle.jdwp_machine.specs.Meanings.{numbers}
use Rattle.jdwp_debuggee.proofs.KeptRequests.{IsEnding}
use Rattle.jdwp_debuggee.proofs.requesting.end_all.Given as goal

abbrev pub invariant-loop-thread : goal.invariant-loop-thread
invariant-loop-thread g l = IsEnding g.M.Machine.meaning l.initial.machine l.machine (numbers l.threads) (numbers (drop l.thread-index l.threads))

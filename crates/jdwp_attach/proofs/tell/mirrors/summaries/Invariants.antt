use Rattle.std.proofs.Common.{◌≡◌, ◌++◌, map}
use Rattle.jdwp_attach.specs.Telling.{summary}
use Rattle.jdwp_attach.proofs.tell.mirrors.summaries.Given as goal

-- those so far, and those that are left
abbrev pub invariant-loop-request : goal.invariant-loop-request
invariant-loop-request l = l.summaries.items ++ map summary l.request-iterator ≡ map summary l.mirror.requests

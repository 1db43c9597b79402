use Rattle.std.proofs.Common.{◌≡◌, drop}
use Rattle.jdwp_machine.specs.Meanings.{has, numbers}
use Rattle.jdwp_machine.proofs.live.is_among.Given as goal

abbrev pub invariant-loop-id : goal.invariant-loop-id
invariant-loop-id l = has (numbers (drop l.id-index l.live)) l.thread.0 ≡ has (numbers l.live) l.thread.0

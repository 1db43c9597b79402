use Rattle.std.proofs.Common.{◌≡◌, drop}
use Rattle.jdwp_mirror.specs.KnownThreads.{count_in, is_held_in}
use Rattle.jdwp_draw.proofs.cells.known_in.Given as goal

-- it is none of those so far
abbrev pub invariant-loop-known : goal.invariant-loop-known
invariant-loop-known l = record {
  count : count_in (drop l.known-index l.threads) l.thread ≡ count_in l.threads l.thread;
  held : is_held_in (drop l.known-index l.threads) l.thread ≡ is_held_in l.threads l.thread;
}

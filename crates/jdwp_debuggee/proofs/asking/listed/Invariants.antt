use Rattle.std.proofs.Common.{◌≡◌, ℕ, ◌∷◌, [], map, take}
use Rattle.jdwp_layout.specs.Meanings.{Object, entry_meanings}
use Rattle.jdwp_debuggee.proofs.asking.listed.Given as goal

abbrev pub invariant-loop-thread : goal.invariant-loop-thread
invariant-loop-thread l = entry_meanings l.entries.items ≡ map (λ (t : ℕ). Object t ∷ []) (take l.thread-index l.threads)

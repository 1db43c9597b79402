-- What holds in each target that a debugger may have before it.
use Rattle.std.specs.Prelude.{◌≡◌, ◌<◌, ◌≤◌, ℕ}
use Rattle.jdwp_apart.specs.Watch.{Watch}
use Rattle.jdwp_apart.specs.World.{World, Alive}
use Rattle.jdwp_apart.specs.Headline.{Always}

-- P holds in each target whose debugger asked and read what makes this watch: whatever else happened since the session began, whether the
-- target sends composites one by one, and whichever threads the debugger knew at first.
abbrev pub InEachTarget : Watch → (World → Type 0) → Type 0
InEachTarget v P = Always (λ first w. w.watch ≡ v → P w)

-- the suspend count of a thread, where it lives, is at least n now
abbrev pub CountsAtLeast : ℕ → ℕ → World → Type 0
CountsAtLeast n t w = w.lives t ≡ Alive → n ≤ w.counts t

-- a thread is suspended now, where it lives
abbrev pub IsSuspended : ℕ → World → Type 0
IsSuspended t w = w.lives t ≡ Alive → 0 < w.counts t

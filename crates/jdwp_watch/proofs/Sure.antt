-- What is sure holds in each target whose debugger holds the watch.
use Rattle.std.proofs.Common.{◌≡◌, ℕ, ◌<◌, ap, arith}
use Rattle.jdwp_apart.specs.Headline.{Always, SureIsCovered}
use Rattle.jdwp_apart.specs.Watch.{Watch, sure}
use Rattle.jdwp_watch.specs.Targets.{CountsAtLeast, InEachTarget, IsSuspended}

pub covered-in-each : (v : Watch) (t n : ℕ) → n ≡ sure v t → Always SureIsCovered → InEachTarget v (CountsAtLeast n t)
covered-in-each v t n is law one_by_one first events same lives =
    let covered = law one_by_one first events t lives in
    let equal = ap (λ (w : Watch). sure w t) same in
    omega arith

pub suspended-in-each : (v : Watch) (t n : ℕ) → 0 < n → InEachTarget v (CountsAtLeast n t) → InEachTarget v (IsSuspended t)
suspended-in-each v t n some covered one_by_one first events same lives =
    let least = covered one_by_one first events same lives in
    omega arith

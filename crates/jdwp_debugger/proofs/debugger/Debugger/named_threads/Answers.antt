use Rattle.std.proofs.Common.{length, ap}
use Rattle.std.specs.Map.Iter.{TakesFirst}
use Rattle.std.proofs.iter.runs.Sources.{from_front, as_is}
use Rattle.jdwp_debugger.proofs.debugger.Debugger.named_threads.Goals as goal

pub returns-in-None-clause-runs : goal.returns-in-None-clause-runs
returns-in-None-clause-runs c p s = as_is p p.from (from_front (TakesFirst (λ x. x)) (λ x. x) (λ xs. xs) (λ a b h. ap length h.0) (λ a x b h. h) p s)

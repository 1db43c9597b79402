-- Reads before which something was not flushed.
use Rattle.std.proofs.Common.{◌≡◌, ◌+◌, ◌++◌, List, [], ◌∷◌}
use Rattle.trace.specs.declared.History.{History}
use Rattle.jdwp_end.specs.Story.{some_of}
use Rattle.jdwp_end.specs.Streams.{early_in}
use Rattle.jdwp_end.proofs.Known as pipe

-- one read more
pub early_push : (xs : List History) (h : History) → early_in (xs ++ h ∷ []) ≡ early_in xs + some_of h.bytes
early_push xs h = pipe.early_push xs h

-- What an engine does after a round.
use Rattle.jdwp_end.specs.declared.pipes.ended.Ended.{Ended}
use Rattle.jdwp_engine.specs.declared.serving.AfterRound.{AfterRound}
use Rattle.jdwp_engine.specs.declared.serving.AfterRound.TheVariants.{Goes, Ends}

-- a fact about how it ended, where it did
abbrev pub IfEnds : AfterRound → (Ended → Type 0) → Type 0
IfEnds Goes P = Unit {0}
IfEnds (Ends ended) P = P ended

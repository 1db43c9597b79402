-- What an engine of live sessions does after a round.
use Rattle.jdwp_end.specs.declared.pipes.ended.Ended.{Ended}
use Rattle.jdwp_engine.specs.declared.live.AfterLiveRound.{AfterLiveRound}
use Rattle.jdwp_engine.specs.declared.live.AfterLiveRound.TheVariants.{Goes, Ends}

-- a fact about how it ended, where it did
abbrev pub IfEnds : AfterLiveRound → (Ended → Type 0) → Type 0
IfEnds Goes P = Unit {0}
IfEnds (Ends ended) P = P ended

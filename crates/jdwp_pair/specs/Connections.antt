-- Runs that end since what joins both ends failed.
use Rattle.std.specs.Prelude.{Bool, true, false, Result, Ok, Err}
use Rattle.jdwp_pair.specs.declared.ended.PairEnded.{PairEnded}
use Rattle.jdwp_pair.specs.declared.ended.PairEnded.TheVariants as ended

abbrev pub is_disconnected : PairEnded → Bool
is_disconnected ended.LostConnection = true
is_disconnected ended.Done = false
is_disconnected (ended.RefusedLine place number) = false
is_disconnected ended.LostByWrite = false
is_disconnected ended.NoMemory = false
is_disconnected ended.TurnLimit = false
is_disconnected (ended.Standstill waits) = false

-- the same of a part of a run
abbrev pub disconnects : {A : Type 0} → Result A PairEnded → Bool
disconnects (Ok done) = false
disconnects (Err ended) = is_disconnected ended

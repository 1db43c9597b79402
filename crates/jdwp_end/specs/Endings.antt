-- How a session ends whose last flush failed.
use Rattle.jdwp_end.specs.declared.pipes.ended.Ended.{Ended}
use Rattle.jdwp_end.specs.declared.pipes.ended.Ended.TheVariants.{Done, LostByRead, LostByWrite, Refused, NoMemory, TurnLimit}

-- the connection is lost by a write; but a refusal is told as one
abbrev pub unflushed_end : Ended → Ended
unflushed_end (Refused number) = Refused number
unflushed_end Done = LostByWrite
unflushed_end LostByRead = LostByWrite
unflushed_end LostByWrite = LostByWrite
unflushed_end NoMemory = LostByWrite
unflushed_end TurnLimit = LostByWrite

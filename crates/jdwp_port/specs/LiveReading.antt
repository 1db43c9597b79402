-- What a contract sees of a connection whose reads need not wait for ever.
use Rattle.std.specs.Prelude.{Option}
use Rattle.jdwp_port.specs.declared.live.causes.LiveCause.{LiveCause}
use Rattle.jdwp_port.specs.declared.live.reading.PatientStream.{PatientStream}

-- the half that is read
abbrev pub stream_of : {S C : Type 0} → PatientStream S C → S
stream_of reader = reader.stream

-- why the last read failed that did
abbrev pub failure_of : {S C : Type 0} → PatientStream S C → Option LiveCause
failure_of reader = reader.failure

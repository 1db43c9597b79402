-- What a contract sees of the halves of a connection.
use Rattle.std.specs.Prelude.{[], length}
use Rattle.jdwp_relay.specs.Flows.{Inflow, Outflow}
use Rattle.jdwp_record.specs.declared.streams.ReadHalf.{ReadHalf}
use Rattle.jdwp_record.specs.declared.streams.WriteHalf.{WriteHalf}

-- what was read
abbrev pub came_by : {S : Type 0} → ReadHalf S → Inflow
came_by half = record { bytes = half.bytes.bytes; endings = half.endings.items; reads = length half.reads.items }

-- what was written, and how it was ended
abbrev pub went_by : {S : Type 0} → WriteHalf S → Outflow
went_by half = record { bytes = half.bytes.bytes; endings = half.endings.items; losses = length half.losses.items; writes = length half.writes.items }

abbrev pub no_bytes_came : Inflow
no_bytes_came = record { bytes = []; endings = []; reads = 0 }

abbrev pub no_bytes_went : Outflow
no_bytes_went = record { bytes = []; endings = []; losses = 0; writes = 0 }

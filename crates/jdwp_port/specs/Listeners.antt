-- What a contract sees of a listener.
use Rattle.std.specs.Prelude.{◌≡◌, ℕ, true}
use Rattle.std.specs.declared.io.Error.{Error}
use Rattle.jdwp_port.specs.declared.listening.PortListener.{PortListener}
use Rattle.jdwp_port.specs.declared.listening.Taken.{Taken}
use Rattle.jdwp_port.specs.declared.listening.Taken.TheVariants.{Stream, Later}
use Rattle.jdwp_port.specs.Faults.{IsCauseOf, may_pass}

-- the port on which it listens
abbrev pub port_of : {L : Type 0} → PortListener L → ℕ
port_of l = l.port

-- what listens there
abbrev pub socket_of : {L : Type 0} → PortListener L → L
socket_of l = l.listener

-- a connection, or none for a cause that passes, behind so many calls in a row that found none
abbrev pub IsTaken : {S : Type 0} → ℕ → Taken S → Type 0
IsTaken in_a_row (Stream stream) = Unit {0}
IsTaken in_a_row (Later cause) = (error : Error) × IsCauseOf error cause × (may_pass error in_a_row ≡ true)

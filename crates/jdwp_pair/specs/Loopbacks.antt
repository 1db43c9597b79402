-- What a contract sees of a connection of this machine to itself.
use Rattle.std.specs.Prelude.{Bool, Option, is_some}
use Rattle.jdwp_link.specs.Ways.{Carried}
use Rattle.jdwp_port.specs.declared.faults.PortFault.{PortFault}
use Rattle.jdwp_pair.specs.declared.loopback.Loopback.{Loopback}

-- the first failure, if it failed
abbrev pub failure_of : {R S L : Type 0} → Loopback R S L → Option PortFault
failure_of l = l.failure

abbrev pub has_failed : {R S L : Type 0} → Loopback R S L → Bool
has_failed l = is_some l.failure

-- what was read at each end
abbrev pub carried_by : {R S L : Type 0} → Loopback R S L → Carried
carried_by l = l.carried

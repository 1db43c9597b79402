-- How a target stands whose call failed.
use Rattle.jdwp_partner.specs.declared.standing.Standing.{Standing}
use Rattle.jdwp_partner.specs.declared.standing.Standing.TheVariants.{Refused, NoMemory}
use Rattle.jdwp_target.specs.declared.target.TargetFault.{TargetFault}
use Rattle.jdwp_target.specs.declared.target.TargetFault.TheVariants as target
use Rattle.jdwp_wire.specs.FaultNumbers.{fault_number}

abbrev pub standing_of : TargetFault → Standing
standing_of (target.Frame fault) = Refused (fault_number fault)
standing_of target.NoMemory = NoMemory

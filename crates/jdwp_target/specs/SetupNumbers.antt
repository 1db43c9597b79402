-- The numbers of the faults for which no target, or no link, is made.
use Rattle.std.specs.Prelude.{ℕ}
use Rattle.jdwp_target.specs.declared.setup.SetupFault.{SetupFault}
use Rattle.jdwp_target.specs.declared.setup.SetupFault.TheVariants.{TooManyThreads, NoMemory}

abbrev pub setup_number : SetupFault → ℕ
setup_number TooManyThreads = 61
setup_number NoMemory = 62

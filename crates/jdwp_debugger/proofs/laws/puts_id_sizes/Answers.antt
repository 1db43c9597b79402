use Rattle.std.proofs.Common.{refl}
use Rattle.jdwp_debugger.proofs.laws.puts_id_sizes.Goals as goal

pub returns : goal.returns
returns c = record { header = λ w id. refl; data_are = λ w. refl; encoded = λ w. refl }

use Rattle.jdwp_across.proofs.TooLong.{refuses-longer}
use Rattle.jdwp_across.proofs.own_limits.refuses_longer_packets.Goals as goal

pub returns : goal.returns
returns g c = refuses-longer g.M.Machine.meaning

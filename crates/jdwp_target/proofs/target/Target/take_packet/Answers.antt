use Rattle.std.proofs.Common.{◌≡◌, rules, arith}
use Rattle.std.proofs.lemmas.Grind.{common_steps}
use Rattle.jdwp_target.proofs.target.Target.take_packet.Goals as goal

pub defer-requires-clause-deferred : goal.defer-requires-clause-deferred
defer-requires-clause-deferred g c =
    let packet = c.requires.packet in
    (packet.0, packet.1, grind (arith, common_steps))

pub answer-requires-clause-packet : goal.answer-requires-clause-packet
answer-requires-clause-packet g c = search rules

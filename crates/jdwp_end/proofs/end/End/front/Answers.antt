use Rattle.std.proofs.Common.{rules, ◌≤◌}
use Rattle.jdwp_wire.specs.Bytes.{IsBytes}
use Rattle.jdwp_wire.specs.Limits.{least_packet_limit}
use Rattle.jdwp_end.proofs.Fronts.{more-has-room}
use Rattle.jdwp_end.proofs.end.End.front.Goals as goal

pub returns-in-More-clause-room : goal.returns-in-More-clause-room
returns-in-More-clause-room c =
    let fits : IsBytes c.args.self.now.incoming = search rules in
    let low : least_packet_limit ≤ c.args.self.now.limits.packet = search rules in
    more-has-room c.args.self.now low fits

pub returns-in-More-packet_standing-clause-room : goal.returns-in-More-packet_standing-clause-room
returns-in-More-packet_standing-clause-room c =
    let fits : IsBytes c.args.self.now.incoming = search rules in
    let low : least_packet_limit ≤ c.args.self.now.limits.packet = search rules in
    more-has-room c.args.self.now low fits

pub returns-in-Whole-packet_standing-clause-front : goal.returns-in-Whole-packet_standing-clause-front
returns-in-Whole-packet_standing-clause-front c =
    let found = c.in-Whole-packet_standing.ensures in
    (found.0, search (rules, found.1))

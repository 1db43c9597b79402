use Rattle.std.proofs.Common.{rules, ◌≤◌}
use Rattle.jdwp_wire.specs.Bytes.{IsBytes}
use Rattle.jdwp_wire.specs.Limits.{least_packet_limit}
use Rattle.jdwp_end.proofs.Fronts.{more-has-room}
use Rattle.jdwp_end.proofs.end.End.invariants.Goals as goal

pub returns-clause-room : goal.returns-clause-room
returns-clause-room c =
    let fits : IsBytes c.args.self.now.incoming = search rules in
    let low : least_packet_limit ≤ c.args.self.now.limits.packet = search rules in
    more-has-room c.args.self.now low fits

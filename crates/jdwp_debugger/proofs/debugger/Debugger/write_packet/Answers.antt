use Rattle.std.proofs.Common.{arith, rules}
use Rattle.jdwp_debugger.proofs.debugger.Debugger.write_packet.Goals as goal

pub returns-in_ok-write-in-Ok-clause-ok : goal.returns-in_ok-write-in-Ok-clause-ok
returns-in_ok-write-in-Ok-clause-ok c =
    let a = c.in-Ok.ensures.ok in
    let packet = c.in_ok-write-in-Ok.ensures in
    record {
      unrefused = a.unrefused;
      widths = c.in-Ok.admitted.sizes;
      known = a.known;
      bytes_are = packet.bytes;
      encoded = a.encodes packet.encoded;
      sendable = packet.sendable c.args.self.now.end.limits.packet a.size_most;
      size_most = search (rules, arith, packet.length, a.size_most);
      few = a.few;
      room = a.room;
      left = a.left;
    }

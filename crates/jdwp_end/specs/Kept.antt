-- What every end keeps inside.
use Rattle.std.specs.Prelude.{◌≡◌, ◌≤◌, ◌*◌, length, vec_capacity}
use Rattle.jdwp_wire.specs.Limits.{least_packet_limit, most_packet_limit}
use Rattle.jdwp_end.specs.declared.end.End.TheInside.{Inside}
use Rattle.jdwp_end.specs.Ends.{End}

abbrev pub view_of : Inside → End
view_of e = record {
  limits = e.limits;
  phase = e.phase;
  incoming = e.incoming.items;
  outgoing = e.outgoing.items;
  session = e.session;
}

-- packets have at least 2,048 bytes and at most 1,048,576, and both rings and the vector have their room
pub record IsRightEnd (e : Inside) : Type 0 where
  pub packet_least : least_packet_limit ≤ e.limits.packet
  pub packet_most : e.limits.packet ≤ most_packet_limit
  pub incoming_room : e.incoming.capacity ≡ e.limits.packet
  pub outgoing_room : e.outgoing.capacity ≡ e.limits.packet * 2
  pub incoming_fits : length e.incoming.items ≤ e.limits.packet
  pub outgoing_fits : length e.outgoing.items ≤ e.limits.packet * 2
  pub scratch_room : e.limits.packet * 2 ≤ vec_capacity e.scratch

use Rattle.std.proofs.Common.{◌-◌, take, drop, rules}
use Rattle.jdwp_wire.proofs.ring.standing_in.Goals as goal

pub returns : goal.returns
returns c =
    let used = c.from_be_bytes-length.result in
    let bytes = c.args.ring.now.items in
    (take (used - 11) (drop 11 bytes), search rules)

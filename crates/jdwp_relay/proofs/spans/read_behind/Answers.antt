use Rattle.std.proofs.Common.{◌≤◌, length, arith}
use Rattle.jdwp_relay.proofs.Pieces.{behind}
use Rattle.jdwp_relay.proofs.spans.read_behind.Goals as goal

pub returns : goal.returns
returns g c =
    let within : c.args.to ≤ length c.args.bytes.now = omega arith in
    behind c.args.from c.args.to c.args.bytes.now c.read.new.buffer _ (g.S.Source.came c.args.source.now) (g.S.Source.came c.read.new.self) c.read.result c.requires.order within c.read.ensures.fits c.read.ensures.came

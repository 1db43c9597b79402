use Rattle.std.proofs.Common.{rules}
use Rattle.std.proofs.Math.Facts.{Fits-lt-pow}
use Rattle.byteorder.specs.Numbers.{big_from-lt}
use Rattle.jdwp_wire.proofs.number.take_number.Goals as goal

pub returns-clause-fits : goal.returns-clause-fits
returns-clause-fits c =
    let e = c.read_number-number.ensures in
    let lt = big_from-lt 0 c.args.width c.args.rest.now (λ i. Fits-lt-pow (c.type_inv.rest i)) in
    rw (e, c.bytes-count.ensures.value) lt

pub returns-then-rest-count-clause-memory : goal.returns-then-rest-count-clause-memory
returns-then-rest-count-clause-memory c = search rules

use Rattle.std.proofs.Common.{◌≡◌, length, rules}
use Rattle.jdwp_debuggee.specs.Askings.{asking}
use Rattle.jdwp_debuggee.proofs.Read.{asks_nothing}
use Rattle.jdwp_debuggee.proofs.reading.bare.Goals as goal

pub returns-then-is_empty-clause-value : goal.returns-then-is_empty-clause-value
returns-then-is_empty-clause-value c =
    let none : length c.args.bytes.now ≡ 0 = search rules in
    λ w. asks_nothing w c.args.set c.args.number (asking c.args.action) c.args.bytes.now c.requires.bare none

use Rattle.std.proofs.Common.{◌≡◌, false, rules}
use Rattle.jdwp_layout.specs.CommandNumbers.{CLEAR_REQUEST, is_command}
use Rattle.jdwp_debuggee.specs.Askings.{carries_thread}
use Rattle.jdwp_debuggee.proofs.Read.{short_as_bare}
use Rattle.jdwp_debuggee.proofs.reading.read_short.Goals as goal

pub returns-in_default-clause-value : goal.returns-in_default-clause-value
returns-in_default-clause-value c =
    let thread : carries_thread c.args.set c.args.number ≡ false = search rules in
    let clear : is_command CLEAR_REQUEST c.args.set c.args.number ≡ false = search rules in
    short_as_bare c.args.set c.args.number _ c.read_bare.result thread clear (c.read_bare.ensures.value c.args.sizes.now)

use Rattle.std.proofs.Common.{[]}
use Rattle.std.specs.String.{string_bytes}
use Rattle.jdwp_attach.proofs.Named.{none-named}
use Rattle.jdwp_attach.proofs.tell.mirrors.put_named.Goals as goal

pub returns-in_default : goal.returns-in_default
returns-in_default c = none-named c.args.debugger.now (string_bytes c.args.text.now) c.in_default.ensures.covers

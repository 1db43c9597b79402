use Rattle.std.proofs.Common.{◌≡◌, length, refl, arith}
use Rattle.jdwp_target.specs.Insides.{messages_of}
use Rattle.jdwp_target.proofs.DeferredCommands.{messages-length}
use Rattle.jdwp_target.proofs.deferral.Deferral.is_taking.Goals as goal

pub returns-then-self : goal.returns-then-self
returns-then-self c =
    let items = c.self.inside.commands.items in
    let same : c.len.result ≡ length (messages_of items) = omega (arith, messages-length items, c.self.inside.commands.ok.0) in
    rw (← c.self.view_is) (rw (c.if-self.true, same) refl)

use Rattle.std.proofs.Common.{◌∙◌, ◌<◌, length, sym, ap, arith, Some}
use Rattle.std.specs.Prelude.{remove}
use Rattle.jdwp_wire.specs.Streams.{Message}
use Rattle.jdwp_target.specs.declared.deferral.DeferredCommand.{DeferredCommand}
use Rattle.jdwp_target.specs.Insides.{message_of, messages_of}
use Rattle.jdwp_target.proofs.DeferredCommands.{messages-length, released-message}
use Rattle.jdwp_target.proofs.deferral.Deferral.command.Goals as goal

pub index-requires : goal.index-requires
index-requires c =
    let room : c.args.place < length (messages_of c.self.inside.commands.items) = rw (← c.self.view_is) at c.requires in
    omega (arith, room, messages-length c.self.inside.commands.items, c.self.inside.commands.ok.0)

pub returns : goal.returns
returns c =
    let items = c.self.inside.commands.items in
    let room : c.args.place < length (messages_of items) = rw (← c.self.view_is) at c.requires in
    let less : c.args.place < length items = omega (arith, room, messages-length items) in
    let found = released-message c.args.place items c.index.result.now less in
    let others = messages_of (remove items c.args.place) in
    let same = ap (λ (x : DeferredCommand). message_of x) (sym c.index.ensures) in
    rw (← c.self.view_is) (others, found ∙ ap (λ (x : Message). Some (x, others)) same)

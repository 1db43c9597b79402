use Rattle.std.proofs.Common.{◌∙◌, ◌<◌, ◌∷◌, [], length, ap, arith, List}
use Rattle.std.proofs.lemmas.List.{length-append}
use Rattle.jdwp_wire.specs.Streams.{Message}
use Rattle.jdwp_target.specs.Insides.{first_mark, messages_of}
use Rattle.jdwp_target.proofs.DeferredCommands.{messages-length, messages-more}
use Rattle.jdwp_target.proofs.deferral.Deferral.push.Goals as goal

pub push_reserved-requires : goal.push_reserved-requires
push_reserved-requires c =
    let room : length (messages_of c.self.inside.commands.items) < 16 = rw (← c.self.view_is) at c.requires in
    omega (arith, room, messages-length c.self.inside.commands.items, c.self.inside.commands.ok.0, c.self.invariant.1)

pub invariant_of-self : goal.invariant_of-self
invariant_of-self c =
    let items = c.self.inside.commands.items in
    let room : length (messages_of items) < 16 = rw (← c.self.view_is) at c.requires in
    let longer = ap length c.push_reserved.ensures.items ∙ length-append items (c.args.command ∷ []) in
    (omega (arith, room, messages-length items, longer), omega (arith, c.push_reserved.ensures.capacity, c.self.invariant.1))

pub returns : goal.returns
returns c =
    let x = c.self.inside in
    rw (← c.self.view_is) (ap (λ (l : List Message). record { on = x.on; commands = l; began = first_mark x.began.items; released = length x.released.items }) (ap messages_of c.push_reserved.ensures.items ∙ messages-more x.commands.items c.args.command))

use Rattle.std.proofs.Common.{◌≡◌, ◌∙◌, ◌<◌, ◌+◌, ◌∷◌, [], ℕ, length, ap, arith, List, Some}
use Rattle.std.proofs.lemmas.List.{length-append}
use Rattle.jdwp_wire.specs.Streams.{Message}
use Rattle.jdwp_debuggee.specs.Deferring.{released_at}
use Rattle.jdwp_target.specs.Insides.{first_mark, messages_of}
use Rattle.jdwp_target.proofs.DeferredCommands.{messages-length, others-left}
use Rattle.jdwp_target.proofs.deferral.Deferral.remove.Goals as goal

pub remove-requires : goal.remove-requires
remove-requires c =
    let room : c.args.place < length (messages_of c.self.inside.commands.items) = rw (← c.self.view_is) at c.requires in
    omega (arith, room, messages-length c.self.inside.commands.items, c.self.inside.commands.ok.0)

pub returns : goal.returns
returns c = λ message others found.
    let x = c.self.inside in
    let items = x.commands.items in
    let room : c.args.place < length (messages_of items) = rw (← c.self.view_is) at c.requires in
    let less : c.args.place < length items = omega (arith, room, messages-length items) in
    let here : released_at c.args.place (messages_of items) ≡ Some (message, others) = rw (← c.self.view_is) at found in
    let rest = others-left c.args.place items c.remove.result message others less here in
    let counted : length c.push.new.self.items ≡ length x.released.items + 1 = rw c.push.ensures (length-append x.released.items (tt ∷ [])) in
    rw (← c.self.view_is)
    (ap (λ (n : ℕ). record { on = x.on; commands = messages_of c.remove.new.self.items; began = first_mark x.began.items; released = n }) counted
    ∙ ap (λ (l : List Message). record { on = x.on; commands = l; began = first_mark x.began.items; released = length x.released.items + 1 }) (ap messages_of c.remove.ensures.items ∙ rest))

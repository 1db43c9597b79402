use Rattle.std.proofs.lemmas.Grind.{common_steps}
use Rattle.std.proofs.Common.{◌≡◌, ◌<◌, ◌++◌, ◌∷◌, [], length, arith}
use Rattle.std.specs.List.{filter_map}
use Rattle.jdwp_layout.specs.Meanings.{entry_meaning}
use Rattle.jdwp_action.specs.Actions.{slot_of}
use Rattle.jdwp_debuggee.proofs.Read.{slots_step}
use Rattle.jdwp_debuggee.proofs.command.slots_of.Goals as goal
use Rattle.jdwp_debuggee.proofs.command.slots_of.Goals.{in-Some+in_ok-push, in_default}

pub loop-entry-preserved : goal.loop-entry-preserved
loop-entry-preserved c =
    let within : c.loop-entry.entry-index < length c.args.entries.now = c.loop-entry-test.true in
    let step = slots_step c.args.entries.now c.loop-entry.entry-index c.entry-item.result within c.entry-item.is in
    let found : c.slot_of.result ≡ slot_of (entry_meaning c.entry-item.result) = rw c.deref.ensures.value at c.slot_of.ensures in
    let added : c.match-slot_of.slots.items ≡ c.loop-entry.slots.items ++ filter_map slot_of (entry_meaning c.entry-item.result ∷ []) =
    elim c.match-slot_of.branch [
      | in-Some+in_ok-push w ↦ grind (arith, common_steps, found)
      | in_default w ↦ grind (arith, common_steps, found)
    ] in
    cc (added, step, c.loop-entry.invariant)

pub returns : goal.returns
returns c = grind (arith, common_steps)

use Rattle.std.proofs.Common.{◌≡◌, ◌++◌, ◌∷◌, []}
use Rattle.std.proofs.lemmas.List.{map_push}
use Rattle.jdwp_layout.specs.Meanings.{entry_meaning, entry_meanings}
use Rattle.jdwp_event.specs.Modifiers.{modifier_of, modifiers_of}
use Rattle.jdwp_event.specs.ModifierMeanings.{modifier_meaning}
use Rattle.jdwp_event.specs.RequestParts.{modifiers_meaning}
use Rattle.jdwp_event.proofs.Picked.{if_err, found_none, found_one, has_one}
use Rattle.jdwp_event.proofs.modifier.Modifier.of_entries.Goals as goal

pub returns-in_err-push-clause-memory : goal.returns-in_err-push-clause-memory
returns-in_err-push-clause-memory c =
    if_err _ c.from_residual.result (has_one modifier_of (modifiers_meaning c.loop-entry.modifiers) (modifiers_of (entry_meanings c.args.entries.items)) (entry_meaning c.in-Some.entry) (entry_meanings c.next.new.self.rest.items)
    (modifier_meaning c.in-Some-of_entry.modifier) c.in-Some-of_entry.ensures (rw c.in-Some.ensures.steps.0 at c.loop-entry.invariant))

pub loop-entry-preserved : goal.loop-entry-preserved
loop-entry-preserved c =
    found_none modifier_of (modifiers_meaning c.loop-entry.modifiers) (modifiers_of (entry_meanings c.args.entries.items)) (entry_meaning c.in-Some.entry) (entry_meanings c.next.new.self.rest.items)
    c.in_default.ensures (rw c.in-Some.ensures.steps.0 at c.loop-entry.invariant)

pub loop-entry-preserved-in-Continue-1 : goal.loop-entry-preserved-in-Continue-1
loop-entry-preserved-in-Continue-1 c =
    let found = c.in-Some-of_entry.modifier in
    let e : modifiers_meaning c.push.new.self ≡ modifiers_meaning c.loop-entry.modifiers ++ modifier_meaning found ∷ [] = rw c.in_ok-push.ensures.items (map_push _ c.loop-entry.modifiers.items found) in
    rw e (found_one modifier_of (modifiers_meaning c.loop-entry.modifiers) (modifiers_of (entry_meanings c.args.entries.items)) (entry_meaning c.in-Some.entry) (entry_meanings c.next.new.self.rest.items)
    (modifier_meaning found) c.in-Some-of_entry.ensures (rw c.in-Some.ensures.steps.0 at c.loop-entry.invariant))

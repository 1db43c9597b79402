use Rattle.std.proofs.Common.{sym, ◌∙◌, inl, inr}
use Rattle.jdwp_layout.specs.ModifiersAndEvents.{modifier_fields, event_fields}
use Rattle.jdwp_layout.proofs.Keeps.{kind_is_kept}
use Rattle.jdwp_layout.proofs.reading.take_entry.Goals as goal

pub returns-in_ok-kind-in-Modifier-clause-memory : goal.returns-in_ok-kind-in-Modifier-clause-memory
returns-in_ok-kind-in-Modifier-clause-memory c = λ failed.
    let found = c.take_fields_of.ensures.memory failed in
    let fields = c.fields_of_kind.ensures in
    let kind = c.in_ok-kind-in-Modifier in
    elim c.in-Modifier.is [
      | inl e ↦ rw e (kind_is_kept modifier_fields c.args.whole kind.kind found.0 c.args.rest.now kind.rest.now (sym (rw e at fields) ∙ found.1) kind.ensures.value)
      | inr e ↦ rw e (kind_is_kept event_fields c.args.whole kind.kind found.0 c.args.rest.now kind.rest.now (sym (rw e at fields) ∙ found.1) kind.ensures.value)
    ]

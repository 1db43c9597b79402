use Rattle.std.proofs.Common.{◌≡◌, drop}
use Rattle.jdwp_script.specs.declared.script.FieldValue.{FieldValue}
use Rattle.jdwp_script_machine.specs.LookUps.{with_id}
use Rattle.jdwp_script_machine.proofs.object_answers.ObjectFielded.value.Given as goal

abbrev pub invariant-loop-held : goal.invariant-loop-held
invariant-loop-held l = with_id (λ (x : FieldValue). x.field.0) l.id.0 (drop l.held-index l.self.fields.items) ≡ with_id (λ (x : FieldValue). x.field.0) l.id.0 l.self.fields.items

-- What the types of a script mean.
use Rattle.std.specs.Prelude.{map, option_map}
use Rattle.std.specs.String.{string_bytes}
use Rattle.jdwp_wire.specs.Widths.{Widths}
use Rattle.jdwp_value.specs.declared.id.ReferenceTypeId.{ReferenceTypeId}
use Rattle.jdwp_script.specs.declared.script.Sizes.{Sizes}
use Rattle.jdwp_script.specs.declared.script.Group.{Group}
use Rattle.jdwp_script.specs.declared.script.Field.{Field}
use Rattle.jdwp_script.specs.declared.script.Slot.{Slot}
use Rattle.jdwp_script.specs.declared.script.Method.{Method}
use Rattle.jdwp_script.specs.declared.script.Class.{Class}
use Rattle.jdwp_script.specs.declared.script.Elements.{Elements}
use Rattle.jdwp_script.specs.declared.script.Object.{Object}
use Rattle.jdwp_script.specs.declared.script.Thread.{Thread}
use Rattle.jdwp_script.specs.declared.script.Module.{Module}
use Rattle.jdwp_script.specs.declared.script.Script.{Script}
use Rattle.jdwp_script.specs.declared.step.Call.{Call}
use Rattle.jdwp_script.specs.declared.step.Step.{Step}
use Rattle.jdwp_script.specs.declared.step.Step.TheVariants as step
use Rattle.jdwp_script.specs.Parts.{GroupPart, FieldPart, SlotPart, MethodPart, ClassPart, ElementsPart, ObjectPart, CallPart, StepPart, Go, Return, Throwing, Prepare, Start, Again, ThreadPart, ModulePart, ScriptPart}
use Rattle.jdwp_script.specs.Parts as part

abbrev pub widths : Sizes → Widths
widths s = record { field = s.field; method = s.method; object = s.object; reference = s.reference; frame = s.frame }

abbrev pub group_part : Group → GroupPart
group_part g = record { id = g.id.0; name = string_bytes g.name; parent = g.parent.0; class = g.class.0 }

abbrev pub field_part : Field → FieldPart
field_part f = record { id = f.id.0; name = string_bytes f.name; signature = string_bytes f.signature; modifiers = f.modifiers; value = f.value }

abbrev pub slot_part : Slot → SlotPart
slot_part s = record { from = s.from; name = string_bytes s.name; signature = string_bytes s.signature; len = s.length; slot = s.slot }

abbrev pub method_part : Method → MethodPart
method_part m = record { id = m.id.0; name = string_bytes m.name; signature = string_bytes m.signature; modifiers = m.modifiers; args = m.args; last = m.last; lines = m.lines.items; slots = map slot_part m.slots.items; returns = m.returns }

abbrev pub class_part : Class → ClassPart
class_part c = record { id = c.id.0; tag = c.tag; signature = string_bytes c.signature; modifiers = c.modifiers; superclass = c.superclass.0; interfaces = map (λ (n : ReferenceTypeId). n.0) c.interfaces.items; source = option_map string_bytes c.source; fields = map field_part c.fields.items; methods = map method_part c.methods.items; «module» = c.module.0 }

abbrev pub elements_part : Elements → ElementsPart
elements_part e = record { tag = e.tag; bits = e.bits.items }

abbrev pub object_part : Object → ObjectPart
object_part o = record { id = o.id.0; class = o.class.0; fields = o.fields.items; text = option_map string_bytes o.text; array = option_map elements_part o.array }

abbrev pub call_part : Call → CallPart
call_part c = record { frame = c.frame.0; class = c.class.0; method = c.method.0; this = c.this.0; slots = c.slots.items }

abbrev pub step_part : Step → StepPart
step_part (step.Call c) = part.Call (call_part c)
step_part (step.Go n) = Go n
step_part (step.Return v) = Return v
step_part (step.Throw t) = Throwing t
step_part (step.Prepare n) = Prepare n.0
step_part (step.Start n) = Start n.0
step_part (step.Again k) = Again k

abbrev pub thread_part : Thread → ThreadPart
thread_part t = record { id = t.id.0; name = string_bytes t.name; group = t.group.0; steps = map step_part t.steps.items; class = t.class.0 }

abbrev pub module_part : Module → ModulePart
module_part m = record { id = m.id.0; name = string_bytes m.name }

abbrev pub script_part : Script → ScriptPart
script_part s = record { name = string_bytes s.name; sizes = widths s.sizes; groups = map group_part s.groups.items; classes = map class_part s.classes.items; objects = map object_part s.objects.items; threads = map thread_part s.threads.items; modules = map module_part s.modules.items }

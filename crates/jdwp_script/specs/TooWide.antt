-- When an id does not fit its width, or a width is outside 1 to 8. Each id counts, whether it is given away or named,
-- and so does the object of a value.
use Rattle.std.specs.Prelude.{ℕ, ◌^◌, ◌&&◌, ◌||◌, Bool, false, not, nat_lt}
use Rattle.std.specs.List.{list_any}
use Rattle.jdwp_wire.specs.Widths.{Widths}
use Rattle.jdwp_value.specs.Values.{is_object}
use Rattle.jdwp_script.specs.declared.script.FieldValue.{FieldValue}
use Rattle.jdwp_script.specs.declared.step.Literal.{Literal}
use Rattle.jdwp_script.specs.declared.step.Place.{Place}
use Rattle.jdwp_script.specs.declared.step.SlotValue.{SlotValue}
use Rattle.jdwp_script.specs.Parts.{GroupPart, FieldPart, MethodPart, ClassPart, ElementsPart, ObjectPart, StepPart, Call, Go, Return, Throwing, Prepare, Start, Again, ThreadPart, ModulePart, ScriptPart}
use Rattle.jdwp_script.specs.Limits.{if_there}

-- a number does not fit so many bytes
abbrev pub is_wide : ℕ → ℕ → Bool
is_wide width n = not (nat_lt n (256 ^ width))

abbrev pub literal_wide : Widths → Literal → Bool
literal_wide w v = is_object v.tag && is_wide w.object v.bits

abbrev pub group_wide : Widths → GroupPart → Bool
group_wide w g = is_wide w.object g.id || (is_wide w.object g.parent || is_wide w.reference g.class)

abbrev pub field_wide : Widths → FieldPart → Bool
field_wide w f = is_wide w.field f.id || if_there (literal_wide w) f.value

abbrev pub method_wide : Widths → MethodPart → Bool
method_wide w m = is_wide w.method m.id || if_there (literal_wide w) m.returns

abbrev pub class_wide : Widths → ClassPart → Bool
class_wide w c = is_wide w.reference c.id || (is_wide w.reference c.superclass || (list_any (is_wide w.reference) c.interfaces || (list_any (field_wide w) c.fields || (list_any (method_wide w) c.methods || is_wide w.object c.module))))

abbrev pub field_value_wide : Widths → FieldValue → Bool
field_value_wide w f = is_wide w.field f.field.0 || literal_wide w f.value

abbrev pub elements_wide : Widths → ElementsPart → Bool
elements_wide w e = is_object e.tag && list_any (is_wide w.object) e.bits

abbrev pub object_wide : Widths → ObjectPart → Bool
object_wide w o = is_wide w.object o.id || (is_wide w.reference o.class || (list_any (field_value_wide w) o.fields || if_there (elements_wide w) o.array))

abbrev pub slot_value_wide : Widths → SlotValue → Bool
slot_value_wide w s = literal_wide w s.value

abbrev pub place_wide : Widths → Place → Bool
place_wide w p = is_wide w.reference p.class.0 || is_wide w.method p.method.0

abbrev pub step_wide : Widths → StepPart → Bool
step_wide w (Call c) = is_wide w.frame c.frame || (is_wide w.reference c.class || (is_wide w.method c.method || (is_wide w.object c.this || list_any (slot_value_wide w) c.slots)))
step_wide w (Go n) = false
step_wide w (Return v) = literal_wide w v
step_wide w (Throwing t) = is_wide w.object t.object.0 || if_there (place_wide w) t.caught
step_wide w (Prepare n) = is_wide w.reference n
step_wide w (Start n) = is_wide w.object n
step_wide w (Again k) = false

abbrev pub thread_wide : Widths → ThreadPart → Bool
thread_wide w t = is_wide w.object t.id || (is_wide w.object t.group || (list_any (step_wide w) t.steps || is_wide w.reference t.class))

abbrev pub module_wide : Widths → ModulePart → Bool
module_wide w m = is_wide w.object m.id

-- a width outside 1 to 8
abbrev pub is_no_width : ℕ → Bool
is_no_width n = nat_lt n 1 || nat_lt 8 n

abbrev pub has_wide_id : ScriptPart → Bool
has_wide_id s =
    is_no_width s.sizes.field || (is_no_width s.sizes.method || (is_no_width s.sizes.object || (is_no_width s.sizes.reference || (is_no_width s.sizes.frame
    || (list_any (group_wide s.sizes) s.groups || (list_any (class_wide s.sizes) s.classes || (list_any (object_wide s.sizes) s.objects || (list_any (thread_wide s.sizes) s.threads
    || list_any (module_wide s.sizes) s.modules))))))))

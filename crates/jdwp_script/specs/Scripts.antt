-- The script that a JSON value is, or the first member that is missing or of another type: members in the order in
-- which they stand here, lists from their first entry on. A number, a text, a pair, a value or a step that is none is
-- missing of the member that holds it. Members that are not named here do not count.
use Rattle.std.specs.Prelude.{ℕ, List, [], ◌∷◌, ◌==◌, if◌then◌else◌, Option, None, Result, Ok, Err, codes}
use Rattle.std.specs.Str.{bytes_eq}
use Rattle.serde_json.specs.Data.{Data}
use Rattle.jdwp_wire.specs.Widths.{Widths}
use Rattle.jdwp_value.specs.declared.location.TypeTag.{TypeTag}
use Rattle.jdwp_value.specs.declared.location.TypeTag.TheVariants as kind
use Rattle.jdwp_value.specs.declared.tag.Tag.{Tag}
use Rattle.jdwp_value.specs.Tags.{tag_of_byte}
use Rattle.jdwp_value.specs.Values.{is_void}
use Rattle.jdwp_script.specs.declared.fault.ScriptFault.{ScriptFault}
use Rattle.jdwp_script.specs.declared.fault.ScriptFault.TheVariants.{Missing}
use Rattle.jdwp_script.specs.declared.member.Member.{Member}
use Rattle.jdwp_script.specs.declared.member.Member.TheVariants.{Name, Sizes, Groups, Classes, Objects, Threads, Id, Parent, Tag as OfTag, Signature, Modifiers, Super, Interfaces, Source, Fields, Methods, Value, Args, Last, Lines, Slots, Returns, From, Length, Slot, Class, Text, Array, Group, Steps, Modules, Module}
use Rattle.jdwp_script.specs.declared.script.Line.{Line}
use Rattle.jdwp_script.specs.declared.script.FieldValue.{FieldValue}
use Rattle.jdwp_script.specs.declared.step.Literal.{Literal}
use Rattle.jdwp_script.specs.declared.step.Place.{Place}
use Rattle.jdwp_script.specs.declared.step.SlotValue.{SlotValue}
use Rattle.jdwp_script.specs.Parts.{GroupPart, FieldPart, SlotPart, MethodPart, ClassPart, ElementsPart, ObjectPart, StepPart, Call, Go, Return, Throwing, Prepare, Start, Again, ThreadPart, ModulePart, ScriptPart}
use Rattle.jdwp_script.specs.Reading.{Reader, ◌>>=◌, found, whole, small, int, text, or_null, list_of, entries, tuple, entry, second, member_of, member_or}

-- ---- values

-- the tag of a text of one character
abbrev pub tag_of_text : List ℕ → Option Tag
tag_of_text [] = None
tag_of_text (c ∷ []) = tag_of_byte c
tag_of_text (c ∷ b ∷ rest) = None

abbrev pub tag : Reader Tag
tag m d = text m d >>= λ s. found m (tag_of_text s)

-- [tag, bits]
abbrev pub literal : Reader Literal
literal m d = tuple 2 m d >>= λ ds. entry tag m ds 0 >>= λ t. entry whole m ds 1 >>= λ n. Ok (record { tag = t; bits = n })

-- ---- groups

abbrev pub group : Reader GroupPart
group m d =
    member_of Id whole d >>= λ id.
    member_of Name text d >>= λ name.
    member_of Parent whole d >>= λ parent.
    member_or 0 Class whole d >>= λ class_id.
    Ok (record { id = id; name = name; parent = parent; class = class_id })

-- ---- classes

abbrev pub type_tag_of : Member → ℕ → Result TypeTag ScriptFault
type_tag_of m n = if n == 1 then Ok kind.Class else (if n == 2 then Ok kind.Interface else (if n == 3 then Ok kind.Array else Err (Missing m)))

-- 1 to 3
abbrev pub type_tag : Reader TypeTag
type_tag m d = whole m d >>= type_tag_of m

abbrev pub field : Reader FieldPart
field m d =
    member_of Id whole d >>= λ id.
    member_of Name text d >>= λ name.
    member_of Signature text d >>= λ signature.
    member_of Modifiers int d >>= λ modifiers.
    member_of Value (or_null literal) d >>= λ value.
    Ok (record { id = id; name = name; signature = signature; modifiers = modifiers; value = value })

-- [index, line]
abbrev pub line : Reader Line
line m d = tuple 2 m d >>= λ ds. entry whole m ds 0 >>= λ index. entry int m ds 1 >>= λ line. Ok (record { index = index; line = line })

abbrev pub slot : Reader SlotPart
slot m d =
    member_of From whole d >>= λ from.
    member_of Name text d >>= λ name.
    member_of Signature text d >>= λ signature.
    member_of Length int d >>= λ len.
    member_of Slot int d >>= λ slot.
    Ok (record { from = from; name = name; signature = signature; len = len; slot = slot })

abbrev pub method : Reader MethodPart
method m d =
    member_of Id whole d >>= λ id.
    member_of Name text d >>= λ name.
    member_of Signature text d >>= λ signature.
    member_of Modifiers int d >>= λ modifiers.
    member_of Args int d >>= λ args.
    member_of Last whole d >>= λ last.
    member_of Lines (list_of line) d >>= λ lines.
    member_of Slots (list_of slot) d >>= λ slots.
    member_or None Returns (or_null literal) d >>= λ returns.
    Ok (record { id = id; name = name; signature = signature; modifiers = modifiers; args = args; last = last; lines = lines; slots = slots; returns = returns })

abbrev pub class : Reader ClassPart
class m d =
    member_of Id whole d >>= λ id.
    member_of OfTag type_tag d >>= λ tag.
    member_of Signature text d >>= λ signature.
    member_of Modifiers int d >>= λ modifiers.
    member_of Super whole d >>= λ superclass.
    member_of Interfaces (list_of whole) d >>= λ interfaces.
    member_of Source (or_null text) d >>= λ source.
    member_of Fields (list_of field) d >>= λ fields.
    member_of Methods (list_of method) d >>= λ methods.
    member_or 0 Module whole d >>= λ module_id.
    Ok (record { id = id; tag = tag; signature = signature; modifiers = modifiers; superclass = superclass; interfaces = interfaces; source = source; fields = fields; methods = methods; «module» = module_id })

-- ---- objects

-- [field, value]
abbrev pub field_value : Reader FieldValue
field_value m d = tuple 2 m d >>= λ ds. entry whole m ds 0 >>= λ field. entry literal m ds 1 >>= λ value. Ok (record { field = record { 0 = field }; value = value })

-- any tag but that of void
abbrev pub element_tag : Reader Tag
element_tag m d = tag m d >>= λ t. if is_void t then Err (Missing m) else Ok t

-- [tag, [bits or ids]]
abbrev pub elements : Reader ElementsPart
elements m d = tuple 2 m d >>= λ ds. entry element_tag m ds 0 >>= λ tag. entry (list_of whole) m ds 1 >>= λ bits. Ok (record { tag = tag; bits = bits })

abbrev pub object : Reader ObjectPart
object m d =
    member_of Id whole d >>= λ id.
    member_of Class whole d >>= λ class.
    member_of Fields (list_of field_value) d >>= λ fields.
    member_of Text (or_null text) d >>= λ text.
    member_of Array (or_null elements) d >>= λ array.
    Ok (record { id = id; class = class; fields = fields; text = text; array = array })

-- ---- steps: each a list that begins with a word

-- [slot, value]
abbrev pub slot_value : Reader SlotValue
slot_value m d = tuple 2 m d >>= λ ds. entry int m ds 0 >>= λ slot. entry literal m ds 1 >>= λ value. Ok (record { slot = slot; value = value })

-- ["call", frame, class, method, this, [[slot, value]]]
abbrev pub call_step : Reader StepPart
call_step m d =
    tuple 6 m d >>= λ ds.
    entry whole m ds 1 >>= λ frame.
    entry whole m ds 2 >>= λ class.
    entry whole m ds 3 >>= λ method.
    entry whole m ds 4 >>= λ this.
    entry (list_of slot_value) m ds 5 >>= λ slots.
    Ok (Call (record { frame = frame; class = class; method = method; this = this; slots = slots }))

-- ["go", index]
abbrev pub go_step : Reader StepPart
go_step m d = second whole m d >>= λ index. Ok (Go index)

-- ["return", value]
abbrev pub return_step : Reader StepPart
return_step m d = second literal m d >>= λ value. Ok (Return value)

-- [class, method, index]
abbrev pub place : Reader Place
place m d =
    tuple 3 m d >>= λ ds.
    entry whole m ds 0 >>= λ class.
    entry whole m ds 1 >>= λ method.
    entry whole m ds 2 >>= λ index.
    Ok (record { class = record { 0 = class }; method = record { 0 = method }; index = index })

-- ["throw", object, place or null]
abbrev pub throw_step : Reader StepPart
throw_step m d = tuple 3 m d >>= λ ds. entry whole m ds 1 >>= λ object. entry (or_null place) m ds 2 >>= λ caught. Ok (Throwing (record { object = record { 0 = object }; caught = caught }))

-- ["prepare", class]
abbrev pub prepare_step : Reader StepPart
prepare_step m d = second whole m d >>= λ class. Ok (Prepare class)

-- ["start", thread]
abbrev pub start_step : Reader StepPart
start_step m d = second whole m d >>= λ thread. Ok (Start thread)

-- ["again", back]
abbrev pub again_step : Reader StepPart
again_step m d = second small m d >>= λ back. Ok (Again back)

-- the step of this word
abbrev pub step_named : List ℕ → Reader StepPart
step_named word m d =
    if bytes_eq word (codes "call") then call_step m d else (
    if bytes_eq word (codes "go") then go_step m d else (
    if bytes_eq word (codes "return") then return_step m d else (
    if bytes_eq word (codes "throw") then throw_step m d else (
    if bytes_eq word (codes "prepare") then prepare_step m d else (
    if bytes_eq word (codes "start") then start_step m d else (
    if bytes_eq word (codes "again") then again_step m d else (
    Err (Missing m))))))))

abbrev pub step : Reader StepPart
step m d = entries m d >>= λ ds. entry text m ds 0 >>= λ word. step_named word m d

-- ---- threads, modules, and all

abbrev pub thread : Reader ThreadPart
thread m d =
    member_of Id whole d >>= λ id.
    member_of Name text d >>= λ name.
    member_of Group whole d >>= λ group.
    member_of Steps (list_of step) d >>= λ steps.
    member_or 0 Class whole d >>= λ class_id.
    Ok (record { id = id; name = name; group = group; steps = steps; class = class_id })

abbrev pub «module» : Reader ModulePart
«module» m d = member_of Id whole d >>= λ id. member_of Name text d >>= λ name. Ok (record { id = id; name = name })

-- [field, method, object, reference, frame]
abbrev pub sizes : Reader Widths
sizes m d =
    tuple 5 m d >>= λ ds.
    entry small m ds 0 >>= λ field.
    entry small m ds 1 >>= λ method.
    entry small m ds 2 >>= λ object.
    entry small m ds 3 >>= λ reference.
    entry small m ds 4 >>= λ frame.
    Ok (record { field = field; method = method; object = object; reference = reference; frame = frame })

-- none where there is no such member
abbrev pub modules : Data → Result (List ModulePart) ScriptFault
modules d = member_or [] Modules (list_of «module») d

abbrev pub script : Data → Result ScriptPart ScriptFault
script d =
    member_of Name text d >>= λ name.
    member_of Sizes sizes d >>= λ sizes.
    member_of Groups (list_of group) d >>= λ groups.
    member_of Classes (list_of class) d >>= λ classes.
    member_of Objects (list_of object) d >>= λ objects.
    member_of Threads (list_of thread) d >>= λ threads.
    modules d >>= λ modules.
    Ok (record { name = name; sizes = sizes; groups = groups; classes = classes; objects = objects; threads = threads; modules = modules })

-- What a script has: its classes, methods, objects and modules by their ids, places in methods, and what filters read of them; and what a
-- machine has beside, strings that were made.
use Rattle.std.specs.Prelude.{ℕ, ◌==◌, ◌||◌, Bool, false, List, [], ◌∷◌, map, filter, length, nat_le, zero, suc, if◌then◌else◌, Option, Some, None, option_map, option_and_then}
use Rattle.std.specs.List.{list_any}
use Rattle.std.specs.Option.{option_or}
use Rattle.std.specs.Int.RustNames.{unsigned_abs}
use Rattle.jdwp_value.specs.declared.location.Location.{Location}
use Rattle.jdwp_value.specs.declared.location.Location.TheVariants.{Null, At}
use Rattle.jdwp_value.specs.declared.tag.ObjectTag.{ObjectTag}
use Rattle.jdwp_value.specs.declared.tag.ObjectTag.TheVariants as kind
use Rattle.jdwp_value.specs.declared.value.TaggedId.{TaggedId}
use Rattle.jdwp_value.specs.Values.{object_id}
use Rattle.jdwp_event.specs.Occurrences.{ClassMeaning, PlaceMeaning}
use Rattle.jdwp_script.specs.declared.script.Line.{Line}
use Rattle.jdwp_script.specs.Parts.{GroupPart, MethodPart, ClassPart, ObjectPart, ElementsPart, ThreadPart, ModulePart, ScriptPart}
use Rattle.jdwp_script_machine.specs.LookUps.{with_id, is_some}
use Rattle.jdwp_script_machine.specs.States.{FrameNow, State}

abbrev pub class_in : ScriptPart → ℕ → Option ClassPart
class_in script id = with_id (λ (c : ClassPart). c.id) id script.classes

abbrev pub method_in : ClassPart → ℕ → Option MethodPart
method_in class id = with_id (λ (m : MethodPart). m.id) id class.methods

abbrev pub object_in : ScriptPart → ℕ → Option ObjectPart
object_in script id = with_id (λ (o : ObjectPart). o.id) id script.objects

abbrev pub group_in : ScriptPart → ℕ → Option GroupPart
group_in script id = with_id (λ (g : GroupPart). g.id) id script.groups

abbrev pub thread_in : ScriptPart → ℕ → Option ThreadPart
thread_in script id = with_id (λ (t : ThreadPart). t.id) id script.threads

abbrev pub module_in : ScriptPart → ℕ → Option ModulePart
module_in script id = with_id (λ (m : ModulePart). m.id) id script.modules

-- the object of an id, of the script or made
abbrev pub object_at : State → ℕ → Option ObjectPart
object_at s id = option_or (object_in s.script id) (with_id (λ (o : ObjectPart). o.id) id s.made)

-- whether an id is that of an object, a thread or a group
abbrev pub is_known : State → ℕ → Bool
is_known s id = is_some (object_at s id) || (is_some (thread_in s.script id) || is_some (group_in s.script id))

-- ---- objects

-- the tag of an object by what it has: text, elements, or neither
abbrev pub tag_by_contents : Option (List ℕ) → Option ElementsPart → ObjectTag
tag_by_contents (Some text) array = kind.String
tag_by_contents None (Some array) = kind.Array
tag_by_contents None None = kind.Object

-- what is no object, as null, a thread or a group, is tagged as an object
abbrev pub tag_of_found : Option ObjectPart → ObjectTag
tag_of_found None = kind.Object
tag_of_found (Some o) = tag_by_contents o.text o.array

abbrev pub tagged : ScriptPart → ℕ → TaggedId
tagged script id = object_id (tag_of_found (object_in script id)) id

-- ---- classes that a class reaches

abbrev pub class_above : (ℕ → Bool) → Option ClassPart → Bool
class_above reaches None = false
class_above reaches (Some c) = reaches c.superclass || list_any reaches c.interfaces

-- whether a class is this one, or has it above it by so many superclasses and interfaces at most
abbrev pub reaches_within : ScriptPart → ℕ → ℕ → ℕ → Bool
reaches_within script zero to from = from == to
reaches_within script (suc n) to from = (from == to) || class_above (reaches_within script n to) (class_in script from)

-- the classes that a class reaches, by rising id: itself, and those that its superclass and its interfaces reach
abbrev pub reached : ScriptPart → ℕ → List ℕ
reached script from = filter (λ to. reaches_within script (length script.classes) to from) (map (λ (c : ClassPart). c.id) script.classes)

abbrev pub class_seen : ScriptPart → ClassPart → ClassMeaning
class_seen script c = record { signature = c.signature; reaches = reached script c.id }

-- ---- places

-- the line of the last entry at or before an index, or what was found before
abbrev pub last_line : ℕ → Option ℕ → List Line → Option ℕ
last_line index found [] = found
last_line index found (l ∷ ls) = last_line index (if nat_le l.index index then Some (unsigned_abs l.line) else found) ls

-- the line of an index: that of the last line entry at or before it, or none
abbrev pub line_of : List Line → ℕ → Option ℕ
line_of lines index = last_line index None lines

-- a class, and a method of it
pub record Site : Type 0 where
  pub class : ClassPart
  pub method : MethodPart

abbrev pub site_in : ScriptPart → ℕ → ℕ → Option Site
site_in script class method =
    option_and_then (λ (c : ClassPart). option_map (λ (m : MethodPart). record { class = c; method = m }) (method_in c method)) (class_in script class)

abbrev pub site_location : ℕ → Site → Location
site_location index site = At site.class.tag (record { 0 = site.class.id }) (record { 0 = site.method.id }) index

-- the null location where there is no such site
abbrev pub found_location : ℕ → Option Site → Location
found_location index None = Null
found_location index (Some site) = site_location index site

abbrev pub frame_location : ScriptPart → FrameNow → Location
frame_location script f = found_location f.index (site_in script f.class f.method)

-- a place of a thread that has so many frames
abbrev pub site_place : ScriptPart → ℕ → ℕ → Site → PlaceMeaning
site_place script frames index site =
    record {
      location = site_location index site;
      line = line_of site.method.lines index;
      frames = frames;
      class = class_seen script site.class;
    }

-- where the newest frame is
abbrev pub newest_place : ScriptPart → List FrameNow → Option PlaceMeaning
newest_place script [] = None
newest_place script (f ∷ fs) = option_map (site_place script (length (f ∷ fs)) f.index) (site_in script f.class f.method)

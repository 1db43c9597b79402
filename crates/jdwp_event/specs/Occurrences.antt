-- What happens at a step of a thread, as event requests and events see it
-- (JDWP specification, "Protocol Details": the commands Set of EventRequest and Composite of Event).
use Rattle.std.specs.Prelude.{ℕ, ℤ, Bool, true, false, List, map, Option, Some, None}
use Rattle.std.specs.Global.{Vec}
use Rattle.std.specs.String.{string_bytes}
use Rattle.jdwp_value.specs.declared.id.ReferenceTypeId.{ReferenceTypeId}
use Rattle.jdwp_value.specs.declared.location.Location.{Location}
use Rattle.jdwp_value.specs.declared.location.TypeTag.{TypeTag}
use Rattle.jdwp_value.specs.declared.value.TaggedId.{TaggedId}
use Rattle.jdwp_value.specs.declared.value.Value.{Value}
use Rattle.jdwp_event.specs.declared.happening.ClassSeen.{ClassSeen}
use Rattle.jdwp_event.specs.declared.happening.Place.{Place}
use Rattle.jdwp_event.specs.declared.happening.ThrownException.{ThrownException}
use Rattle.jdwp_event.specs.declared.happening.PreparedClass.{PreparedClass}
use Rattle.jdwp_event.specs.declared.happening.Occurrence.{Occurrence}
use Rattle.jdwp_event.specs.declared.happening.Occurrence.TheVariants as occurrence

-- A class, as filters see it: its signature, as bytes of UTF-8, and the classes that it reaches, which are itself and
-- those that its superclass and interfaces reach.
pub record ClassMeaning : Type 0 where
  pub signature : List ℕ
  pub reaches : List ℕ

-- A place in a method: its location, its line if one is known, how many frames the thread has, and the class.
pub record PlaceMeaning : Type 0 where
  pub location : Location
  pub line : Option ℕ
  pub frames : ℕ
  pub class : ClassMeaning

-- An exception: the object, where it is caught (the null location where it isn't), and the classes that its class reaches.
pub record ThrownMeaning : Type 0 where
  pub exception : TaggedId
  pub caught_at : Location
  pub reaches : List ℕ

-- A class that became prepared.
pub record PreparedMeaning : Type 0 where
  pub tag : TypeTag
  pub id : ℕ
  pub status : ℤ
  pub class : ClassMeaning

-- What happened: the newest frame moved to a place, a method was entered, one was left with a value, an exception was
-- thrown, a class became prepared, a thread started, or a thread ran out.
pub data OccurrenceMeaning : Type 0 where
  Moved : PlaceMeaning → OccurrenceMeaning
  Entered : PlaceMeaning → OccurrenceMeaning
  Left : PlaceMeaning → Value → OccurrenceMeaning
  Threw : PlaceMeaning → ThrownMeaning → OccurrenceMeaning
  Prepared : PreparedMeaning → OccurrenceMeaning
  Started : OccurrenceMeaning
  RanOut : OccurrenceMeaning

-- What happened, and the thread that its events name: the new one where a thread started.
pub record HappeningMeaning : Type 0 where
  pub thread : ℕ
  pub occurrence : OccurrenceMeaning

-- ---- the same of what lies in memory

abbrev pub ids_of : Vec ReferenceTypeId → List ℕ
ids_of ids = map (λ (id : ReferenceTypeId). id.0) ids.items

abbrev pub class_meaning : ClassSeen → ClassMeaning
class_meaning c = record { signature = string_bytes c.signature; reaches = ids_of c.reaches }

abbrev pub place_meaning : Place → PlaceMeaning
place_meaning p = record { location = p.location; line = p.line; frames = p.frames; class = class_meaning p.class }

abbrev pub thrown_meaning : ThrownException → ThrownMeaning
thrown_meaning t = record { exception = t.exception; caught_at = t.caught_at; reaches = ids_of t.reaches }

abbrev pub prepared_meaning : PreparedClass → PreparedMeaning
prepared_meaning p = record { tag = p.tag; id = p.id.0; status = p.status; class = class_meaning p.class }

abbrev pub occurrence_meaning : Occurrence → OccurrenceMeaning
occurrence_meaning (occurrence.Moved p) = Moved (place_meaning p)
occurrence_meaning (occurrence.Entered p) = Entered (place_meaning p)
occurrence_meaning (occurrence.Left p v) = Left (place_meaning p) v
occurrence_meaning (occurrence.Threw p t) = Threw (place_meaning p) (thrown_meaning t)
occurrence_meaning (occurrence.Prepared p) = Prepared (prepared_meaning p)
occurrence_meaning occurrence.Started = Started
occurrence_meaning occurrence.RanOut = RanOut

-- ---- threads that come and go

-- the thread that a happening starts
abbrev pub started_by : ℕ → OccurrenceMeaning → Option ℕ
started_by thread Started = Some thread
started_by thread (Moved p) = None
started_by thread (Entered p) = None
started_by thread (Left p v) = None
started_by thread (Threw p t) = None
started_by thread (Prepared p) = None
started_by thread RanOut = None

abbrev pub started : HappeningMeaning → Option ℕ
started happening = started_by happening.thread happening.occurrence

-- the thread has run out
abbrev pub is_run_out : OccurrenceMeaning → Bool
is_run_out RanOut = true
is_run_out Started = false
is_run_out (Moved p) = false
is_run_out (Entered p) = false
is_run_out (Left p v) = false
is_run_out (Threw p t) = false
is_run_out (Prepared p) = false

abbrev pub runs_out : HappeningMeaning → Bool
runs_out happening = is_run_out happening.occurrence

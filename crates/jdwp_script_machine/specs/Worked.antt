-- A worked machine: two threads, of which the first calls a method, moves in it and returns, and the second has no step; and two modules,
-- in one of which the class is. And machines with a class of strings, which make some.
use Rattle.std.specs.Prelude.{◌≡◌, ℕ, ℤ, zero, suc, pos, negsuc, List, [], ◌∷◌, codes, Some, None}
use Rattle.jdwp_wire.specs.ErrorCodes.{INVALID_CLASS, INVALID_MODULE, INVALID_METHODID, INVALID_LOCATION, INVALID_FRAMEID, TYPE_MISMATCH, INVALID_SLOT, INVALID_INDEX, INVALID_LENGTH, INVALID_OBJECT, INVALID_ARRAY, NOT_IMPLEMENTED, OUT_OF_MEMORY}
use Rattle.jdwp_value.specs.declared.location.Location.{Location}
use Rattle.jdwp_value.specs.declared.location.Location.TheVariants.{Null, At}
use Rattle.jdwp_value.specs.declared.location.TypeTag.TheVariants.{Class}
use Rattle.jdwp_value.specs.declared.tag.Tag.TheVariants as tag
use Rattle.jdwp_value.specs.declared.tag.ObjectTag.TheVariants as kind
use Rattle.jdwp_value.specs.declared.value.Value.{Value}
use Rattle.jdwp_value.specs.declared.value.Value.TheVariants as value
use Rattle.jdwp_value.specs.Values.{object_id}
use Rattle.jdwp_layout.specs.declared.answer.Answer.{Answer}
use Rattle.jdwp_layout.specs.declared.answer.Answer.TheVariants.{Data, Error}
use Rattle.jdwp_layout.specs.Meanings.{Byte, Int, Long, Text, Object, ReferenceType, Method, Frame, Located, Valued, Tagged, One, Many}
use Rattle.jdwp_event.specs.Occurrences.{HappeningMeaning, OccurrenceMeaning, PlaceMeaning, Moved, Entered, Left, RanOut}
use Rattle.jdwp_script.specs.declared.step.SlotValue.{SlotValue}
use Rattle.jdwp_script.specs.Parts.{MethodPart, ClassPart, StepPart, Call, Go, Return}
use Rattle.jdwp_script_machine.specs.States.{State, opening}
use Rattle.jdwp_script_machine.specs.Steps.{next, stepped, ended}
use Rattle.jdwp_script_machine.specs.SlotWrites.{write_answer, written}
use Rattle.jdwp_script_machine.specs.Answers.{answer_at}
use Rattle.jdwp_script_machine.specs.JdiAnswers.{unnamed_module}
use Rattle.jdwp_script_machine.specs.Made.{made_answer, made}

-- ---- the machine

abbrev pub run_method : MethodPart
run_method =
    record {
      id = 20;
      name = codes "run";
      signature = codes "()V";
      modifiers = pos 1;
      args = pos 0;
      last = 9;
      lines = record { index = 0; line = pos 1 } ∷ record { index = 3; line = pos 2 } ∷ record { index = 4; line = pos 3 } ∷ [];
      slots = [];
      returns = None;
    }

abbrev pub main_class : ClassPart
main_class =
    record {
      id = 10;
      tag = Class;
      signature = codes "LMain;";
      modifiers = pos 1;
      superclass = 0;
      interfaces = [];
      source = Some (codes "Main.java");
      fields = [];
      methods = run_method ∷ [];
      «module» = 6;
    }

abbrev pub steps_with : List SlotValue → List StepPart
steps_with slots =
    Call (record { frame = 30; class = 10; method = 20; this = 0; slots = slots })
    ∷ Go 3 ∷ Go 4 ∷ Go 3 ∷ Go 4 ∷ Go 3
    ∷ Return (record { tag = tag.Void; bits = 0 }) ∷ []

-- with these slots in the frame of the first thread
abbrev pub machine_with : List SlotValue → State
machine_with slots =
    opening (record {
      name = codes "A";
      sizes = record { field = 8; method = 8; object = 8; reference = 8; frame = 8 };
      groups = record { id = 5; name = codes "main"; parent = 0; class = 0 } ∷ [];
      classes = main_class ∷ [];
      objects = [];
      threads = record { id = 1; name = codes "main"; group = 5; steps = steps_with slots; class = 0 } ∷ record { id = 2; name = codes "work"; group = 5; steps = []; class = 0 } ∷ [];
      modules = record { id = 7; name = codes "base" } ∷ record { id = 6; name = codes "app" } ∷ [];
    })

-- after so many steps of the first thread
abbrev pub after : ℕ → State → State
after zero s = s
after (suc n) s = stepped (after n s) 1

abbrev pub machine : ℕ → State
machine n = after n (machine_with [])

-- ---- its steps

abbrev pub at_line : ℕ → ℕ → PlaceMeaning
at_line index line =
    record {
      location = At Class (record { 0 = 10 }) (record { 0 = 20 }) index;
      line = Some line;
      frames = 1;
      class = record { signature = codes "LMain;"; reaches = 10 ∷ [] };
    }

abbrev pub of_first : OccurrenceMeaning → HappeningMeaning
of_first o = record { thread = 1; occurrence = o }

pub record StepsAreWorked : Type 0 where
  pub called : next (machine 0) 1 ≡ of_first (Entered (at_line 0 1))
  pub moved : next (machine 1) 1 ≡ of_first (Moved (at_line 3 2))
  pub moved_on : next (machine 2) 1 ≡ of_first (Moved (at_line 4 3))
  pub left : next (machine 6) 1 ≡ of_first (Left (at_line 3 2) value.Void)
  pub at_its_end : next (machine 7) 1 ≡ of_first RanOut
  pub without_steps : next (machine 0) 2 ≡ record { thread = 2; occurrence = RanOut }

-- ---- its answers

-- Frames of the first thread
abbrev pub frames_asked : ℕ → ℤ → ℤ → Answer
frames_asked n from count = answer_at (machine n) 11 6 (One (Object 1) ∷ One (Int from) ∷ One (Int count) ∷ [])

abbrev pub one_frame : ℕ → Answer
one_frame index = Data (Many ((Frame 30 ∷ Located (At Class (record { 0 = 10 }) (record { 0 = 20 }) index) ∷ []) ∷ []) ∷ [])

-- whether a breakpoint may be set there
abbrev pub tested : Location → Answer
tested p = answer_at (machine 1) 15 1 (One (Byte 2) ∷ One (Byte 0) ∷ Many ((Byte 7 ∷ Located p ∷ []) ∷ []) ∷ [])

abbrev pub place : ℕ → ℕ → ℕ → Location
place class method index = At Class (record { 0 = class }) (record { 0 = method }) index

pub record AnswersAreWorked : Type 0 where
  pub frames : frames_asked 1 (pos 0) (negsuc 0) ≡ one_frame 0
  pub frames_moved : frames_asked 2 (pos 0) (pos 1) ≡ one_frame 3
  pub no_frame_left : frames_asked 1 (pos 1) (negsuc 0) ≡ Data (Many [] ∷ [])
  pub start_past : frames_asked 1 (pos 2) (negsuc 0) ≡ Error INVALID_INDEX
  pub start_below : frames_asked 1 (negsuc 0) (negsuc 0) ≡ Error INVALID_INDEX
  pub length_past : frames_asked 1 (pos 1) (pos 1) ≡ Error INVALID_LENGTH
  pub length_below : frames_asked 1 (pos 0) (negsuc 1) ≡ Error INVALID_LENGTH
  pub frame_count : answer_at (machine 1) 11 7 (One (Object 1) ∷ []) ≡ Data (One (Int (pos 1)) ∷ [])
  pub thread_name : answer_at (machine 1) 11 1 (One (Object 1) ∷ []) ≡ Data (One (Text (codes "main")) ∷ [])
  pub by_signature : answer_at (machine 1) 1 2 (One (Text (codes "LMain;")) ∷ []) ≡ Data (Many ((Byte 1 ∷ ReferenceType 10 ∷ Int (pos 3) ∷ []) ∷ []) ∷ [])
  pub by_other_signature : answer_at (machine 1) 1 2 (One (Text (codes "LOther;")) ∷ []) ≡ Data (Many [] ∷ [])
  pub children : answer_at (machine 1) 12 3 (One (Object 5) ∷ []) ≡ Data (Many ((Object 1 ∷ []) ∷ (Object 2 ∷ []) ∷ []) ∷ Many [] ∷ [])
  pub children_left : answer_at (ended (machine 1) 2) 12 3 (One (Object 5) ∷ []) ≡ Data (Many ((Object 1 ∷ []) ∷ []) ∷ Many [] ∷ [])
  pub null_this : answer_at (machine 1) 16 3 (One (Object 1) ∷ One (Frame 30) ∷ []) ≡ Data (One (Tagged (object_id kind.Object 0)) ∷ [])
  pub no_such_frame : answer_at (machine 1) 16 3 (One (Object 1) ∷ One (Frame 31) ∷ []) ≡ Error INVALID_FRAMEID
  pub lines : answer_at (machine 1) 6 1 (One (ReferenceType 10) ∷ One (Method 20) ∷ [])
      ≡ Data (One (Long (pos 0)) ∷ One (Long (pos 9)) ∷ Many ((Long (pos 0) ∷ Int (pos 1) ∷ []) ∷ (Long (pos 3) ∷ Int (pos 2) ∷ []) ∷ (Long (pos 4) ∷ Int (pos 3) ∷ []) ∷ []) ∷ [])
  pub no_such_class : answer_at (machine 1) 2 1 (One (ReferenceType 11) ∷ []) ≡ Error INVALID_CLASS
  pub no_such_method : answer_at (machine 1) 6 1 (One (ReferenceType 10) ∷ One (Method 21) ∷ []) ≡ Error INVALID_METHODID
  pub location : tested (place 10 20 9) ≡ Data (One (Int (pos 0)) ∷ [])
  pub location_past : tested (place 10 20 10) ≡ Error INVALID_LOCATION
  pub location_null : tested Null ≡ Error INVALID_LOCATION
  pub location_class : tested (place 11 20 0) ≡ Error INVALID_CLASS
  pub location_method : tested (place 10 21 0) ≡ Error INVALID_METHODID
  pub modules : answer_at (machine 1) 1 22 [] ≡ Data (Many ((Object 6 ∷ []) ∷ (Object 7 ∷ []) ∷ []) ∷ [])
  pub module_of_class : answer_at (machine 1) 2 19 (One (ReferenceType 10) ∷ []) ≡ Data (One (Object 6) ∷ [])
  pub module_of_no_class : answer_at (machine 1) 2 19 (One (ReferenceType 11) ∷ []) ≡ Error INVALID_CLASS
  pub module_name : answer_at (machine 1) 18 1 (One (Object 6) ∷ []) ≡ Data (One (Text (codes "app")) ∷ [])
  pub module_loader : answer_at (machine 1) 18 2 (One (Object 7) ∷ []) ≡ Data (One (Object 0) ∷ [])
  pub no_such_module : answer_at (machine 1) 18 1 (One (Object 5) ∷ []) ≡ Error INVALID_MODULE
  pub no_module : answer_at (machine 1) 18 2 (One (Object 0) ∷ []) ≡ Error INVALID_MODULE
  pub starred : answer_at (machine 1) 1 11 (One (Text []) ∷ []) ≡ Error NOT_IMPLEMENTED

-- ---- slots

-- the frame has the int 7 in slot 0
abbrev pub slotted : State
slotted = after 1 (machine_with (record { slot = pos 0; value = record { tag = tag.Int; bits = 7 } } ∷ []))

-- a slot asked by the byte of a tag, after these writes
abbrev pub slot_asked : List (ℤ × Value) → ℤ → ℕ → Answer
slot_asked values slot asked = answer_at (written slotted 1 30 values) 16 1 (One (Object 1) ∷ One (Frame 30) ∷ Many ((Int slot ∷ Byte asked ∷ []) ∷ []) ∷ [])

pub record SlotsAreWorked : Type 0 where
  pub writes : write_answer slotted 1 30 ((pos 0, value.Int 5) ∷ []) ≡ Data []
  pub reads : slot_asked ((pos 0, value.Int 5) ∷ []) (pos 0) 73 ≡ Data (Many ((Valued (value.Int 5) ∷ []) ∷ []) ∷ [])
  pub last_counts : slot_asked ((pos 0, value.Int 5) ∷ (pos 0, value.Int 6) ∷ []) (pos 0) 73 ≡ Data (Many ((Valued (value.Int 6) ∷ []) ∷ []) ∷ [])
  pub all_or_none : slot_asked ((pos 0, value.Int 5) ∷ (pos 1, value.Int 6) ∷ []) (pos 0) 73 ≡ Data (Many ((Valued (value.Int 7) ∷ []) ∷ []) ∷ [])
  pub slots_before_tags : write_answer slotted 1 30 ((pos 0, value.Long 5) ∷ (pos 1, value.Int 6) ∷ []) ≡ Error INVALID_SLOT
  pub other_tag : write_answer slotted 1 30 ((pos 0, value.Long 5) ∷ []) ≡ Error TYPE_MISMATCH
  pub never_void : write_answer slotted 1 30 ((pos 0, value.Void) ∷ []) ≡ Error TYPE_MISMATCH
  pub no_such_frame : write_answer slotted 1 31 [] ≡ Error INVALID_FRAMEID
  pub no_such_slot : slot_asked [] (pos 1) 73 ≡ Error INVALID_SLOT
  pub asked_otherwise : slot_asked [] (pos 0) 74 ≡ Error TYPE_MISMATCH
  pub asked_as_nothing : slot_asked [] (pos 0) 0 ≡ Error TYPE_MISMATCH

-- ---- strings

abbrev pub string_class : ClassPart
string_class = record main_class { id = 11; signature = codes "Ljava/lang/String;"; methods = [] }

-- a machine with a class of strings, and objects' ids of so many bytes, of which this one is the greatest
abbrev pub with_strings : ℕ → ℕ → State
with_strings width greatest =
    opening (record {
      name = codes "A";
      sizes = record { field = 8; method = 8; object = width; reference = 8; frame = 8 };
      groups = record { id = greatest; name = codes "main"; parent = 0; class = 0 } ∷ [];
      classes = main_class ∷ string_class ∷ [];
      objects = [];
      threads = record { id = 1; name = codes "main"; group = greatest; steps = []; class = 0 } ∷ [];
      modules = [];
    })

-- where the string `a` was made
abbrev pub one_made : State
one_made = made (with_strings 8 7) (codes "a")

pub record StringsAreWorked : Type 0 where
  pub first : made_answer (with_strings 8 7) (codes "a") ≡ Data (One (Object 9) ∷ [])
  pub second : made_answer one_made (codes "b") ≡ Data (One (Object 10) ∷ [])
  pub told : answer_at one_made 10 1 (One (Object 9) ∷ []) ≡ Data (One (Text (codes "a")) ∷ [])
  pub of_its_class : answer_at one_made 9 1 (One (Object 9) ∷ []) ≡ Data (One (Byte 1) ∷ One (ReferenceType 11) ∷ [])
  pub no_array : answer_at one_made 13 1 (One (Object 9) ∷ []) ≡ Error INVALID_ARRAY
  pub not_yet_made : answer_at one_made 10 1 (One (Object 10) ∷ []) ≡ Error INVALID_OBJECT
  pub unnamed_module_stays : unnamed_module one_made.script ≡ 8
  pub no_such_class : made_answer (machine 0) (codes "a") ≡ Error NOT_IMPLEMENTED
  pub last_that_fits : made_answer (with_strings 1 253) (codes "a") ≡ Data (One (Object 255) ∷ [])
  pub too_wide : made_answer (with_strings 1 254) (codes "a") ≡ Error OUT_OF_MEMORY

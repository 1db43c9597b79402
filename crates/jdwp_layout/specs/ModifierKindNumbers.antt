-- The number of each kind of modifier (JDWP specification, "Protocol Details": the command Set of the set EventRequest).
use Rattle.std.specs.Prelude.{ℕ}

abbrev pub COUNT : ℕ
COUNT = 1

abbrev pub CONDITIONAL : ℕ
CONDITIONAL = 2

abbrev pub THREAD_ONLY : ℕ
THREAD_ONLY = 3

abbrev pub CLASS_ONLY : ℕ
CLASS_ONLY = 4

abbrev pub CLASS_MATCH : ℕ
CLASS_MATCH = 5

abbrev pub CLASS_EXCLUDE : ℕ
CLASS_EXCLUDE = 6

abbrev pub LOCATION_ONLY : ℕ
LOCATION_ONLY = 7

abbrev pub EXCEPTION_ONLY : ℕ
EXCEPTION_ONLY = 8

abbrev pub FIELD_ONLY : ℕ
FIELD_ONLY = 9

abbrev pub STEP : ℕ
STEP = 10

abbrev pub INSTANCE_ONLY : ℕ
INSTANCE_ONLY = 11

abbrev pub SOURCE_NAME_MATCH : ℕ
SOURCE_NAME_MATCH = 12

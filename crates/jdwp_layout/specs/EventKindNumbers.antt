-- The number of each event kind (JDWP specification, "EventKind Constants").
use Rattle.std.specs.Prelude.{ℕ}

abbrev pub SINGLE_STEP : ℕ
SINGLE_STEP = 1

abbrev pub BREAKPOINT : ℕ
BREAKPOINT = 2

abbrev pub FRAME_POP : ℕ
FRAME_POP = 3

abbrev pub EXCEPTION : ℕ
EXCEPTION = 4

abbrev pub USER_DEFINED : ℕ
USER_DEFINED = 5

abbrev pub THREAD_START : ℕ
THREAD_START = 6

abbrev pub THREAD_DEATH : ℕ
THREAD_DEATH = 7

abbrev pub CLASS_PREPARE : ℕ
CLASS_PREPARE = 8

abbrev pub CLASS_UNLOAD : ℕ
CLASS_UNLOAD = 9

abbrev pub CLASS_LOAD : ℕ
CLASS_LOAD = 10

abbrev pub FIELD_ACCESS : ℕ
FIELD_ACCESS = 20

abbrev pub FIELD_MODIFICATION : ℕ
FIELD_MODIFICATION = 21

abbrev pub EXCEPTION_CATCH : ℕ
EXCEPTION_CATCH = 30

abbrev pub METHOD_ENTRY : ℕ
METHOD_ENTRY = 40

abbrev pub METHOD_EXIT : ℕ
METHOD_EXIT = 41

abbrev pub METHOD_EXIT_WITH_RETURN_VALUE : ℕ
METHOD_EXIT_WITH_RETURN_VALUE = 42

abbrev pub MONITOR_CONTENDED_ENTER : ℕ
MONITOR_CONTENDED_ENTER = 43

abbrev pub MONITOR_CONTENDED_ENTERED : ℕ
MONITOR_CONTENDED_ENTERED = 44

abbrev pub MONITOR_WAIT : ℕ
MONITOR_WAIT = 45

abbrev pub MONITOR_WAITED : ℕ
MONITOR_WAITED = 46

abbrev pub VM_START : ℕ
VM_START = 90

abbrev pub VM_DEATH : ℕ
VM_DEATH = 99

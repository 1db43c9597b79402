-- The commands that definitions speak of by name: their sets and numbers
-- (JDWP specification, "Protocol Details").
use Rattle.std.specs.Prelude.{ℕ, Bool, ◌==◌, ◌&&◌}

pub record CommandNumber : Type 0 where
  pub set : ℕ
  pub number : ℕ

-- whether a set and a number are those of a command
abbrev pub is_command : CommandNumber → ℕ → ℕ → Bool
is_command command set number = (set == command.set) && (number == command.number)

-- ---- the sets

abbrev pub VIRTUAL_MACHINE : ℕ
VIRTUAL_MACHINE = 1

abbrev pub REFERENCE_TYPE : ℕ
REFERENCE_TYPE = 2

abbrev pub CLASS_TYPE : ℕ
CLASS_TYPE = 3

abbrev pub INTERFACE_TYPE : ℕ
INTERFACE_TYPE = 5

abbrev pub METHOD : ℕ
METHOD = 6

abbrev pub OBJECT_REFERENCE : ℕ
OBJECT_REFERENCE = 9

abbrev pub STRING_REFERENCE : ℕ
STRING_REFERENCE = 10

abbrev pub THREAD_REFERENCE : ℕ
THREAD_REFERENCE = 11

abbrev pub THREAD_GROUP_REFERENCE : ℕ
THREAD_GROUP_REFERENCE = 12

abbrev pub ARRAY_REFERENCE : ℕ
ARRAY_REFERENCE = 13

abbrev pub EVENT_REQUEST : ℕ
EVENT_REQUEST = 15

abbrev pub STACK_FRAME : ℕ
STACK_FRAME = 16

abbrev pub MODULE_REFERENCE : ℕ
MODULE_REFERENCE = 18

-- the set of what a target sends; those from 0 up to it go to the target
abbrev pub EVENT : ℕ
EVENT = 64

-- ---- VirtualMachine

abbrev pub VERSION : CommandNumber
VERSION = record { set = VIRTUAL_MACHINE; number = 1 }

abbrev pub CLASSES_BY_SIGNATURE : CommandNumber
CLASSES_BY_SIGNATURE = record { set = VIRTUAL_MACHINE; number = 2 }

abbrev pub ALL_CLASSES : CommandNumber
ALL_CLASSES = record { set = VIRTUAL_MACHINE; number = 3 }

abbrev pub ALL_THREADS : CommandNumber
ALL_THREADS = record { set = VIRTUAL_MACHINE; number = 4 }

abbrev pub TOP_LEVEL_THREAD_GROUPS : CommandNumber
TOP_LEVEL_THREAD_GROUPS = record { set = VIRTUAL_MACHINE; number = 5 }

abbrev pub DISPOSE : CommandNumber
DISPOSE = record { set = VIRTUAL_MACHINE; number = 6 }

abbrev pub ID_SIZES : CommandNumber
ID_SIZES = record { set = VIRTUAL_MACHINE; number = 7 }

abbrev pub SUSPEND : CommandNumber
SUSPEND = record { set = VIRTUAL_MACHINE; number = 8 }

abbrev pub RESUME : CommandNumber
RESUME = record { set = VIRTUAL_MACHINE; number = 9 }

abbrev pub EXIT : CommandNumber
EXIT = record { set = VIRTUAL_MACHINE; number = 10 }

abbrev pub CREATE_STRING : CommandNumber
CREATE_STRING = record { set = VIRTUAL_MACHINE; number = 11 }

abbrev pub CAPABILITIES : CommandNumber
CAPABILITIES = record { set = VIRTUAL_MACHINE; number = 12 }

abbrev pub CLASS_PATHS : CommandNumber
CLASS_PATHS = record { set = VIRTUAL_MACHINE; number = 13 }

abbrev pub DISPOSE_OBJECTS : CommandNumber
DISPOSE_OBJECTS = record { set = VIRTUAL_MACHINE; number = 14 }

abbrev pub HOLD_EVENTS : CommandNumber
HOLD_EVENTS = record { set = VIRTUAL_MACHINE; number = 15 }

abbrev pub RELEASE_EVENTS : CommandNumber
RELEASE_EVENTS = record { set = VIRTUAL_MACHINE; number = 16 }

abbrev pub CAPABILITIES_NEW : CommandNumber
CAPABILITIES_NEW = record { set = VIRTUAL_MACHINE; number = 17 }

abbrev pub ALL_CLASSES_WITH_GENERIC : CommandNumber
ALL_CLASSES_WITH_GENERIC = record { set = VIRTUAL_MACHINE; number = 20 }

abbrev pub ALL_MODULES : CommandNumber
ALL_MODULES = record { set = VIRTUAL_MACHINE; number = 22 }

-- ---- ReferenceType

abbrev pub SIGNATURE : CommandNumber
SIGNATURE = record { set = REFERENCE_TYPE; number = 1 }

abbrev pub CLASS_LOADER : CommandNumber
CLASS_LOADER = record { set = REFERENCE_TYPE; number = 2 }

abbrev pub MODIFIERS : CommandNumber
MODIFIERS = record { set = REFERENCE_TYPE; number = 3 }

abbrev pub FIELDS : CommandNumber
FIELDS = record { set = REFERENCE_TYPE; number = 4 }

abbrev pub METHODS : CommandNumber
METHODS = record { set = REFERENCE_TYPE; number = 5 }

abbrev pub GET_STATICS : CommandNumber
GET_STATICS = record { set = REFERENCE_TYPE; number = 6 }

abbrev pub SOURCE_FILE : CommandNumber
SOURCE_FILE = record { set = REFERENCE_TYPE; number = 7 }

abbrev pub CLASS_STATUS : CommandNumber
CLASS_STATUS = record { set = REFERENCE_TYPE; number = 9 }

abbrev pub INTERFACES : CommandNumber
INTERFACES = record { set = REFERENCE_TYPE; number = 10 }

abbrev pub SOURCE_DEBUG_EXTENSION : CommandNumber
SOURCE_DEBUG_EXTENSION = record { set = REFERENCE_TYPE; number = 12 }

abbrev pub SIGNATURE_WITH_GENERIC : CommandNumber
SIGNATURE_WITH_GENERIC = record { set = REFERENCE_TYPE; number = 13 }

abbrev pub FIELDS_WITH_GENERIC : CommandNumber
FIELDS_WITH_GENERIC = record { set = REFERENCE_TYPE; number = 14 }

abbrev pub METHODS_WITH_GENERIC : CommandNumber
METHODS_WITH_GENERIC = record { set = REFERENCE_TYPE; number = 15 }

abbrev pub CLASS_MODULE : CommandNumber
CLASS_MODULE = record { set = REFERENCE_TYPE; number = 19 }

-- ---- ClassType

abbrev pub SUPERCLASS : CommandNumber
SUPERCLASS = record { set = CLASS_TYPE; number = 1 }

abbrev pub CLASS_INVOKE : CommandNumber
CLASS_INVOKE = record { set = CLASS_TYPE; number = 3 }

abbrev pub NEW_INSTANCE : CommandNumber
NEW_INSTANCE = record { set = CLASS_TYPE; number = 4 }

-- ---- InterfaceType

abbrev pub INTERFACE_INVOKE : CommandNumber
INTERFACE_INVOKE = record { set = INTERFACE_TYPE; number = 1 }

-- ---- Method

abbrev pub LINE_TABLE : CommandNumber
LINE_TABLE = record { set = METHOD; number = 1 }

abbrev pub VARIABLE_TABLE : CommandNumber
VARIABLE_TABLE = record { set = METHOD; number = 2 }

abbrev pub IS_OBSOLETE : CommandNumber
IS_OBSOLETE = record { set = METHOD; number = 4 }

abbrev pub VARIABLE_TABLE_WITH_GENERIC : CommandNumber
VARIABLE_TABLE_WITH_GENERIC = record { set = METHOD; number = 5 }

-- ---- ObjectReference

abbrev pub OBJECT_TYPE : CommandNumber
OBJECT_TYPE = record { set = OBJECT_REFERENCE; number = 1 }

abbrev pub GET_FIELDS : CommandNumber
GET_FIELDS = record { set = OBJECT_REFERENCE; number = 2 }

abbrev pub OBJECT_INVOKE : CommandNumber
OBJECT_INVOKE = record { set = OBJECT_REFERENCE; number = 6 }

abbrev pub DISABLE_COLLECTION : CommandNumber
DISABLE_COLLECTION = record { set = OBJECT_REFERENCE; number = 7 }

abbrev pub ENABLE_COLLECTION : CommandNumber
ENABLE_COLLECTION = record { set = OBJECT_REFERENCE; number = 8 }

abbrev pub IS_COLLECTED : CommandNumber
IS_COLLECTED = record { set = OBJECT_REFERENCE; number = 9 }

-- ---- StringReference

abbrev pub STRING_VALUE : CommandNumber
STRING_VALUE = record { set = STRING_REFERENCE; number = 1 }

-- ---- ThreadReference

abbrev pub THREAD_NAME : CommandNumber
THREAD_NAME = record { set = THREAD_REFERENCE; number = 1 }

abbrev pub SUSPEND_THREAD : CommandNumber
SUSPEND_THREAD = record { set = THREAD_REFERENCE; number = 2 }

abbrev pub RESUME_THREAD : CommandNumber
RESUME_THREAD = record { set = THREAD_REFERENCE; number = 3 }

abbrev pub THREAD_STATUS : CommandNumber
THREAD_STATUS = record { set = THREAD_REFERENCE; number = 4 }

abbrev pub THREAD_GROUP : CommandNumber
THREAD_GROUP = record { set = THREAD_REFERENCE; number = 5 }

abbrev pub FRAMES : CommandNumber
FRAMES = record { set = THREAD_REFERENCE; number = 6 }

abbrev pub FRAME_COUNT : CommandNumber
FRAME_COUNT = record { set = THREAD_REFERENCE; number = 7 }

abbrev pub OWNED_MONITORS : CommandNumber
OWNED_MONITORS = record { set = THREAD_REFERENCE; number = 8 }

abbrev pub CONTENDED_MONITOR : CommandNumber
CONTENDED_MONITOR = record { set = THREAD_REFERENCE; number = 9 }

abbrev pub SUSPEND_COUNT : CommandNumber
SUSPEND_COUNT = record { set = THREAD_REFERENCE; number = 12 }

-- ---- ThreadGroupReference

abbrev pub GROUP_NAME : CommandNumber
GROUP_NAME = record { set = THREAD_GROUP_REFERENCE; number = 1 }

abbrev pub GROUP_PARENT : CommandNumber
GROUP_PARENT = record { set = THREAD_GROUP_REFERENCE; number = 2 }

abbrev pub GROUP_CHILDREN : CommandNumber
GROUP_CHILDREN = record { set = THREAD_GROUP_REFERENCE; number = 3 }

-- ---- ArrayReference

abbrev pub ARRAY_LENGTH : CommandNumber
ARRAY_LENGTH = record { set = ARRAY_REFERENCE; number = 1 }

abbrev pub GET_ELEMENTS : CommandNumber
GET_ELEMENTS = record { set = ARRAY_REFERENCE; number = 2 }

-- ---- EventRequest

abbrev pub SET_REQUEST : CommandNumber
SET_REQUEST = record { set = EVENT_REQUEST; number = 1 }

abbrev pub CLEAR_REQUEST : CommandNumber
CLEAR_REQUEST = record { set = EVENT_REQUEST; number = 2 }

abbrev pub CLEAR_ALL_BREAKPOINTS : CommandNumber
CLEAR_ALL_BREAKPOINTS = record { set = EVENT_REQUEST; number = 3 }

-- ---- StackFrame

abbrev pub GET_SLOTS : CommandNumber
GET_SLOTS = record { set = STACK_FRAME; number = 1 }

abbrev pub SET_SLOTS : CommandNumber
SET_SLOTS = record { set = STACK_FRAME; number = 2 }

abbrev pub THIS_OBJECT : CommandNumber
THIS_OBJECT = record { set = STACK_FRAME; number = 3 }

-- ---- ModuleReference

abbrev pub MODULE_NAME : CommandNumber
MODULE_NAME = record { set = MODULE_REFERENCE; number = 1 }

abbrev pub MODULE_CLASS_LOADER : CommandNumber
MODULE_CLASS_LOADER = record { set = MODULE_REFERENCE; number = 2 }

-- ---- Event

abbrev pub COMPOSITE : CommandNumber
COMPOSITE = record { set = EVENT; number = 100 }

-- Names and texts that C asks for: of commands, of error codes and of faults.
use Rattle.std.specs.Prelude.{ℕ, ◌++◌, List, [], ◌∷◌, Option, Some, None, codes}
use Rattle.std.specs.Option.{option_or}
use Rattle.jdwp_layout.specs.CommandTable.{row_at}
use Rattle.jdwp_layout.specs.Rows.{Row, look_up}

-- ---- commands

abbrev pub name_of : Option Row → Option (List ℕ)
name_of None = None
name_of (Some r) = Some (r.set_name ++ (codes "." ++ r.name))

-- the names of its set and of itself with a point between, if the table has it
abbrev pub command_name : ℕ → ℕ → Option (List ℕ)
command_name set number = name_of (row_at set number)

-- ---- error codes (JDWP specification, "Error Constants")

-- of what a command names
abbrev pub id_errors : List (ℕ × List ℕ)
id_errors =
    (0, codes "NONE") ∷
    (10, codes "INVALID_THREAD") ∷
    (11, codes "INVALID_THREAD_GROUP") ∷
    (12, codes "INVALID_PRIORITY") ∷
    (13, codes "THREAD_NOT_SUSPENDED") ∷
    (14, codes "THREAD_SUSPENDED") ∷
    (15, codes "THREAD_NOT_ALIVE") ∷
    (20, codes "INVALID_OBJECT") ∷
    (21, codes "INVALID_CLASS") ∷
    (22, codes "CLASS_NOT_PREPARED") ∷
    (23, codes "INVALID_METHODID") ∷
    (24, codes "INVALID_LOCATION") ∷
    (25, codes "INVALID_FIELDID") ∷
    (30, codes "INVALID_FRAMEID") ∷
    (31, codes "NO_MORE_FRAMES") ∷
    (32, codes "OPAQUE_FRAME") ∷
    (33, codes "NOT_CURRENT_FRAME") ∷
    (34, codes "TYPE_MISMATCH") ∷
    (35, codes "INVALID_SLOT") ∷
    (40, codes "DUPLICATE") ∷
    (41, codes "NOT_FOUND") ∷
    (42, codes "INVALID_MODULE") ∷
    []

-- of monitors and classes
abbrev pub class_errors : List (ℕ × List ℕ)
class_errors =
    (50, codes "INVALID_MONITOR") ∷
    (51, codes "NOT_MONITOR_OWNER") ∷
    (52, codes "INTERRUPT") ∷
    (60, codes "INVALID_CLASS_FORMAT") ∷
    (61, codes "CIRCULAR_CLASS_DEFINITION") ∷
    (62, codes "FAILS_VERIFICATION") ∷
    (63, codes "ADD_METHOD_NOT_IMPLEMENTED") ∷
    (64, codes "SCHEMA_CHANGE_NOT_IMPLEMENTED") ∷
    (65, codes "INVALID_TYPESTATE") ∷
    (66, codes "HIERARCHY_CHANGE_NOT_IMPLEMENTED") ∷
    (67, codes "DELETE_METHOD_NOT_IMPLEMENTED") ∷
    (68, codes "UNSUPPORTED_VERSION") ∷
    (69, codes "NAMES_DONT_MATCH") ∷
    (70, codes "CLASS_MODIFIERS_CHANGE_NOT_IMPLEMENTED") ∷
    (71, codes "METHOD_MODIFIERS_CHANGE_NOT_IMPLEMENTED") ∷
    (72, codes "CLASS_ATTRIBUTE_CHANGE_NOT_IMPLEMENTED") ∷
    []

-- of the machine and its threads
abbrev pub machine_errors : List (ℕ × List ℕ)
machine_errors =
    (99, codes "NOT_IMPLEMENTED") ∷
    (100, codes "NULL_POINTER") ∷
    (101, codes "ABSENT_INFORMATION") ∷
    (102, codes "INVALID_EVENT_TYPE") ∷
    (103, codes "ILLEGAL_ARGUMENT") ∷
    (110, codes "OUT_OF_MEMORY") ∷
    (111, codes "ACCESS_DENIED") ∷
    (112, codes "VM_DEAD") ∷
    (113, codes "INTERNAL") ∷
    (115, codes "UNATTACHED_THREAD") ∷
    []

-- of values and of what is sent
abbrev pub value_errors : List (ℕ × List ℕ)
value_errors =
    (500, codes "INVALID_TAG") ∷
    (502, codes "ALREADY_INVOKING") ∷
    (503, codes "INVALID_INDEX") ∷
    (504, codes "INVALID_LENGTH") ∷
    (506, codes "INVALID_STRING") ∷
    (507, codes "INVALID_CLASS_LOADER") ∷
    (508, codes "INVALID_ARRAY") ∷
    (509, codes "TRANSPORT_LOAD") ∷
    (510, codes "TRANSPORT_INIT") ∷
    (511, codes "NATIVE_METHOD") ∷
    (512, codes "INVALID_COUNT") ∷
    []

abbrev pub error_name : ℕ → Option (List ℕ)
error_name code =
    option_or (look_up code id_errors) (option_or (look_up code class_errors) (option_or (look_up code machine_errors) (look_up code value_errors)))

-- ---- faults, in words

-- of packets, of data and of scripts
abbrev pub byte_faults : List (ℕ × List ℕ)
byte_faults =
    (1, codes "a packet length below 11") ∷
    (2, codes "a packet length above the limit") ∷
    (3, codes "packet flags other than 00 and 80") ∷
    (4, codes "not the handshake") ∷
    (11, codes "too few bytes") ∷
    (12, codes "bytes are left over") ∷
    (13, codes "a bad tag") ∷
    (14, codes "a negative count") ∷
    (15, codes "a string is not UTF-8") ∷
    (16, codes "a width that is not 1 to 8") ∷
    (21, codes "the text is not JSON") ∷
    (22, codes "a member is missing or of another type") ∷
    (23, codes "an id stands twice") ∷
    (24, codes "an id is too wide") ∷
    (25, codes "a bad reference") ∷
    (26, codes "a limit is passed") ∷
    []

-- of a debugger and of captures
abbrev pub session_faults : List (ℕ × List ℕ)
session_faults =
    (31, codes "the widths of ids are not known yet") ∷
    (32, codes "too much waits") ∷
    (33, codes "the session is closed") ∷
    (34, codes "a command longer than a packet may be") ∷
    (36, codes "a command that no target has, or data that do not read in its layout") ∷
    (41, codes "no message begins so") ∷
    (42, codes "a reply to no command that waits") ∷
    (43, codes "a reply whose data do not read, or an error reply with data") ∷
    (44, codes "more composites than may wait for the widths of ids") ∷
    (45, codes "events that don't fit the suspend counts known, or another command") ∷
    (46, codes "no memory") ∷
    (51, codes "not a line of a capture") ∷
    (53, codes "the id of a command that waits for its reply") ∷
    (54, codes "a reply to no command") ∷
    (55, codes "data in a reply with an error") ∷
    (56, codes "a message of the other end") ∷
    []

abbrev pub fault_text : ℕ → Option (List ℕ)
fault_text number = option_or (look_up number byte_faults) (look_up number session_faults)

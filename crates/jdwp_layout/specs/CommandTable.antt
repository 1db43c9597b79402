-- The table of the commands (JDWP specification, "Protocol Details"): what each carries there and back.
use Rattle.std.specs.Prelude.{ℕ, List, [], ◌∷◌, Option, codes}
use Rattle.jdwp_layout.specs.declared.item.Field.TheVariants.{Byte, Boolean, Int, Long, String, ObjectId, ReferenceTypeId, MethodId, FieldId, FrameId, Location, Value, TaggedId}
use Rattle.jdwp_layout.specs.Shapes.{Fields, Modifiers, Events, OneOf, ListOf, RegionOf}
use Rattle.jdwp_layout.specs.Rows.{Row, answered, starred, raw, look_up, row_in}

abbrev pub virtual_machine_rows : List (ℕ × Row)
virtual_machine_rows =
    (1, answered (codes "VirtualMachine") (codes "Version") [] (OneOf String ∷ OneOf Int ∷ OneOf Int ∷ OneOf String ∷ OneOf String ∷ [])) ∷
    (2, answered (codes "VirtualMachine") (codes "ClassesBySignature") (OneOf String ∷ []) (ListOf (Fields (Byte ∷ ReferenceTypeId ∷ Int ∷ [])) ∷ [])) ∷
    (3, answered (codes "VirtualMachine") (codes "AllClasses") [] (ListOf (Fields (Byte ∷ ReferenceTypeId ∷ String ∷ Int ∷ [])) ∷ [])) ∷
    (4, answered (codes "VirtualMachine") (codes "AllThreads") [] (ListOf (Fields (ObjectId ∷ [])) ∷ [])) ∷
    (5, answered (codes "VirtualMachine") (codes "TopLevelThreadGroups") [] (ListOf (Fields (ObjectId ∷ [])) ∷ [])) ∷
    (6, answered (codes "VirtualMachine") (codes "Dispose") [] []) ∷
    (7, answered (codes "VirtualMachine") (codes "IDSizes") [] (OneOf Int ∷ OneOf Int ∷ OneOf Int ∷ OneOf Int ∷ OneOf Int ∷ [])) ∷
    (8, answered (codes "VirtualMachine") (codes "Suspend") [] []) ∷
    (9, answered (codes "VirtualMachine") (codes "Resume") [] []) ∷
    (10, answered (codes "VirtualMachine") (codes "Exit") (OneOf Int ∷ []) []) ∷
    (11, starred (codes "VirtualMachine") (codes "CreateString") (OneOf String ∷ []) (OneOf ObjectId ∷ [])) ∷
    (12, answered (codes "VirtualMachine") (codes "Capabilities") [] (OneOf Boolean ∷ OneOf Boolean ∷ OneOf Boolean ∷ OneOf Boolean ∷ OneOf Boolean ∷ OneOf Boolean ∷ OneOf Boolean ∷ [])) ∷
    (13, raw (codes "VirtualMachine") (codes "ClassPaths")) ∷
    (14, answered (codes "VirtualMachine") (codes "DisposeObjects") (ListOf (Fields (ObjectId ∷ Int ∷ [])) ∷ []) []) ∷
    (15, answered (codes "VirtualMachine") (codes "HoldEvents") [] []) ∷
    (16, answered (codes "VirtualMachine") (codes "ReleaseEvents") [] []) ∷
    (17, answered (codes "VirtualMachine") (codes "CapabilitiesNew") [] (OneOf Boolean ∷ OneOf Boolean ∷ OneOf Boolean ∷ OneOf Boolean ∷ OneOf Boolean ∷ OneOf Boolean ∷ OneOf Boolean ∷ OneOf Boolean ∷ OneOf Boolean ∷ OneOf Boolean ∷ OneOf Boolean ∷ OneOf Boolean ∷ OneOf Boolean ∷ OneOf Boolean ∷ OneOf Boolean ∷ OneOf Boolean ∷ OneOf Boolean ∷ OneOf Boolean ∷ OneOf Boolean ∷ OneOf Boolean ∷ OneOf Boolean ∷ OneOf Boolean ∷ OneOf Boolean ∷ OneOf Boolean ∷ OneOf Boolean ∷ OneOf Boolean ∷ OneOf Boolean ∷ OneOf Boolean ∷ OneOf Boolean ∷ OneOf Boolean ∷ OneOf Boolean ∷ OneOf Boolean ∷ [])) ∷
    (18, raw (codes "VirtualMachine") (codes "RedefineClasses")) ∷
    (19, starred (codes "VirtualMachine") (codes "SetDefaultStratum") (OneOf String ∷ []) []) ∷
    (20, answered (codes "VirtualMachine") (codes "AllClassesWithGeneric") [] (ListOf (Fields (Byte ∷ ReferenceTypeId ∷ String ∷ String ∷ Int ∷ [])) ∷ [])) ∷
    (21, starred (codes "VirtualMachine") (codes "InstanceCounts") (ListOf (Fields (ReferenceTypeId ∷ [])) ∷ []) (ListOf (Fields (Long ∷ [])) ∷ [])) ∷
    (22, answered (codes "VirtualMachine") (codes "AllModules") [] (ListOf (Fields (ObjectId ∷ [])) ∷ [])) ∷
    []

abbrev pub reference_type_rows : List (ℕ × Row)
reference_type_rows =
    (1, answered (codes "ReferenceType") (codes "Signature") (OneOf ReferenceTypeId ∷ []) (OneOf String ∷ [])) ∷
    (2, answered (codes "ReferenceType") (codes "ClassLoader") (OneOf ReferenceTypeId ∷ []) (OneOf ObjectId ∷ [])) ∷
    (3, answered (codes "ReferenceType") (codes "Modifiers") (OneOf ReferenceTypeId ∷ []) (OneOf Int ∷ [])) ∷
    (4, answered (codes "ReferenceType") (codes "Fields") (OneOf ReferenceTypeId ∷ []) (ListOf (Fields (FieldId ∷ String ∷ String ∷ Int ∷ [])) ∷ [])) ∷
    (5, answered (codes "ReferenceType") (codes "Methods") (OneOf ReferenceTypeId ∷ []) (ListOf (Fields (MethodId ∷ String ∷ String ∷ Int ∷ [])) ∷ [])) ∷
    (6, answered (codes "ReferenceType") (codes "GetValues") (OneOf ReferenceTypeId ∷ ListOf (Fields (FieldId ∷ [])) ∷ []) (ListOf (Fields (Value ∷ [])) ∷ [])) ∷
    (7, answered (codes "ReferenceType") (codes "SourceFile") (OneOf ReferenceTypeId ∷ []) (OneOf String ∷ [])) ∷
    (8, starred (codes "ReferenceType") (codes "NestedTypes") (OneOf ReferenceTypeId ∷ []) (ListOf (Fields (Byte ∷ ReferenceTypeId ∷ [])) ∷ [])) ∷
    (9, answered (codes "ReferenceType") (codes "Status") (OneOf ReferenceTypeId ∷ []) (OneOf Int ∷ [])) ∷
    (10, answered (codes "ReferenceType") (codes "Interfaces") (OneOf ReferenceTypeId ∷ []) (ListOf (Fields (ReferenceTypeId ∷ [])) ∷ [])) ∷
    (11, starred (codes "ReferenceType") (codes "ClassObject") (OneOf ReferenceTypeId ∷ []) (OneOf ObjectId ∷ [])) ∷
    (12, starred (codes "ReferenceType") (codes "SourceDebugExtension") (OneOf ReferenceTypeId ∷ []) (OneOf String ∷ [])) ∷
    (13, answered (codes "ReferenceType") (codes "SignatureWithGeneric") (OneOf ReferenceTypeId ∷ []) (OneOf String ∷ OneOf String ∷ [])) ∷
    (14, answered (codes "ReferenceType") (codes "FieldsWithGeneric") (OneOf ReferenceTypeId ∷ []) (ListOf (Fields (FieldId ∷ String ∷ String ∷ String ∷ Int ∷ [])) ∷ [])) ∷
    (15, answered (codes "ReferenceType") (codes "MethodsWithGeneric") (OneOf ReferenceTypeId ∷ []) (ListOf (Fields (MethodId ∷ String ∷ String ∷ String ∷ Int ∷ [])) ∷ [])) ∷
    (16, starred (codes "ReferenceType") (codes "Instances") (OneOf ReferenceTypeId ∷ OneOf Int ∷ []) (ListOf (Fields (TaggedId ∷ [])) ∷ [])) ∷
    (17, starred (codes "ReferenceType") (codes "ClassFileVersion") (OneOf ReferenceTypeId ∷ []) (OneOf Int ∷ OneOf Int ∷ [])) ∷
    (18, starred (codes "ReferenceType") (codes "ConstantPool") (OneOf ReferenceTypeId ∷ []) (OneOf Int ∷ ListOf (Fields (Byte ∷ [])) ∷ [])) ∷
    (19, answered (codes "ReferenceType") (codes "Module") (OneOf ReferenceTypeId ∷ []) (OneOf ObjectId ∷ [])) ∷
    []

abbrev pub class_type_rows : List (ℕ × Row)
class_type_rows =
    (1, answered (codes "ClassType") (codes "Superclass") (OneOf ReferenceTypeId ∷ []) (OneOf ReferenceTypeId ∷ [])) ∷
    (2, raw (codes "ClassType") (codes "SetValues")) ∷
    (3, raw (codes "ClassType") (codes "InvokeMethod")) ∷
    (4, raw (codes "ClassType") (codes "NewInstance")) ∷
    []

abbrev pub array_type_rows : List (ℕ × Row)
array_type_rows =
    (1, raw (codes "ArrayType") (codes "NewInstance")) ∷
    []

abbrev pub interface_type_rows : List (ℕ × Row)
interface_type_rows =
    (1, raw (codes "InterfaceType") (codes "InvokeMethod")) ∷
    []

abbrev pub method_rows : List (ℕ × Row)
method_rows =
    (1, answered (codes "Method") (codes "LineTable") (OneOf ReferenceTypeId ∷ OneOf MethodId ∷ []) (OneOf Long ∷ OneOf Long ∷ ListOf (Fields (Long ∷ Int ∷ [])) ∷ [])) ∷
    (2, answered (codes "Method") (codes "VariableTable") (OneOf ReferenceTypeId ∷ OneOf MethodId ∷ []) (OneOf Int ∷ ListOf (Fields (Long ∷ String ∷ String ∷ Int ∷ Int ∷ [])) ∷ [])) ∷
    (3, starred (codes "Method") (codes "Bytecodes") (OneOf ReferenceTypeId ∷ OneOf MethodId ∷ []) (ListOf (Fields (Byte ∷ [])) ∷ [])) ∷
    (4, answered (codes "Method") (codes "IsObsolete") (OneOf ReferenceTypeId ∷ OneOf MethodId ∷ []) (OneOf Boolean ∷ [])) ∷
    (5, answered (codes "Method") (codes "VariableTableWithGeneric") (OneOf ReferenceTypeId ∷ OneOf MethodId ∷ []) (OneOf Int ∷ ListOf (Fields (Long ∷ String ∷ String ∷ String ∷ Int ∷ Int ∷ [])) ∷ [])) ∷
    []

abbrev pub object_reference_rows : List (ℕ × Row)
object_reference_rows =
    (1, answered (codes "ObjectReference") (codes "ReferenceType") (OneOf ObjectId ∷ []) (OneOf Byte ∷ OneOf ReferenceTypeId ∷ [])) ∷
    (2, answered (codes "ObjectReference") (codes "GetValues") (OneOf ObjectId ∷ ListOf (Fields (FieldId ∷ [])) ∷ []) (ListOf (Fields (Value ∷ [])) ∷ [])) ∷
    (3, raw (codes "ObjectReference") (codes "SetValues")) ∷
    (5, starred (codes "ObjectReference") (codes "MonitorInfo") (OneOf ObjectId ∷ []) (OneOf ObjectId ∷ OneOf Int ∷ ListOf (Fields (ObjectId ∷ [])) ∷ [])) ∷
    (6, raw (codes "ObjectReference") (codes "InvokeMethod")) ∷
    (7, answered (codes "ObjectReference") (codes "DisableCollection") (OneOf ObjectId ∷ []) []) ∷
    (8, answered (codes "ObjectReference") (codes "EnableCollection") (OneOf ObjectId ∷ []) []) ∷
    (9, answered (codes "ObjectReference") (codes "IsCollected") (OneOf ObjectId ∷ []) (OneOf Boolean ∷ [])) ∷
    (10, starred (codes "ObjectReference") (codes "ReferringObjects") (OneOf ObjectId ∷ OneOf Int ∷ []) (ListOf (Fields (TaggedId ∷ [])) ∷ [])) ∷
    []

abbrev pub string_reference_rows : List (ℕ × Row)
string_reference_rows =
    (1, answered (codes "StringReference") (codes "Value") (OneOf ObjectId ∷ []) (OneOf String ∷ [])) ∷
    []

abbrev pub thread_reference_rows : List (ℕ × Row)
thread_reference_rows =
    (1, answered (codes "ThreadReference") (codes "Name") (OneOf ObjectId ∷ []) (OneOf String ∷ [])) ∷
    (2, answered (codes "ThreadReference") (codes "Suspend") (OneOf ObjectId ∷ []) []) ∷
    (3, answered (codes "ThreadReference") (codes "Resume") (OneOf ObjectId ∷ []) []) ∷
    (4, answered (codes "ThreadReference") (codes "Status") (OneOf ObjectId ∷ []) (OneOf Int ∷ OneOf Int ∷ [])) ∷
    (5, answered (codes "ThreadReference") (codes "ThreadGroup") (OneOf ObjectId ∷ []) (OneOf ObjectId ∷ [])) ∷
    (6, answered (codes "ThreadReference") (codes "Frames") (OneOf ObjectId ∷ OneOf Int ∷ OneOf Int ∷ []) (ListOf (Fields (FrameId ∷ Location ∷ [])) ∷ [])) ∷
    (7, answered (codes "ThreadReference") (codes "FrameCount") (OneOf ObjectId ∷ []) (OneOf Int ∷ [])) ∷
    (8, starred (codes "ThreadReference") (codes "OwnedMonitors") (OneOf ObjectId ∷ []) (ListOf (Fields (TaggedId ∷ [])) ∷ [])) ∷
    (9, starred (codes "ThreadReference") (codes "CurrentContendedMonitor") (OneOf ObjectId ∷ []) (OneOf TaggedId ∷ [])) ∷
    (10, starred (codes "ThreadReference") (codes "Stop") (OneOf ObjectId ∷ OneOf ObjectId ∷ []) []) ∷
    (11, starred (codes "ThreadReference") (codes "Interrupt") (OneOf ObjectId ∷ []) []) ∷
    (12, answered (codes "ThreadReference") (codes "SuspendCount") (OneOf ObjectId ∷ []) (OneOf Int ∷ [])) ∷
    (13, starred (codes "ThreadReference") (codes "OwnedMonitorsStackDepthInfo") (OneOf ObjectId ∷ []) (ListOf (Fields (TaggedId ∷ Int ∷ [])) ∷ [])) ∷
    (14, starred (codes "ThreadReference") (codes "ForceEarlyReturn") (OneOf ObjectId ∷ OneOf Value ∷ []) []) ∷
    []

abbrev pub thread_group_reference_rows : List (ℕ × Row)
thread_group_reference_rows =
    (1, answered (codes "ThreadGroupReference") (codes "Name") (OneOf ObjectId ∷ []) (OneOf String ∷ [])) ∷
    (2, answered (codes "ThreadGroupReference") (codes "Parent") (OneOf ObjectId ∷ []) (OneOf ObjectId ∷ [])) ∷
    (3, answered (codes "ThreadGroupReference") (codes "Children") (OneOf ObjectId ∷ []) (ListOf (Fields (ObjectId ∷ [])) ∷ ListOf (Fields (ObjectId ∷ [])) ∷ [])) ∷
    []

abbrev pub array_reference_rows : List (ℕ × Row)
array_reference_rows =
    (1, answered (codes "ArrayReference") (codes "Length") (OneOf ObjectId ∷ []) (OneOf Int ∷ [])) ∷
    (2, answered (codes "ArrayReference") (codes "GetValues") (OneOf ObjectId ∷ OneOf Int ∷ OneOf Int ∷ []) (RegionOf ∷ [])) ∷
    (3, raw (codes "ArrayReference") (codes "SetValues")) ∷
    []

abbrev pub class_loader_reference_rows : List (ℕ × Row)
class_loader_reference_rows =
    (1, starred (codes "ClassLoaderReference") (codes "VisibleClasses") (OneOf ObjectId ∷ []) (ListOf (Fields (Byte ∷ ReferenceTypeId ∷ [])) ∷ [])) ∷
    []

abbrev pub event_request_rows : List (ℕ × Row)
event_request_rows =
    (1, answered (codes "EventRequest") (codes "Set") (OneOf Byte ∷ OneOf Byte ∷ ListOf Modifiers ∷ []) (OneOf Int ∷ [])) ∷
    (2, answered (codes "EventRequest") (codes "Clear") (OneOf Byte ∷ OneOf Int ∷ []) []) ∷
    (3, answered (codes "EventRequest") (codes "ClearAllBreakpoints") [] []) ∷
    []

abbrev pub stack_frame_rows : List (ℕ × Row)
stack_frame_rows =
    (1, answered (codes "StackFrame") (codes "GetValues") (OneOf ObjectId ∷ OneOf FrameId ∷ ListOf (Fields (Int ∷ Byte ∷ [])) ∷ []) (ListOf (Fields (Value ∷ [])) ∷ [])) ∷
    (2, answered (codes "StackFrame") (codes "SetValues") (OneOf ObjectId ∷ OneOf FrameId ∷ ListOf (Fields (Int ∷ Value ∷ [])) ∷ []) []) ∷
    (3, answered (codes "StackFrame") (codes "ThisObject") (OneOf ObjectId ∷ OneOf FrameId ∷ []) (OneOf TaggedId ∷ [])) ∷
    (4, starred (codes "StackFrame") (codes "PopFrames") (OneOf ObjectId ∷ OneOf FrameId ∷ []) []) ∷
    []

abbrev pub class_object_reference_rows : List (ℕ × Row)
class_object_reference_rows =
    (1, starred (codes "ClassObjectReference") (codes "ReflectedType") (OneOf ObjectId ∷ []) (OneOf Byte ∷ OneOf ReferenceTypeId ∷ [])) ∷
    []

abbrev pub module_reference_rows : List (ℕ × Row)
module_reference_rows =
    (1, answered (codes "ModuleReference") (codes "Name") (OneOf ObjectId ∷ []) (OneOf String ∷ [])) ∷
    (2, answered (codes "ModuleReference") (codes "ClassLoader") (OneOf ObjectId ∷ []) (OneOf ObjectId ∷ [])) ∷
    []

abbrev pub event_rows : List (ℕ × Row)
event_rows =
    (100, answered (codes "Event") (codes "Composite") (OneOf Byte ∷ ListOf Events ∷ []) []) ∷
    []

abbrev pub command_sets : List (ℕ × List (ℕ × Row))
command_sets =
    (1, virtual_machine_rows) ∷
    (2, reference_type_rows) ∷
    (3, class_type_rows) ∷
    (4, array_type_rows) ∷
    (5, interface_type_rows) ∷
    (6, method_rows) ∷
    (9, object_reference_rows) ∷
    (10, string_reference_rows) ∷
    (11, thread_reference_rows) ∷
    (12, thread_group_reference_rows) ∷
    (13, array_reference_rows) ∷
    (14, class_loader_reference_rows) ∷
    (15, event_request_rows) ∷
    (16, stack_frame_rows) ∷
    (17, class_object_reference_rows) ∷
    (18, module_reference_rows) ∷
    (64, event_rows) ∷
    []

-- the row of a command set and a command
abbrev pub row_at : ℕ → ℕ → Option Row
row_at set command = row_in command (look_up set command_sets)

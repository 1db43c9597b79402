-- Event kinds (JDWP specification, "EventKind Constants").
use Rattle.std.specs.Prelude.{ℕ, ◌==◌, if◌then◌else◌, Option, Some, None, List, [], ◌∷◌}
use Rattle.jdwp_layout.specs.EventKindNumbers as number
use Rattle.jdwp_event.specs.declared.kind.EventKind.{EventKind}
use Rattle.jdwp_event.specs.declared.kind.EventKind.TheVariants as kind

-- the byte of each kind
abbrev pub kind_byte : EventKind → ℕ
kind_byte kind.SingleStep = number.SINGLE_STEP
kind_byte kind.Breakpoint = number.BREAKPOINT
kind_byte kind.FramePop = number.FRAME_POP
kind_byte kind.Exception = number.EXCEPTION
kind_byte kind.UserDefined = number.USER_DEFINED
kind_byte kind.ThreadStart = number.THREAD_START
kind_byte kind.ThreadDeath = number.THREAD_DEATH
kind_byte kind.ClassPrepare = number.CLASS_PREPARE
kind_byte kind.ClassUnload = number.CLASS_UNLOAD
kind_byte kind.ClassLoad = number.CLASS_LOAD
kind_byte kind.FieldAccess = number.FIELD_ACCESS
kind_byte kind.FieldModification = number.FIELD_MODIFICATION
kind_byte kind.ExceptionCatch = number.EXCEPTION_CATCH
kind_byte kind.MethodEntry = number.METHOD_ENTRY
kind_byte kind.MethodExit = number.METHOD_EXIT
kind_byte kind.MethodExitWithReturnValue = number.METHOD_EXIT_WITH_RETURN_VALUE
kind_byte kind.MonitorContendedEnter = number.MONITOR_CONTENDED_ENTER
kind_byte kind.MonitorContendedEntered = number.MONITOR_CONTENDED_ENTERED
kind_byte kind.MonitorWait = number.MONITOR_WAIT
kind_byte kind.MonitorWaited = number.MONITOR_WAITED
kind_byte kind.VmStart = number.VM_START
kind_byte kind.VmDeath = number.VM_DEATH

-- every kind once
abbrev pub all_kinds : List EventKind
all_kinds =
    kind.SingleStep ∷
    kind.Breakpoint ∷
    kind.FramePop ∷
    kind.Exception ∷
    kind.UserDefined ∷
    kind.ThreadStart ∷
    kind.ThreadDeath ∷
    kind.ClassPrepare ∷
    kind.ClassUnload ∷
    kind.ClassLoad ∷
    kind.FieldAccess ∷
    kind.FieldModification ∷
    kind.ExceptionCatch ∷
    kind.MethodEntry ∷
    kind.MethodExit ∷
    kind.MethodExitWithReturnValue ∷
    kind.MonitorContendedEnter ∷
    kind.MonitorContendedEntered ∷
    kind.MonitorWait ∷
    kind.MonitorWaited ∷
    kind.VmStart ∷
    kind.VmDeath ∷
    []

-- the kind among these whose byte it is
abbrev pub kind_among : List EventKind → ℕ → Option EventKind
kind_among [] byte = None
kind_among (k ∷ ks) byte = if byte == kind_byte k then Some k else kind_among ks byte

abbrev pub kind_of_byte : ℕ → Option EventKind
kind_of_byte byte = kind_among all_kinds byte

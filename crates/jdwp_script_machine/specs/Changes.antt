-- Whether a value suits its slot, and what a write leaves of one frame, and of one thread.
use Rattle.std.specs.Prelude.{ℕ, ℤ, ◌==◌, Bool, List, if◌then◌else◌}
use Rattle.jdwp_value.specs.declared.value.Value.{Value}
use Rattle.jdwp_value.specs.Values.{tag_of}
use Rattle.jdwp_script_machine.specs.States.{SlotNow, FrameNow, ThreadNow}
use Rattle.jdwp_script_machine.specs.SlotWrites.{slot_value, found_suits, frame_written, thread_written}

-- whether a value has a tag that suits the slot that it is for
unfoldable pub value_suits : List SlotNow → ℤ × Value → Bool
value_suits slots v = found_suits (slot_value v.0 slots) (tag_of v.1)

abbrev pub frame_changed : ℕ → List (ℤ × Value) → FrameNow → FrameNow
frame_changed id values f = if f.id == id then frame_written values f else f

abbrev pub thread_changed : ℕ → ℕ → List (ℤ × Value) → ThreadNow → ThreadNow
thread_changed id frame values e = if e.id == id then thread_written frame values e else e

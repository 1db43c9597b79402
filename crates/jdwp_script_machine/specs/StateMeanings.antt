-- What the code keeps of a machine means a state.
use Rattle.std.specs.Prelude.{map}
use Rattle.jdwp_script.specs.Meanings.{object_part, script_part}
use Rattle.jdwp_script_machine.specs.declared.state.SlotState.{SlotState}
use Rattle.jdwp_script_machine.specs.declared.state.FrameState.{FrameState}
use Rattle.jdwp_script_machine.specs.declared.state.Life as code
use Rattle.jdwp_script_machine.specs.declared.state.Life.TheVariants as life
use Rattle.jdwp_script_machine.specs.declared.state.ThreadState.{ThreadState}
use Rattle.jdwp_script_machine.specs.declared.state.ClassState.{ClassState}
use Rattle.jdwp_script_machine.specs.declared.state.MachineState.{MachineState}
use Rattle.jdwp_script_machine.specs.States.{SlotNow, FrameNow, Life, Waits, Lives, HasEnded, ThreadNow, ClassNow, State}

abbrev pub slot_now : SlotState → SlotNow
slot_now x = record { slot = x.slot; value = x.value }

abbrev pub frame_now : FrameState → FrameNow
frame_now f = record { id = f.id.0; class = f.class.0; method = f.method.0; index = f.index; this = f.this.0; slots = map slot_now f.slots.items }

abbrev pub life_now : code.Life → Life
life_now life.Waits = Waits
life_now life.Lives = Lives
life_now life.HasEnded = HasEnded

abbrev pub thread_now : ThreadState → ThreadNow
thread_now e = record { id = e.id.0; life = life_now e.life; place = e.place; frames = map frame_now e.frames.items }

abbrev pub class_now : ClassState → ClassNow
class_now c = record { id = c.id.0; is_prepared = c.is_prepared }

abbrev pub state_now : MachineState → State
state_now s = record { script = script_part s.script; threads = map thread_now s.threads.items; classes = map class_now s.classes.items; made = map object_part s.made.items; profile = s.profile }

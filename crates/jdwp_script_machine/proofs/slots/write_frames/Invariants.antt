use Rattle.std.proofs.Common.{◌≡◌, ◌++◌, map, take, drop}
use Rattle.jdwp_script_machine.specs.StateMeanings.{frame_now}
use Rattle.jdwp_script_machine.specs.Changes.{frame_changed}
use Rattle.jdwp_script_machine.proofs.slots.write_frames.Given as goal

abbrev pub invariant-loop-frame : goal.invariant-loop-frame
invariant-loop-frame l = map frame_now (take l.frame-index l.frames) ++ map (frame_changed l.id.0 l.values) (map frame_now (drop l.frame-index l.frames)) ≡ map (frame_changed l.id.0 l.values) (map frame_now l.fn.frames)

-- The numbers by which faults of recordings are told.
use Rattle.std.specs.Prelude.{ℕ}
use Rattle.jdwp_recording.specs.declared.recording_fault.RecordingFault.{RecordingFault}
use Rattle.jdwp_recording.specs.declared.recording_fault.RecordingFault.TheVariants.{NoRecording, Damaged, CutOff, NoConnection, NoTarget, Hole, Snapped, NoMemory}

abbrev pub number_of_fault : RecordingFault → ℕ
number_of_fault NoRecording = 71
number_of_fault (Damaged packets) = 72
number_of_fault (CutOff packets) = 73
number_of_fault (NoConnection number) = 74
number_of_fault NoTarget = 75
number_of_fault (Hole packet) = 76
number_of_fault (Snapped packet) = 77
number_of_fault NoMemory = 0

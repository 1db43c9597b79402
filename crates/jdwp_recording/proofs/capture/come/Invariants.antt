use Rattle.jdwp_recording.specs.Directions.{kept_count}
use Rattle.jdwp_recording.proofs.capture.come.Given as goal

abbrev pub decreases-loop-fresh : goal.decreases-loop-fresh
decreases-loop-fresh l = kept_count l.direction

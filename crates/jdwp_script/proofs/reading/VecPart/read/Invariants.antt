use Rattle.std.proofs.Common.{◌≡◌, drop, map}
use Rattle.serde_json.specs.View.{view}
use Rattle.jdwp_script.specs.Reading.{each_of}
use Rattle.jdwp_script.proofs.Lists.{with_front}
use Rattle.jdwp_script.proofs.reading.VecPart.read.Given as goal

abbrev pub invariant-loop-element : goal.invariant-loop-element
invariant-loop-element g l = with_front (map g.T.Part.meaning l.parts.items) (each_of (g.T.Part.reads l.member) (drop l.element-index (map view l.list))) ≡ each_of (g.T.Part.reads l.member) (map view l.list)

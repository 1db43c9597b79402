use Rattle.std.proofs.Common.{◌≡◌, map, drop}
use Rattle.std.specs.Str.{bytes_eq}
use Rattle.jdwp_event.specs.Filters.{dotted}
use Rattle.jdwp_event.proofs.pattern.is_same.Given as goal

abbrev pub invariant-loop-place : goal.invariant-loop-place
invariant-loop-place l = bytes_eq (map dotted (drop l.place l.name)) (drop l.place l.text) ≡ bytes_eq (map dotted l.name) l.text

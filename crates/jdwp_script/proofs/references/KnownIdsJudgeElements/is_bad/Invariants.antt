use Rattle.std.proofs.Common.{◌≡◌, drop}
use Rattle.std.specs.List.{list_any}
use Rattle.jdwp_script.specs.IdSets.{known_ids}
use Rattle.jdwp_script.specs.References.{literal_lost}
use Rattle.jdwp_script.proofs.references.KnownIdsJudgeElements.is_bad.Given as goal

abbrev pub invariant-loop-bits : goal.invariant-loop-bits
invariant-loop-bits l = list_any (λ n. literal_lost (known_ids l.self) (record { tag = l.elements.tag; bits = n })) (drop l.bits-index l.elements.bits.items) ≡ list_any (λ n. literal_lost (known_ids l.self) (record { tag = l.elements.tag; bits = n })) l.elements.bits.items

use Rattle.std.proofs.Common.{rules}
use Rattle.std.proofs.lemmas.Map.Made.{map_same_pairs}
use Rattle.jdwp_mirror.specs.KnownThreads.{taught_by}
use Rattle.jdwp_mirror.specs.Numbering.{anew, seen}
use Rattle.jdwp_mirror.proofs.threads.teach_entries.Goals as goal

pub returns-clause-entries : goal.returns-clause-entries
returns-clause-entries c = map_same_pairs _ (λ m. anew (taught_by c.args.lesson (seen c.args.moves.now m))) _ (λ k v b w f' t. search rules) _ _ c.retain.ensures.filtered

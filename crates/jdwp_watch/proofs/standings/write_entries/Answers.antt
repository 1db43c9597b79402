use Rattle.std.proofs.Common.{rules}
use Rattle.std.proofs.lemmas.Map.Made.{map_same_pairs}
use Rattle.jdwp_watch.specs.Tables.{anew}
use Rattle.jdwp_watch.proofs.standings.write_entries.Goals as goal

pub returns : goal.returns
returns c = map_same_pairs _ (λ m. anew c.args.moves.now m) _ (λ k v b w f' t. search rules) _ _ c.retain.ensures.filtered

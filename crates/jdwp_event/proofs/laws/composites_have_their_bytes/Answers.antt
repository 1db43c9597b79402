use Rattle.std.proofs.Common.{List, ℕ, ◌∷◌, ap, sym}
use Rattle.std.proofs.lemmas.List.{append-nil}
use Rattle.jdwp_wire.specs.Listed.{list_canonical}
use Rattle.jdwp_layout.specs.Writes.{entry_canonical}
use Rattle.jdwp_event.proofs.laws.composites_have_their_bytes.Goals as goal

pub returns : goal.returns
returns c = λ w x. ap (λ (bytes : List ℕ). x.policy ∷ bytes) (sym (append-nil (list_canonical (entry_canonical w) x.events)))

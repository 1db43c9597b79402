-- What calls write, and the lines that are fresh behind them.
use Rattle.std.proofs.Common.{◌≡◌, ℕ, List, [], ◌++◌, Option, sym, ap, subst, ◌∙◌, append-nil}
use Rattle.std.specs.Io.KnownBytes.{Appends}
use Rattle.std.proofs.KnownBytes.{Appends-nil, Appends-trans}
use Rattle.jdwp_relay.specs.Captures.{WritesFresh}

pub none_written : (text : Option (List ℕ)) (fresh : List ℕ) → WritesFresh text fresh text fresh
none_written text fresh = record { added = []; appends = Appends-nil text; grown = sym (append-nil fresh) }

-- two calls, where no line was fresh before them
pub both_written : (text between written : Option (List ℕ)) (none mid all : List ℕ) → none ≡ [] → WritesFresh text none between mid → WritesFresh between mid written all → Appends text written all
both_written text between written none mid all forgotten first second =
    let is : all ≡ first.added ++ second.added =
    second.grown ∙ ap (λ xs. xs ++ second.added) (first.grown ∙ ap (λ xs. xs ++ first.added) forgotten) in
    subst (Appends text written) (sym is) (Appends-trans text between written first.added second.added first.appends second.appends)

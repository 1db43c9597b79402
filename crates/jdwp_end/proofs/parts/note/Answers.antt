use Rattle.std.proofs.Common.{rules, ◌≡◌, ◌∙◌, ◌++◌, ◌-◌, ℕ, List, min, length, take, ap}
use Rattle.jdwp_end.proofs.TwoParts.{noted_parts}
use Rattle.jdwp_end.proofs.parts.note.Goals as goal

pub returns : goal.returns
returns c =
    let is : c.min-count.result ≡ min c.args.used (length c.args.first.now) = search rules in
    c.extend-2.ensures ∙ ap (λ (zs : List ℕ). zs ++ take (c.args.used - c.min-count.result) c.args.second.now) c.extend.ensures
    ∙ noted_parts c.args.history.now.bytes c.args.used c.min-count.result c.args.first.now c.args.second.now is

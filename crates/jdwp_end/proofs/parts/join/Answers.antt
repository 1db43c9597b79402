use Rattle.std.proofs.Common.{rules, ◌≡◌, ◌∙◌, ◌++◌, ◌-◌, min, length, take}
use Rattle.jdwp_end.proofs.TwoParts.{taken_parts}
use Rattle.jdwp_end.proofs.parts.join.Goals as goal

pub returns-clause-joined : goal.returns-clause-joined
returns-clause-joined c =
    let is : c.min-count.result ≡ min c.args.used (length c.args.first.now) = search rules in
    let both : c.extend_from_slice-2.new.self.items ≡ take c.min-count.result c.args.first.now ++ take (c.args.used - c.min-count.result) c.args.second.now = search rules in
    both ∙ taken_parts c.args.used c.min-count.result c.args.first.now c.args.second.now is

use Rattle.std.proofs.Common.{sym, ap, ◌∙◌}
use Rattle.std.specs.BTreeMap.{is_at}
use Rattle.std.specs.Ordering.{nat_cmp}
use Rattle.std.specs.Set.{remove_key}
use Rattle.jdwp_mirror.specs.Rows.{breakpoints_in}
use Rattle.jdwp_mirror.proofs.RowLemmas.{apart-sorted, marks-removed}
use Rattle.jdwp_mirror.proofs.row.Row.remove.Goals as goal

pub invariant_of-self : goal.invariant_of-self
invariant_of-self c =
    let row = c.self.inside.entries.entries in
    let i = c.self.invariant in
    record {
      ordered = c.remove.ensures.ordered;
      marked = c.remove-2.ensures.keys ∙ ap (remove_key (is_at (nat_cmp c.args.number))) i.marked ∙ sym (ap breakpoints_in c.remove.ensures.entries ∙ marks-removed row c.args.number (apart-sorted row i.ordered));
    }

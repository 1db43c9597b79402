use Rattle.std.proofs.Common.{◌≡◌, false, sym, ap, ◌∙◌, ◌++◌}
use Rattle.std.proofs.lemmas.List.Elements.{recursion_from_All}
use Rattle.jdwp_event.specs.RequestLists.{is_left_by_all}
use Rattle.jdwp_mirror.specs.Mirror.{is_no_kept_breakpoint}
use Rattle.jdwp_mirror.proofs.RowLemmas.{key-inserted, mark-yes}
use Rattle.jdwp_mirror.proofs.row.mark.Goals as goal

pub returns-in-Ok-clause-ok : goal.returns-in-Ok-clause-ok
returns-in-Ok-clause-ok c =
    let ks = c.args.breakpoints.now.keys in
    let r = c.args.request.now in
    let kind : is_no_kept_breakpoint r ≡ false = ap is_left_by_all (sym c.kind.ensures ∙ c.if-kind-byte.false ∙ c.byte.ensures) in
    c.in-Ok.ensures.keys ∙ key-inserted ks c.args.number (recursion_from_All _ ks c.requires) ∙ ap (λ ms. ks ++ ms) (sym (mark-yes c.args.number r kind))

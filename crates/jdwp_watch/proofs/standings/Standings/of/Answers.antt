use Rattle.std.proofs.Common.{Option, sym, ap, ◌∙◌}
use Rattle.std.specs.Prelude.{unwrap_or}
use Rattle.std.specs.Option.{option_map}
use Rattle.jdwp_watch.specs.declared.standings.Met.{Met}
use Rattle.jdwp_watch.specs.Tables.{Table, at, seen}
use Rattle.jdwp_watch.proofs.Tabled.{at-kept}
use Rattle.jdwp_watch.proofs.standings.Standings.of.Goals as goal

pub returns-in-Some : goal.returns-in-Some
returns-in-Some c =
    let i = c.self.inside in
    let shown = λ (x : Option Met). unwrap_or (option_map (seen i.moves) x) i.others in
    c.seen.ensures ∙ (ap shown c.in-Some.ensures.value
    ∙ (sym (at-kept i.moves i.entries i.others c.args.thread.0) ∙ ap (λ (table : Table). at table c.args.thread.0) c.self.view_is))

pub returns-in-None : goal.returns-in-None
returns-in-None c =
    let i = c.self.inside in
    let shown = λ (x : Option Met). unwrap_or (option_map (seen i.moves) x) i.others in
    ap shown c.in-None.ensures.value ∙ (sym (at-kept i.moves i.entries i.others c.args.thread.0) ∙ ap (λ (table : Table). at table c.args.thread.0) c.self.view_is)

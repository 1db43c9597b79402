use Rattle.std.proofs.Common.{◌∙◌}
use Rattle.jdwp_watch.proofs.Tabled.{written-before, written-table}
use Rattle.jdwp_watch.proofs.standings.Standings.write_all.Goals as goal

pub invariant_of-self : goal.invariant_of-self
invariant_of-self c =
    let i = c.self.inside in
    written-before i.moves c.clear.new.self i.entries c.write_entries.new.entries c.write_entries.ensures

pub returns : goal.returns
returns c =
    let i = c.self.inside in
    written-table i.moves c.clear.new.self i.entries c.write_entries.new.entries i.others c.write_entries.ensures c.clear.ensures ∙ c.self.view_is

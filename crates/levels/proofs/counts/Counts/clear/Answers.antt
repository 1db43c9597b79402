use Rattle.std.proofs.Common.{ap, ◌∙◌}
use Rattle.std.specs.Prelude.{min}
use Rattle.levels.specs.Levels.{view_of}
use Rattle.levels.proofs.Putting.{cleared-counts, same-room}
use Rattle.levels.proofs.counts.Counts.clear.Goals as goal

pub returns : goal.returns
returns c =
    let i = c.self.inside in
    let room = same-room i.entries.capacity c.stop_all.new.self.capacity i.order.capacity c.stop_all.new.order.capacity c.stop_all.ensures.capacity c.stop_all.ensures.room in
    rw (← c.self.view_is) (ap (view_of i.base c.stop_all.new.self.list i.visits) room ∙ cleared-counts i.base i.suspended i.visits (min i.entries.capacity i.order.capacity) i.entries.list c.stop_all.new.self.list i.order.list c.self.invariant.linked c.stop_all.ensures.fallen)

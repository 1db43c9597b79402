use Rattle.std.proofs.Common.{List, map, Ok, ap}
use Rattle.serde_json.specs.Data.{Data}
use Rattle.serde_json.specs.View.{view}
use Rattle.jdwp_script.proofs.Lists.{listed-items_of}
use Rattle.jdwp_script.proofs.reading.entries.Goals as goal

pub returns-in-Some : goal.returns-in-Some
returns-in-Some c = rw (← c.in-Some.ensures, c.as_slice.ensures.value) (ap (λ (ds : List Data). Ok ds) (listed-items_of (map view c.in-Some.list.now.items)))

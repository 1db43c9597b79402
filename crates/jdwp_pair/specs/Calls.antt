-- How a run stands that keeps its counts in the code's own form.
use Rattle.jdwp_link.specs.Links.{Link}
use Rattle.jdwp_end.specs.Story.{Story}
use Rattle.jdwp_pair.specs.declared.run.Run.{Run}
use Rattle.jdwp_pair.specs.Events.{Standing}

abbrev pub at : {S : Type 0} → Link S → Run → Story → Standing S
at l run out = record { link = l; carried = run.carried; begun = run.begun; read = run.composites; out = out; order = run.order }

use Rattle.std.proofs.Common.{◌≡◌, drop}
use Rattle.std.specs.List.{list_any}
use Rattle.jdwp_event.specs.Filters.{is_count}
use Rattle.jdwp_event.specs.RequestParts.{asked_modifiers}
use Rattle.jdwp_event.proofs.request.Request.has_count.Given as goal

abbrev pub invariant-loop-limit : goal.invariant-loop-limit
invariant-loop-limit l = list_any is_count (asked_modifiers (drop l.limit-index l.limit-items)) ≡ list_any is_count l.self.asked.modifiers

-- Parts of a step, as the code makes them one after the other.
use Rattle.std.specs.Prelude.{◌≡◌, ◌≤◌, ◌+◌, ⊤, true, length, Option, Some, None}
use Rattle.jdwp_wire.specs.Widths.{Widths}
use Rattle.jdwp_wire.specs.Streams.{stream}
use Rattle.jdwp_wire.specs.Limits.{least_packet_limit, most_packet_limit}
use Rattle.jdwp_end.specs.Ends.{End, most_outgoing, with_enqueued}
use Rattle.jdwp_event.specs.CompositeBytes.{composite_canonical, composite_refusal}
use Rattle.jdwp_event.specs.Composites.{CompositeMeaning, composite_data}
use Rattle.jdwp_layout.specs.Writes.{data_canonical}
use Rattle.jdwp_debuggee.specs.Debuggees.{Debuggee, at_moment}
use Rattle.jdwp_debuggee.specs.Steps.{Step}
use Rattle.jdwp_debuggee.specs.declared.steps.StepDone.{StepDone}
use Rattle.jdwp_target.specs.Standings.{Reaction}
use Rattle.jdwp_target.specs.Targets.{in_phase}
use Rattle.jdwp_target.specs.Turns.{told_by_end}
use Rattle.jdwp_target.specs.declared.target.Stepped.{Stepped}

-- A composite can be written, its packet is within the limit, and there is room for it behind what waits.
pub record CanLeave (w : Widths) (end : End) (c : CompositeMeaning) : Type 0 where
  pub writable : composite_refusal w c ≡ None
  pub small : length (composite_canonical w c) ≤ most_packet_limit
  pub room : length end.outgoing + (11 + length (composite_canonical w c)) ≤ most_outgoing end.limits
  pub within : 11 + length (data_canonical w (composite_data c)) ≤ end.limits.packet

abbrev pub CanBeReported : Widths → End → Option CompositeMeaning → Type 0
CanBeReported w end None = ⊤
CanBeReported w end (Some c) = CanLeave w end c

-- a step as the code tells of it, behind which the debuggee stands so
abbrev pub step_of : {S : Type 0} → Debuggee S → StepDone → Step S
step_of d done = record { after = d.moment; sends = done.sends; ends = done.ends; dies = done.dies }

abbrev pub told_of_done : StepDone → Stepped
told_of_done done = told_by_end done.sends done.ends

-- what a step told, or VM_DEATH beside which nothing is told
pub record CanTell (w : Widths) (end : End) (done : StepDone) : Type 0 where
  pub reports : CanBeReported w end done.sends
  pub death : length end.outgoing + 21 ≤ most_outgoing end.limits
  pub least : least_packet_limit ≤ end.limits.packet
  pub apart : done.dies ≡ true → done.sends ≡ None

-- what an act leaves of a debuggee, and of an end
abbrev pub debuggee_after : {S : Type 0} → Reaction S → Debuggee S → Debuggee S
debuggee_after r d = at_moment r.after.moment d

abbrev pub end_after : {S : Type 0} → Reaction S → End → End
end_after r end = in_phase r.after.phase (with_enqueued (stream r.sends) end)

-- What is sent are packets within the limit.
use Rattle.std.proofs.Common.{ℕ, ◌+◌, ◌≤◌, ◌<◌, ◌^◌, ◌++◌, List, ◌∷◌, length, Bool, true, false, Option, Some, None, refl, arith}
use Rattle.jdwp_wire.specs.Frames.{KindFits}
use Rattle.jdwp_wire.specs.Streams.{Message, AreSendable, IsSendable}
use Rattle.jdwp_wire.specs.Widths.{Widths}
use Rattle.jdwp_wire.specs.declared.packet.PacketKind.{PacketKind}
use Rattle.jdwp_wire.specs.declared.packet.PacketKind.TheVariants as kind
use Rattle.jdwp_end.specs.declared.phase.Phase.{Phase}
use Rattle.jdwp_end.specs.declared.phase.Phase.TheVariants.{Closed, AwaitingHandshake, Established}
use Rattle.jdwp_end.specs.Ends.{End}
use Rattle.jdwp_layout.specs.Writes.{data_canonical}
use Rattle.jdwp_event.specs.Composites.{CompositeMeaning, composite_data, vm_death}
use Rattle.jdwp_debuggee.specs.Sending.{FitsPacket, sent_bytes, sent_error}
use Rattle.jdwp_debuggee.specs.Steps.{Step}
use Rattle.jdwp_debuggee.specs.declared.reply.Sent.{Sent}
use Rattle.jdwp_target.specs.Sends.{packet_with, report_of}
use Rattle.jdwp_target.specs.Standings.{Standing, reports, steps_apart, steps_at, steps_in_session}
use Rattle.jdwp_target.specs.StepParts.{CanBeReported}
use Rattle.jdwp_target.specs.TurnParts.{deaths, reply_of}

-- a packet with this data, where all of it is within the limit
packet-fits : (limit id : ℕ) (k : PacketKind) (body : List ℕ) → 11 + length body ≤ limit → id < 2 ^ 32 → KindFits k → IsSendable limit (packet_with id k body)
packet-fits limit id k body within small fits = record { length_counts_all = refl; within_limit = within; id_fits = small; kind_fits = fits }

pub report-fits : (limit : ℕ) (w : Widths) (id : ℕ) (c : CompositeMeaning) → 11 + length (data_canonical w (composite_data c)) ≤ limit → id < 2 ^ 32 → IsSendable limit (report_of w id c)
report-fits limit w id c within small = packet-fits limit id _ (data_canonical w (composite_data c)) within small (omega arith, omega arith)

-- ---- a reply, alone or with VM_DEATH behind it

deaths-fit : (limit : ℕ) (w : Widths) (next : ℕ) (dies : Bool) → FitsPacket w limit vm_death → next < 2 ^ 32 → AreSendable limit (deaths w next dies)
deaths-fit limit w next true death small = (report-fits limit w next vm_death death.within small, tt)
deaths-fit limit w next false death small = tt

pub reply-fits : (limit : ℕ) (w : Widths) (id next : ℕ) (x : Sent) (dies : Bool) → FitsPacket w limit vm_death → id < 2 ^ 32 → next < 2 ^ 32 → (sent_error x).0 < 2 ^ 16 → 11 + length (sent_bytes w x) ≤ limit
    → AreSendable limit (reply_of w id x ∷ deaths w next dies)
reply-fits limit w id next x dies death small after code within = (packet-fits limit id (kind.Reply (sent_error x)) (sent_bytes w x) within small code, deaths-fit limit w next dies death after)

-- ---- a step

report-before : (w : Widths) (end : End) (id : ℕ) (c : Option CompositeMeaning) (more : List Message) → CanBeReported w end c → id < 2 ^ 32 → AreSendable end.limits.packet more
    → AreSendable end.limits.packet (reports w id c ++ more)
report-before w end id None more can small rest = rest
report-before w end id (Some c) more can small rest = (report-fits end.limits.packet w id c can.within small, rest)

report-alone : (w : Widths) (end : End) (id : ℕ) (c : Option CompositeMeaning) → CanBeReported w end c → id < 2 ^ 32 → AreSendable end.limits.packet (reports w id c)
report-alone w end id None can small = tt
report-alone w end id (Some c) can small = (report-fits end.limits.packet w id c can.within small, tt)

session-fits : {S : Type 0} (w : Widths) (end : End) (id : ℕ) (o : Step S) (now : Standing S) (dies : Bool) → FitsPacket w end.limits.packet vm_death → CanBeReported w end o.sends → id < 2 ^ 32 → o.after.state.next_packet < 2 ^ 32
    → AreSendable end.limits.packet (steps_in_session w id o now dies).sends
session-fits w end id o now true death can small after = report-before w end id o.sends _ can small (report-fits end.limits.packet w o.after.state.next_packet vm_death death.within after, tt)
session-fits w end id o now false death can small after = report-alone w end id o.sends can small

apart-fits : {S : Type 0} (limit : ℕ) (now : Standing S) (dies : Bool) → AreSendable limit (steps_apart now dies).sends
apart-fits limit now true = tt
apart-fits limit now false = tt

pub step-fits : {S : Type 0} (w : Widths) (end : End) (id : ℕ) (o : Step S) (now : Standing S) (phase : Phase) → FitsPacket w end.limits.packet vm_death → CanBeReported w end o.sends → id < 2 ^ 32 → o.after.state.next_packet < 2 ^ 32
    → AreSendable end.limits.packet (steps_at w id o now phase).sends
step-fits w end id o now Established death can small after = session-fits w end id o now o.dies death can small after
step-fits w end id o now AwaitingHandshake death can small after = apart-fits end.limits.packet now o.dies
step-fits w end id o now Closed death can small after = apart-fits end.limits.packet now o.dies

-- For which states of the small model of a session a link stands: what contracts see of both ends is what the model says of them, and the
-- bytes between them are those of the model's messages, cut where the model says.
use Rattle.std.specs.Prelude.{◌≡◌, ◌≤◌, ℕ, Bool, true, false, List, [], ◌∷◌, length, take, drop, Option, Some, None}
use Rattle.jdwp_wire.specs.Widths.{Widths}
use Rattle.jdwp_wire.specs.Streams.{stream}
use Rattle.jdwp_end.specs.Ends.{End}
use Rattle.jdwp_machine.specs.Meanings.{Meaning}
use Rattle.jdwp_debuggee.specs.Settings.{Settings}
use Rattle.jdwp_mirror.specs.KnownThreads.{count_in, is_held_in}
use Rattle.jdwp_mirror.specs.Messages.{Report}
use Rattle.jdwp_mirror.specs.Mirrors.{Mirror}
use Rattle.jdwp_target.specs.Targets.{Target}
use Rattle.jdwp_debugger.specs.declared.order.Order.TheVariants.{One}
use Rattle.jdwp_debugger.specs.Debuggers.{Debugger, Parked, has_tickets}
use Rattle.jdwp_debugger.specs.News.{composite_in}
use Rattle.jdwp_model.specs.Events.{LinkEvent}
use Rattle.jdwp_model.specs.Headline.{MayBegin}
use Rattle.jdwp_model.specs.Next.{run}
use Rattle.jdwp_model.specs.Seen.{mirror_count, mirror_held, mirror_requests}
use Rattle.jdwp_model.specs.World.{is_closed, Packet, World, opening}
use Rattle.jdwp_model.specs.Measures.{measured}
use Rattle.jdwp_link.specs.Links.{Link, way_to_target, way_to_debugger}
use Rattle.jdwp_link.specs.Wires.{CallWire, PacketWire, Waiting, without_ids, calls_sent, packets_sent, deferred_sent, AreCalls, AreDeferred, ArePackets, waiting, Awaits, HaveTickets}

-- ---- the world

-- some list of events leads to it
pub record IsReached {S : Type 0} (m : Meaning S) (settings : Settings) (w : Widths) (x : World S) : Type 0 where
  pub first : S
  pub events : List LinkEvent
  pub begins : MayBegin m settings first
  pub is : run m settings (measured w settings.limits) (opening m first) events ≡ x

-- ---- the ends

pub record TargetStands {S : Type 0} (m : Meaning S) (settings : Settings) (w : Widths) (t : Target S) (x : World S) : Type 0 where
  pub same_settings : t.settings ≡ settings
  pub limits : t.end.limits ≡ settings.limits
  pub sizes : m.sizes x.now.machine ≡ w
  pub now : t.moment ≡ x.now
  pub phase : t.end.phase ≡ x.target
  pub lost : t.end.session.lost ≡ x.lost
  pub deferring : t.deferring ≡ x.deferring

-- the widths of ids, where they are known
abbrev pub widths_where : Widths → Bool → Option Widths
widths_where w true = Some w
widths_where w false = None

-- what waits for the widths are the bytes of these composites
abbrev pub AreParked : {S : Type 0} → Widths → List Parked → List (Packet S) → Type 0
AreParked w [] [] = Unit {0}
AreParked w (p ∷ ps) ((Report c, then) ∷ qs) = (composite_in w p.body ≡ Some c) × AreParked w ps qs
AreParked w ps qs = ⊥

-- a mirror is that of the packets read, look-up by look-up
pub record IsMirror {S : Type 0} (m : Mirror) (read : List (Packet S)) : Type 0 where
  pub counts : (t : ℕ) → count_in m.threads t ≡ mirror_count read t
  pub held : (t : ℕ) → is_held_in m.threads t ≡ mirror_held read t
  pub requests : m.requests ≡ mirror_requests read

-- of a debugger in an open session
pub record OpenStands {S : Type 0} (w : Widths) (d : Debugger) (x : World S) : Type 0 where
  pub sizes : d.sizes ≡ widths_where w x.ready
  pub parked : AreParked w d.parked x.parked
  pub pending : without_ids (waiting d.pending) ≡ x.pending
  pub ticketed : x.ready ≡ true → HaveTickets d.pending

pub record DebuggerStands {S : Type 0} (settings : Settings) (w : Widths) (d : Debugger) (x : World S) : Type 0 where
  pub order : d.order ≡ One
  pub limits : d.end.limits ≡ settings.limits
  pub phase : d.end.phase ≡ x.debugger
  pub tickets : d.tickets ≡ x.asked
  pub mirror : IsMirror d.mirror x.read
  pub opened : is_closed x.debugger ≡ false → OpenStands w d x
  pub none_waits : is_closed x.debugger ≡ true → has_tickets d.pending ≡ false

-- ---- what is under way

-- The bytes of messages, cut at a number: at an open end what came and was not handled; and what is under way.
pub record AreCut (at : ℕ) (bytes way : List ℕ) (to : End) (closed : Bool) : Type 0 where
  pub number : at ≤ length bytes
  pub there : closed ≡ false → to.incoming ≡ take at bytes
  pub left : way ≡ drop at bytes

pub record ToStands {S : Type 0} (settings : Settings) (w : Widths) (l : Link S) (x : World S) : Type 0 where
  pub wires : List CallWire
  pub calls : without_ids wires ≡ x.to_target
  pub sent : AreCalls w settings.limits.packet wires
  pub cut : AreCut x.at_target (stream (calls_sent w wires)) (way_to_target l) l.target.end (is_closed x.target)
  pub kept : is_closed x.debugger ≡ false → l.to_target ≡ []

-- what the target took and will answer later
pub record DeferredStands {S : Type 0} (w : Widths) (t : Target S) (x : World S) : Type 0 where
  pub wires : List Waiting
  pub commands : without_ids wires ≡ x.deferred
  pub messages : deferred_sent w wires ≡ t.deferred
  pub sent : AreDeferred w wires

-- of what the debugger put these are deferred, and these are under way
pub record FromStands {S : Type 0} (settings : Settings) (w : Widths) (l : Link S) (x : World S) (deferred : List Waiting) (to : List CallWire) : Type 0 where
  pub wires : List (PacketWire S)
  pub packets : without_ids wires ≡ x.to_debugger
  pub sent : ArePackets w settings.limits.packet wires
  pub cut : AreCut x.at_debugger (stream (packets_sent w wires)) (way_to_debugger l) l.debugger.end (is_closed x.debugger)
  pub kept : x.lost ≡ false → l.to_debugger ≡ []
  pub awaits : is_closed x.debugger ≡ false → Awaits l.debugger.pending wires deferred to

-- ---- all of it

-- both ends, what is deferred, and all that is under way between them
pub record Parts {S : Type 0} (m : Meaning S) (settings : Settings) (w : Widths) (l : Link S) (x : World S) : Type 0 where
  pub target : TargetStands m settings w l.target x
  pub debugger : DebuggerStands settings w l.debugger x
  pub to : ToStands settings w l x
  pub deferred : DeferredStands w l.target x
  pub from : FromStands settings w l x deferred.wires to.wires

-- A link stands for a world that is reached, where ids are so wide.
--
-- What it does not say, since a world has no ids of packets and no heads: under which ids commands and composites are under way (but that a
-- reply has the id under which its command waits, `Awaits`), the id that the debugger gives next (`next_id`), and the heads of what the
-- debugger's last turn told (`last`). Of these each end's own calls speak: an id that is given is free and no two commands wait under one, the
-- k-th composite of a target's life has the id k, and `last` is what the turn read.
pub record Stands {S : Type 0} (m : Meaning S) (settings : Settings) (w : Widths) (l : Link S) (x : World S) : Type 0 where
  pub reached : IsReached m settings w x
  pub parts : Parts m settings w l x

-- of the link's own settings and widths
abbrev pub StandsFor : {S : Type 0} → Meaning S → Link S → World S → Type 0
StandsFor m l x = Stands m l.target.settings (m.sizes l.target.moment.machine) l x

-- It stands for some world.
pub record IsLink {S : Type 0} (m : Meaning S) (l : Link S) : Type 0 where
  pub world : World S
  pub stands : StandsFor m l world

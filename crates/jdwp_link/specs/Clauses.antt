-- What a debugger may rely on, said of a link: what its events do and tell, what its mirror shows, and that a thread shown as suspended is
-- suspended.
use Rattle.std.specs.Prelude.{◌≡◌, ◌≤◌, ◌<◌, ℕ, ◌+◌, Bool, true, false, ◌||◌, List, [], ◌∷◌, Some, is_some}
use Rattle.jdwp_wire.specs.Streams as streams
use Rattle.jdwp_wire.specs.Streams.{Whole}
use Rattle.jdwp_end.specs.Ends.{front_of, is_paused}
use Rattle.jdwp_layout.specs.declared.answer.Answer.TheVariants.{Data}
use Rattle.jdwp_layout.specs.Meanings.{DatumMeaning}
use Rattle.jdwp_machine.specs.Meanings.{Meaning}
use Rattle.jdwp_action.specs.Actions.{Command, action_of, is_dispose}
use Rattle.jdwp_debuggee.specs.Effects.{effect}
use Rattle.jdwp_debuggee.specs.State.{Moment, count_of, count_or_zero}
use Rattle.jdwp_debuggee.specs.StepParts.{is_ready}
use Rattle.jdwp_mirror.specs.KnownThreads.{count_in, is_held_in}
use Rattle.jdwp_target.specs.Turns.{NeedsMemory, NeedsMemoryToHandle, deferred_at}
use Rattle.jdwp_debugger.specs.Debuggers.{Unanswered, unanswered, has_tickets, is_front}
use Rattle.jdwp_model.specs.Events
use Rattle.jdwp_model.specs.Events.{LinkEvent}
use Rattle.jdwp_model.specs.Headline.{requests_then}
use Rattle.jdwp_model.specs.Lasting.{asks_frames_of, writes, IsLasting}
use Rattle.jdwp_model.specs.Next.{next, run, outcomes, acts, did_after}
use Rattle.jdwp_model.specs.Seen.{mirror_count, seen_moment, is_known, is_held, lowers, raises, composites_in}
use Rattle.jdwp_model.specs.World.{Measure, World}
use Rattle.jdwp_model.specs.Measures.{measured}
use Rattle.jdwp_link.specs.declared.events.Outcome.{Outcome}
use Rattle.jdwp_link.specs.declared.way.Side.TheVariants as side
use Rattle.jdwp_link.specs.Links.{Link, carried_to_debugger, carried_to_target, come_to_debugger, come_to_target, delivered_to_debugger, delivered_to_target}
use Rattle.jdwp_link.specs.Stands.{StandsFor}
use Rattle.jdwp_link.specs.Told.{told_outcomes}
use Rattle.jdwp_link.specs.Ways.{Carried, with_carried}

-- ---- events

-- how many bytes the messages of a link have
abbrev pub measure_of : {S : Type 0} → Meaning S → Link S → Measure
measure_of m l = measured (m.sizes l.target.moment.machine) l.target.settings.limits

-- Of each world that the link stood for, it stands for what the event makes of it; what that tells is told; and so is whether it did
-- something. Neither the settings change nor the widths of ids.
pub record Goes {S : Type 0} (m : Meaning S) (e : LinkEvent) (old new : Link S) (os : List Outcome) : Type 0 where
  pub stands : (x : World S) → StandsFor m old x → StandsFor m new (next m old.target.settings (measure_of m old) x e).0
  pub tells : (x : World S) → StandsFor m old x → os ≡ told_outcomes (next m old.target.settings (measure_of m old) x e).1
  pub did : (x : World S) → StandsFor m old x → new.did ≡ acts m old.target.settings (measure_of m old) x e
  pub settings : (x : World S) → StandsFor m old x → new.target.settings ≡ old.target.settings
  pub sizes : (x : World S) → StandsFor m old x → m.sizes new.target.moment.machine ≡ m.sizes old.target.moment.machine

-- the same of a list of events
pub record Ran {S : Type 0} (m : Meaning S) (es : List LinkEvent) (old new : Link S) (os : List Outcome) : Type 0 where
  pub stands : (x : World S) → StandsFor m old x → StandsFor m new (run m old.target.settings (measure_of m old) x es)
  pub tells : (x : World S) → StandsFor m old x → os ≡ told_outcomes (outcomes m old.target.settings (measure_of m old) x es)
  pub did : (x : World S) → StandsFor m old x → new.did ≡ did_after m old.target.settings (measure_of m old) x old.did es
  pub settings : (x : World S) → StandsFor m old x → new.target.settings ≡ old.target.settings
  pub sizes : (x : World S) → StandsFor m old x → m.sizes new.target.moment.machine ≡ m.sizes old.target.moment.machine

-- A delivery moves just the first bytes under way, at most so many and as many as the end has room for.
abbrev pub Delivers : {S : Type 0} → LinkEvent → Link S → Link S → Type 0
Delivers (Events.ToTarget n) old new = new ≡ delivered_to_target (come_to_target n old) old
Delivers (Events.ToDebugger n) old new = new ≡ delivered_to_debugger (come_to_debugger n old) old
Delivers e old new = Unit {0}

-- What a way has carried behind an event at this link, where it had carried that before: what comes to an end passes it, but for what an end
-- had put that lost the connection.
abbrev pub carried_by : {S : Type 0} → LinkEvent → Link S → Carried → Carried
carried_by (Events.ToTarget n) l before = with_carried side.Debugger (carried_to_target n l) before
carried_by (Events.ToDebugger n) l before = with_carried side.Target (carried_to_debugger n l) before
carried_by e l before = before

-- The events go, one after the other, and a way that had carried the one has then carried the other.
abbrev pub RanOver : {S : Type 0} → Meaning S → List LinkEvent → Link S → Link S → Carried → Carried → Type 0
RanOver m [] old new before after = (new ≡ old) × (after ≡ before)
RanOver {S} m (e ∷ es) old new before after =
    (mid : Link S) × (os : List Outcome) × Goes m e old mid os × Delivers e old mid × RanOver m es mid new (carried_by e old before) after

-- Where an event may want memory: an Ask; a turn of the target at a whole message that calls for some; a release of a command that does; a
-- turn of the debugger at a whole message; a step at a target that is not paused and that nothing but a thread too many forbids; and a loss at
-- the debugger where tickets wait.
abbrev pub MayStop : {S : Type 0} → Meaning S → Link S → LinkEvent → Type 0
MayStop m l (Events.Ask c) = Unit {0}
MayStop m l Events.TargetTurn = (message : streams.Message) × (used : ℕ) × (front_of l.target.end ≡ Whole message used) × NeedsMemory m l.target message
MayStop m l Events.DebuggerTurn = is_front (front_of l.debugger.end) ≡ true
MayStop m l (Events.Step t) = (is_paused l.target.end ≡ false) × (is_ready l.target.settings l.target.moment.state t ≡ true)
MayStop m l Events.DebuggerLoses = has_tickets l.debugger.pending ≡ true
MayStop m l (Events.Release place) =
    (message : streams.Message) × (others : List streams.Message) × (deferred_at place l.target ≡ Some (message, others)) × NeedsMemoryToHandle m l.target message
MayStop m l Events.Attach = ⊥
MayStop m l (Events.ToTarget n) = ⊥
MayStop m l (Events.ToDebugger n) = ⊥
MayStop m l Events.TargetLoses = ⊥
MayStop m l (Events.Defer deferring) = ⊥

-- ---- the mirror

-- What the mirror shows is what the target had when it sent the last packet that the debugger read in this session. It knows the threads that
-- some packet read taught and no later one forgot, and holds those of them that were shown alive and whose count in the target was above 0
-- from then on. Each count of a thread that lived then is the target's of that moment, and so are the requests; the count of any other is
-- what the packets read, one after the other, leave of it.
pub record MirrorsSeen {S : Type 0} (l : Link S) (x : World S) : Type 0 where
  pub known : (t : ℕ) → is_some (count_in l.debugger.mirror.threads t) ≡ is_known x.read t
  pub held : (t : ℕ) → is_held_in l.debugger.mirror.threads t ≡ is_held x.read t
  pub counts : (t n k : ℕ) (then : Moment S) → count_in l.debugger.mirror.threads t ≡ Some n → seen_moment x.read ≡ Some then → count_of then.state t ≡ Some k → n ≡ k
  pub by_rule : (t : ℕ) → count_in l.debugger.mirror.threads t ≡ mirror_count x.read t
  pub requests : l.debugger.mirror.requests ≡ requests_then (seen_moment x.read)

-- ---- now

-- how often the commands that wait for replies may lower or raise a thread's count
abbrev pub unanswered_by : (Command → ℕ → ℕ) → List Unanswered → ℕ → ℕ
unanswered_by by [] t = 0
unanswered_by by (u ∷ us) t = by u.command t + unanswered_by by us t

abbrev pub has_dispose : List Unanswered → Bool
has_dispose [] = false
has_dispose (u ∷ us) = is_dispose (action_of u.command) || has_dispose us

abbrev pub has_write : List Unanswered → ℕ → Bool
has_write [] t = false
has_write (u ∷ us) t = writes u.command t || has_write us t

-- The machine lives, the target noticed no loss in this session, and no Dispose is unanswered.
pub record IsUnbroken {S : Type 0} (l : Link S) : Type 0 where
  pub alive : l.target.moment.state.alive ≡ true
  pub not_lost : l.target.end.session.lost ≡ false
  pub no_dispose : has_dispose (unanswered l.debugger.pending) ≡ false

-- A thread that the mirror holds is suspended in the target now, whatever is under way, unless a Resume of it or of all is unanswered. More
-- sharply: its count in the target and the unanswered Resumes together are no less than its count in the mirror, which is above 0.
pub record HoldsSuspended {S : Type 0} (l : Link S) : Type 0 where
  pub suspended : (t : ℕ) → is_held_in l.debugger.mirror.threads t ≡ true → IsUnbroken l → unanswered_by lowers (unanswered l.debugger.pending) t ≡ 0
      → 0 < count_or_zero l.target.moment.state t
  pub covered : (t n : ℕ) → is_held_in l.debugger.mirror.threads t ≡ true → count_in l.debugger.mirror.threads t ≡ Some n → IsUnbroken l
      → (0 < n) × (n ≤ count_or_zero l.target.moment.state t + unanswered_by lowers (unanswered l.debugger.pending) t)

-- From above, and without exception: a known thread that lived when the last packet read was sent has in the target no greater count than in
-- the mirror, but for the unanswered Suspends of it or of all and the composites that were sent and are not read.
abbrev pub CountsAtMost : {S : Type 0} → Link S → World S → Type 0
CountsAtMost {S} l x =
    (t n k : ℕ) (then : Moment S) → count_in l.debugger.mirror.threads t ≡ Some n → seen_moment x.read ≡ Some then → count_of then.state t ≡ Some k →
    count_or_zero l.target.moment.state t ≤ n + unanswered_by raises (unanswered l.debugger.pending) t + (composites_in x.parked + composites_in x.to_debugger)

-- What was read of a suspended thread's frames the target would answer now, whatever is under way: where its count in the target was above 0
-- as each later packet read was sent, no SetValues of it was answered since or is unanswered, and fewer Resumes of it or of all are
-- unanswered than the count that it had as the last packet read was sent.
abbrev pub StaysTrue : {S : Type 0} → Meaning S → Link S → World S → Type 0
StaysTrue {S} m l x =
    (t : ℕ) (c : Command) (content : List DatumMeaning) (then : Moment S) →
    asks_frames_of c t ≡ true → IsLasting x.read t c content → IsUnbroken l → has_write (unanswered l.debugger.pending) t ≡ false →
    seen_moment x.read ≡ Some then → unanswered_by lowers (unanswered l.debugger.pending) t < count_or_zero then.state t →
    (effect m l.target.settings l.target.moment c).answer ≡ Data content

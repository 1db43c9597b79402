-- The model of both ends, in which each packet is sent as the target acts, is one of a target whose replies and composites are sent by threads
-- of their own: so what a debugger is sure of there is so in it.
use Rattle.std.specs.Prelude.{◌≡◌, ◌≤◌, ◌<◌, ℕ, ◌+◌, Bool, true, false, List, [], ◌∷◌, ◌++◌, map, Some, is_some}
use Rattle.jdwp_end.specs.Ends.{is_established_phase}
use Rattle.jdwp_machine.specs.Meanings.{Meaning}
use Rattle.jdwp_debuggee.specs.Settings.{Settings}
use Rattle.jdwp_debuggee.specs.State.{Moment, count_of, count_or_zero}
use Rattle.jdwp_action.specs.Actions.{Command}
use Rattle.jdwp_mirror.specs.Messages.{Call, Greets, Asks, Handshake, Reply, Report}
use Rattle.jdwp_model.specs.Events.{LinkEvent, defer_nothing}
use Rattle.jdwp_model.specs.World.{Measure, Packet, World, opening}
use Rattle.jdwp_model.specs.Next.{run}
use Rattle.jdwp_model.specs.Seen.{mirror_count, seen_moment}
use Rattle.jdwp_model.specs.Headline.{MayBegin}
use Rattle.jdwp_apart.specs.Messages
use Rattle.jdwp_apart.specs.Watch.{Watch, sure}
use Rattle.jdwp_apart.specs.World as apart
use Rattle.jdwp_orders.specs.Acts.{Act, in_one_order}
use Rattle.jdwp_orders.specs.Watched.{Since, IsPast, composite_after, begins, watch_after, asked_within}

-- P holds of the link and of the debugger's watch after every list of events by which no target begins to defer replies, whether the debugger
-- counts on composites that are sent one by one or not, and whatever it truly says of them.
abbrev pub Always : {S : Type 0} → Meaning S → (Bool → Since → World S → Watch → Type 0) → Type 0
Always {S} m P =
    (settings : Settings) (measure : Measure) (s : S) (events : List LinkEvent) (one_by_one : Bool) (since : Since) →
    MayBegin m settings s → defer_nothing events ≡ true → IsPast since →
    P one_by_one since (run m settings measure (opening m s) events)
    (watch_after m one_by_one since settings measure (opening m s) (begins one_by_one) events)

-- ---- what is under way

-- the commands that are under way to the target
abbrev pub asked_in : List Call → List Command
asked_in [] = []
asked_in (Greets ∷ calls) = asked_in calls
asked_in (Asks k c ∷ calls) = c ∷ asked_in calls

-- the replies and composites that are under way to the debugger, in the order sent, where so many were answered before
pub data Said : Type 0 where
  Answered : Messages.Reply → Said
  Told : Messages.Composite → Said

abbrev pub said_by : apart.Packet → Said
said_by (apart.Answers r) = Answered r.0
said_by (apart.Reports s) = Told s.0

abbrev pub said_in : {S : Type 0} → Since → ℕ → List (Packet S) → List Said
said_in since n [] = []
said_in since n ((Handshake, a) ∷ ps) = said_in since n ps
said_in since n ((Reply k c answer, a) ∷ ps) = Answered (apart.reply_of c answer) ∷ said_in since (n + 1) ps
said_in since n ((Report c, a) ∷ ps) = Told (composite_after since n c) ∷ said_in since n ps

-- ---- such a target

-- A target whose replies and composites are sent by threads of their own stands as that of the link does: the same threads live, with the
-- same counts; the same commands wait for it; it sent the same that was not read, and sent all; and its debugger has the same watch.
pub record StandsAs {S : Type 0} (since : Since) (w : World S) (known : Watch) (v : apart.World) : Type 0 where
  pub lives : (t : ℕ) → apart.is_alive (v.lives t) ≡ is_some (count_of w.now.state t)
  pub counts : (t : ℕ) → v.counts t ≡ count_or_zero w.now.state t
  pub waiting : v.waiting ≡ asked_in w.to_target
  pub stream : map said_by v.stream ≡ said_in since v.watch.answered (w.parked ++ w.to_debugger)
  pub replies : v.replies ≡ []
  pub composites : v.composites ≡ []
  pub invocations : v.invocations ≡ []
  pub watch : v.watch ≡ known

-- The machine lives, the target noticed no loss in this session, and each command that was asked in it is one that such sessions are spoken
-- of with: so neither Dispose nor Exit.
pub record IsWithin {S : Type 0} (w : World S) : Type 0 where
  pub alive : w.now.state.alive ≡ true
  pub not_lost : w.lost ≡ false
  pub asked : asked_within w ≡ true

-- In an established session some acts, each packet sent as the target acts, lead such a target to stand as that of the link does.
abbrev pub ActsInOneOrder : {S : Type 0} → Bool → Since → World S → Watch → Type 0
ActsInOneOrder one_by_one since w watch =
    is_established_phase w.debugger ≡ true → IsWithin w →
    (acts : List Act) × StandsAs since w watch (apart.run (apart.opening one_by_one (λ _. false)) (in_one_order acts))

-- ---- what is sure

-- A thread that lives and that the debugger is sure of is suspended in the target now.
abbrev pub SureIsSuspended : {S : Type 0} → Bool → Since → World S → Watch → Type 0
SureIsSuspended one_by_one since w watch = (t n : ℕ) → IsWithin w → count_of w.now.state t ≡ Some n → 0 < sure watch t → 0 < n

-- Sharper: its count in the target is no less.
abbrev pub SureIsCovered : {S : Type 0} → Bool → Since → World S → Watch → Type 0
SureIsCovered one_by_one since w watch = (t n : ℕ) → IsWithin w → count_of w.now.state t ≡ Some n → sure watch t ≤ n

-- And so is its count in the mirror, where the mirror knows it and it lived as the last packet read was sent.
abbrev pub SureIsMirrored : {S : Type 0} → Bool → Since → World S → Watch → Type 0
SureIsMirrored {S} one_by_one since w watch =
    (t n k : ℕ) (then : Moment S) → asked_within w ≡ true →
    mirror_count w.read t ≡ Some n → seen_moment w.read ≡ Some then → count_of then.state t ≡ Some k → sure watch t ≤ n

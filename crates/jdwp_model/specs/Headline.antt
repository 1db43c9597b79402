-- What a debugger may rely on, for every machine and every list of events: a thread shown as suspended is suspended.
use Rattle.std.specs.Prelude.{◌≡◌, ◌≤◌, ◌<◌, ℕ, ◌+◌, true, false, List, [], length, Option, Some, None, is_some}
use Rattle.jdwp_event.specs.Requests.{all_asked}
use Rattle.jdwp_machine.specs.Meanings.{Meaning}
use Rattle.jdwp_debuggee.specs.Settings.{Settings}
use Rattle.jdwp_debuggee.specs.State.{Moment, count_of, count_or_zero}
use Rattle.jdwp_mirror.specs.Mirror.{Kept, all_kept, COUNT_MOST}
use Rattle.jdwp_model.specs.Events.{LinkEvent}
use Rattle.jdwp_model.specs.World.{Measure, World, opening}
use Rattle.jdwp_model.specs.Next.{run}
use Rattle.jdwp_model.specs.Seen.{mirror_count, mirror_held, mirror_requests, seen_moment, is_known, is_held, unanswered, lowers, raises, has_dispose, composites_in}

-- A debuggee that there may be: a state of the machine in which some thread lives, and a count limit that there may be.
pub record MayBegin {S : Type 0} (m : Meaning S) (settings : Settings) (s : S) : Type 0 where
  pub state : m.is_state s
  pub lives : 1 ≤ length (m.live s)
  pub limit_least : 1 ≤ settings.count_limit
  pub limit_most : settings.count_limit ≤ COUNT_MOST

-- P holds after every list of events, whatever messages measure.
abbrev pub Always : {S : Type 0} → Meaning S → (World S → Type 0) → Type 0
Always {S} m P =
    (settings : Settings) (measure : Measure) (s : S) (events : List LinkEvent) → MayBegin m settings s → P (run m settings measure (opening m s) events)

-- The mirror knows exactly the threads that some packet read taught and no later one forgot, and holds exactly those known ones that
-- some packet showed alive and whose count in the target was above 0 as that packet and each later one read was sent.
abbrev pub KnowsAndHolds : {S : Type 0} → World S → Type 0
KnowsAndHolds w = (t : ℕ) → (is_some (mirror_count w.read t) ≡ is_known w.read t) × (mirror_held w.read t ≡ is_held w.read t)

-- Each count in the mirror is the one that the target had when it sent the last packet read, for each thread that lived then.
abbrev pub HasTheCounts : {S : Type 0} → World S → Type 0
HasTheCounts {S} w =
    (t n k : ℕ) (then : Moment S) → mirror_count w.read t ≡ Some n → seen_moment w.read ≡ Some then → count_of then.state t ≡ Some k → n ≡ k

-- The mirror's requests are those that the target had then, and none where nothing was read.
abbrev pub requests_then : {S : Type 0} → Option (Moment S) → List Kept
requests_then None = []
requests_then (Some then) = all_kept (all_asked then.state.requests)

abbrev pub HasTheRequests : {S : Type 0} → World S → Type 0
HasTheRequests w = mirror_requests w.read ≡ requests_then (seen_moment w.read)

-- Nothing that ends suspension by itself stands in the way: the machine lives, the target noticed no loss in this session, and no
-- Dispose is unanswered.
pub record IsUnbroken {S : Type 0} (w : World S) : Type 0 where
  pub alive : w.now.state.alive ≡ true
  pub not_lost : w.lost ≡ false
  pub no_dispose : has_dispose w.pending ≡ false

-- A thread that the mirror holds is suspended in the target now, whatever is under way, unless a Resume of it or of all is unanswered.
abbrev pub HeldIsSuspended : {S : Type 0} → World S → Type 0
HeldIsSuspended w = (t : ℕ) → mirror_held w.read t ≡ true → IsUnbroken w → unanswered lowers w.pending t ≡ 0 → 0 < count_or_zero w.now.state t

-- Sharper: its count in the target and the unanswered Resumes together are no less than its count in the mirror, which is above 0.
abbrev pub HeldIsCovered : {S : Type 0} → World S → Type 0
HeldIsCovered w =
    (t n : ℕ) → mirror_held w.read t ≡ true → mirror_count w.read t ≡ Some n → IsUnbroken w →
    (0 < n) × (n ≤ count_or_zero w.now.state t + unanswered lowers w.pending t)

-- From above, and without exception: a known thread that lived when the last packet read was sent has in the target no greater count
-- than in the mirror, but for the unanswered Suspends of it or of all and the composites that were sent and are not read.
abbrev pub CountIsAtMost : {S : Type 0} → World S → Type 0
CountIsAtMost {S} w =
    (t n k : ℕ) (then : Moment S) → mirror_count w.read t ≡ Some n → seen_moment w.read ≡ Some then → count_of then.state t ≡ Some k →
    count_or_zero w.now.state t ≤ n + unanswered raises w.pending t + (composites_in w.parked + composites_in w.to_debugger)

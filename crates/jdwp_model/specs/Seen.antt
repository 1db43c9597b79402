-- What a debugger can say after the packets that it read in this session: what its mirror has, and the same said of the packets themselves.
-- The last packet read stands first.
use Rattle.std.specs.Prelude.{ℕ, ◌+◌, ◌==◌, Bool, false, ◌||◌, ◌&&◌, not, List, [], ◌∷◌, Option, Some, None, if◌then◌else◌}
use Rattle.jdwp_debuggee.specs.State.{Moment, count_or_zero}
use Rattle.jdwp_action.specs.Actions
use Rattle.jdwp_action.specs.Actions.{Command, Action, action_of, is_dispose}
use Rattle.jdwp_mirror.specs.Messages.{Ticket, Handshake, Reply, Report}
use Rattle.jdwp_mirror.specs.Mirror.{Kept, learned, teaches, forgets, shows, held_after, requests_after}
use Rattle.jdwp_model.specs.World.{Packet}

-- ---- the mirror

abbrev pub mirror_count : {S : Type 0} → List (Packet S) → ℕ → Option ℕ
mirror_count [] t = None
mirror_count (p ∷ ps) t = learned p.0 t (mirror_count ps t)

abbrev pub mirror_held : {S : Type 0} → List (Packet S) → ℕ → Bool
mirror_held [] t = false
mirror_held (p ∷ ps) t = held_after p.0 t (mirror_held ps t) (learned p.0 t (mirror_count ps t))

abbrev pub mirror_requests : {S : Type 0} → List (Packet S) → List Kept
mirror_requests [] = []
mirror_requests (p ∷ ps) = requests_after p.0 (mirror_requests ps)

-- ---- the packets

-- The debuggee as it was when the target sent the last packet read.
abbrev pub seen_moment : {S : Type 0} → List (Packet S) → Option (Moment S)
seen_moment [] = None
seen_moment (p ∷ ps) = Some p.1

-- Some packet teaches the thread, and neither it nor a later one forgets it.
abbrev pub is_known : {S : Type 0} → List (Packet S) → ℕ → Bool
is_known [] t = false
is_known (p ∷ ps) t = not (forgets p.0 t) && (teaches p.0 t || is_known ps t)

-- Some packet shows the thread alive, and its count in the target was above 0 as that packet and each later one was sent.
abbrev pub is_shown : {S : Type 0} → List (Packet S) → ℕ → Bool
is_shown [] t = false
is_shown (p ∷ ps) t = not (count_or_zero p.1.state t == 0) && (shows p.0 t || is_shown ps t)

abbrev pub is_held : {S : Type 0} → List (Packet S) → ℕ → Bool
is_held ps t = is_known ps t && is_shown ps t

-- ---- what was asked and is not answered

-- how often a command may lower a thread's count, and raise it
abbrev pub lowers_by : Action → ℕ → ℕ
lowers_by Actions.Resume t = 1
lowers_by (Actions.ResumeThread u) t = if u == t then 1 else 0
lowers_by action t = 0

abbrev pub lowers : Command → ℕ → ℕ
lowers c t = lowers_by (action_of c) t

abbrev pub raises_by : Action → ℕ → ℕ
raises_by Actions.Suspend t = 1
raises_by (Actions.SuspendThread u) t = if u == t then 1 else 0
raises_by action t = 0

abbrev pub raises : Command → ℕ → ℕ
raises c t = raises_by (action_of c) t

-- the unanswered Resumes (or Suspends) of a thread, those of the whole machine among them
abbrev pub unanswered : (Command → ℕ → ℕ) → List (Ticket × Command) → ℕ → ℕ
unanswered by [] t = 0
unanswered by (p ∷ ps) t = by p.1 t + unanswered by ps t

-- a Dispose is unanswered
abbrev pub has_dispose : List (Ticket × Command) → Bool
has_dispose [] = false
has_dispose (p ∷ ps) = is_dispose (action_of p.1) || has_dispose ps

-- composites among packets
abbrev pub composites_in : {S : Type 0} → List (Packet S) → ℕ
composites_in [] = 0
composites_in ((Report c, a) ∷ ps) = 1 + composites_in ps
composites_in ((Reply k c x, a) ∷ ps) = composites_in ps
composites_in ((Handshake, a) ∷ ps) = composites_in ps

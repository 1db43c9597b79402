-- What a target does in a session in which it may defer replies: acts, commands that are put off, and their releases (JDWP specification,
-- "JDWP Packets": commands and replies need not take turns).
use Rattle.std.specs.Prelude.{◌≡◌, ◌≤◌, ◌<◌, ◌+◌, ℕ, Bool, true, false, ◌&&◌, List, [], ◌∷◌, ◌++◌, length, Option, Some, None, if◌then◌else◌, IsPermutation}
use Rattle.std.specs.List.{AllByRecursion}
use Rattle.jdwp_wire.specs.Streams.{Message, Handshake, Packet}
use Rattle.jdwp_wire.specs.declared.packet.PacketKind.{PacketKind}
use Rattle.jdwp_wire.specs.declared.packet.PacketKind.TheVariants as kind
use Rattle.jdwp_end.specs.Ends.{is_established_phase}
use Rattle.jdwp_machine.specs.Meanings.{Meaning}
use Rattle.jdwp_debuggee.specs.Settings.{Settings}
use Rattle.jdwp_debuggee.specs.Deferring.{MOST_DEFERRED, is_deferrable, is_deferred, released_at}
use Rattle.jdwp_target.specs.Standings.{Act, Handles, Steps, Loses, Standing, Reaction, MayCome, handled, react}

-- How a target stands; the commands whose replies are deferred, the oldest first; and whether it defers.
pub record FullStanding (S : Type 0) : Type 0 where
  pub standing : Standing S
  pub deferred : List Message
  pub deferring : Bool

-- nothing is deferred
abbrev pub with_none_deferred : {S : Type 0} → Standing S → Bool → FullStanding S
with_none_deferred standing deferring = record { standing = standing; deferred = []; deferring = deferring }

-- whether a message is put off: a command that may be deferred, in an established session
abbrev pub defers_kind : {S : Type 0} → FullStanding S → PacketKind → Bool
defers_kind now (kind.Command set number) = is_established_phase now.standing.phase && is_deferred now.deferring set (length now.deferred)
defers_kind now (kind.Reply error) = false

abbrev pub defers : {S : Type 0} → FullStanding S → Message → Bool
defers now Handshake = false
defers now (Packet header body) = defers_kind now header.kind

-- ---- deeds

-- A deed: an act; whether it defers is set; or the deferred command at this place, 0 for the oldest, is released: its reply is sent.
pub data Deed : Type 0 where
  Does : Act → Deed
  SetsDeferring : Bool → Deed
  Releases : ℕ → Deed

-- how a target stands after a deed, what is sent for it, which messages were answered, and which that were deferred are dropped
pub record Performance (S : Type 0) : Type 0 where
  pub after : FullStanding S
  pub sends : List Message
  pub answered : List Message
  pub dropped : List Message

-- it stands so; nothing is sent, answered or dropped
abbrev pub stays : {S : Type 0} → FullStanding S → Performance S
stays after = record { after = after; sends = []; answered = []; dropped = [] }

-- what comes of a reaction to messages, where these are deferred: a session that is over, or not established, drops them
abbrev pub behind_reaction : {S : Type 0} → FullStanding S → List Message → Reaction S → Performance S
behind_reaction now answered r = record {
  after = record now { standing = r.after; deferred = if is_established_phase r.after.phase then now.deferred else [] };
  sends = r.sends;
  answered = answered;
  dropped = if is_established_phase r.after.phase then [] else now.deferred;
}

-- A message is put off, or handled at once.
abbrev pub handles_where : {S : Type 0} → Meaning S → Settings → FullStanding S → Message → Bool → Performance S
handles_where m settings now message true = stays (record now { deferred = now.deferred ++ message ∷ [] })
handles_where m settings now message false = behind_reaction now (message ∷ []) (react m settings now.standing (Handles message))

-- A deferred command is handled as the target stands now, and the others stay; nothing happens where there is none.
abbrev pub releases_by : {S : Type 0} → Meaning S → Settings → FullStanding S → Option (Message × List Message) → Performance S
releases_by m settings now None = stays now
releases_by m settings now (Some (message, others)) =
    behind_reaction (record now { deferred = others }) (message ∷ []) (react m settings now.standing (Handles message))

-- what each deed does
abbrev pub perform : {S : Type 0} → Meaning S → Settings → FullStanding S → Deed → Performance S
perform m settings now (Does (Handles message)) = handles_where m settings now message (defers now message)
perform m settings now (Does (Steps t)) = behind_reaction now [] (react m settings now.standing (Steps t))
perform m settings now (Does Loses) = behind_reaction now [] (react m settings now.standing Loses)
perform m settings now (SetsDeferring deferring) = stays (record now { deferring = deferring })
perform m settings now (Releases place) = releases_by m settings now (released_at place now.deferred)

-- ---- one deed after the other

-- the acts among these deeds
abbrev pub acts_in : List Deed → List Act
acts_in [] = []
acts_in (Does act ∷ deeds) = act ∷ acts_in deeds
acts_in (SetsDeferring deferring ∷ deeds) = acts_in deeds
acts_in (Releases place ∷ deeds) = acts_in deeds

-- how many deferred commands these deeds released
abbrev pub releases_made : List Deed → ℕ
releases_made [] = 0
releases_made (Does act ∷ deeds) = releases_made deeds
releases_made (SetsDeferring deferring ∷ deeds) = releases_made deeds
releases_made (Releases place ∷ deeds) = releases_made deeds + 1

-- how the target stands after these deeds
abbrev pub after : {S : Type 0} → Meaning S → Settings → FullStanding S → List Deed → FullStanding S
after m settings now [] = now
after m settings now (deed ∷ deeds) = after m settings (perform m settings now deed).after deeds

-- what is sent for these deeds
abbrev pub sent : {S : Type 0} → Meaning S → Settings → FullStanding S → List Deed → List Message
sent m settings now [] = []
sent m settings now (deed ∷ deeds) = (perform m settings now deed).sends ++ sent m settings (perform m settings now deed).after deeds

-- the messages that these deeds answered, in the order in which they did
abbrev pub answered : {S : Type 0} → Meaning S → Settings → FullStanding S → List Deed → List Message
answered m settings now [] = []
answered m settings now (deed ∷ deeds) = (perform m settings now deed).answered ++ answered m settings (perform m settings now deed).after deeds

-- the deferred commands that these deeds dropped
abbrev pub dropped : {S : Type 0} → Meaning S → Settings → FullStanding S → List Deed → List Message
dropped m settings now [] = []
dropped m settings now (deed ∷ deeds) = (perform m settings now deed).dropped ++ dropped m settings (perform m settings now deed).after deeds

-- ---- in which order

-- Where a deed may come: an act where it may, and a release where a command is deferred at that place.
abbrev pub MayBeDone : {S : Type 0} → Meaning S → Settings → FullStanding S → Deed → Type 0
MayBeDone m settings now (Does act) = MayCome m settings now.standing act
MayBeDone m settings now (SetsDeferring deferring) = Unit {0}
MayBeDone m settings now (Releases place) = (is_established_phase now.standing.phase ≡ true) × (place < length now.deferred)

abbrev pub InOrder : {S : Type 0} → Meaning S → Settings → FullStanding S → List Deed → Type 0
InOrder m settings now [] = Unit {0}
InOrder m settings now (deed ∷ deeds) = MayBeDone m settings now deed × InOrder m settings (perform m settings now deed).after deeds

-- ---- laws

-- The messages that were deferred before, and those that were taken off then, are those that were answered, those that are deferred, and
-- those that were dropped, each as often.
abbrev pub AnswersWhatCame : {S : Type 0} → Meaning S → Type 0
AnswersWhatCame {S} m = (settings : Settings) (now : FullStanding S) (deeds : List Deed)
    → IsPermutation (now.deferred ++ handled (acts_in deeds)) (answered m settings now deeds ++ ((after m settings now deeds).deferred ++ dropped m settings now deeds))

-- a command that may be deferred
abbrev pub MayBeDeferred : Message → Type 0
MayBeDeferred Handshake = ⊥
MayBeDeferred (Packet header body) = (set : ℕ) × (number : ℕ) × (header.kind ≡ kind.Command set number) × (is_deferrable set ≡ true)

-- All that is deferred are commands that may be, no more than may be, and none but in an established session.
pub record DefersFew {S : Type 0} (now : FullStanding S) : Type 0 where
  pub commands : AllByRecursion MayBeDeferred now.deferred
  pub few : length now.deferred ≤ MOST_DEFERRED
  pub none : is_established_phase now.standing.phase ≡ false → now.deferred ≡ []

abbrev pub StaysFew : {S : Type 0} → Meaning S → Type 0
StaysFew {S} m = (settings : Settings) (now : FullStanding S) (deeds : List Deed) → DefersFew now → DefersFew (after m settings now deeds)

-- What was read of a suspended thread's frames stays true for as long as the thread stays suspended.
use Rattle.std.specs.Prelude.{◌≡◌, ◌<◌, ℕ, ◌==◌, Bool, true, false, ◌||◌, ◌⊎◌, List, [], ◌∷◌, Some}
use Rattle.jdwp_layout.specs.declared.answer.Answer.TheVariants.{Data}
use Rattle.jdwp_layout.specs.Meanings.{DatumMeaning}
use Rattle.jdwp_machine.specs.Laws.{asks_frames}
use Rattle.jdwp_machine.specs.Meanings.{Meaning}
use Rattle.jdwp_debuggee.specs.Settings.{Settings}
use Rattle.jdwp_debuggee.specs.State.{Moment, count_or_zero}
use Rattle.jdwp_action.specs.Actions
use Rattle.jdwp_action.specs.Actions.{Command, Action, action_of}
use Rattle.jdwp_debuggee.specs.Answers.{query_of}
use Rattle.jdwp_debuggee.specs.Effects.{effect}
use Rattle.jdwp_mirror.specs.Messages.{Ticket, Message, Handshake, Reply, Report}
use Rattle.jdwp_model.specs.Events.{LinkEvent}
use Rattle.jdwp_model.specs.World.{Measure, Packet, World, opening}
use Rattle.jdwp_model.specs.Next.{run}
use Rattle.jdwp_model.specs.Seen.{seen_moment, unanswered, lowers}
use Rattle.jdwp_model.specs.Headline.{MayBegin, IsUnbroken}

-- a question about a thread's frames: ThreadReference.Frames and FrameCount, StackFrame.GetValues and ThisObject
abbrev pub asks_frames_of : Command → ℕ → Bool
asks_frames_of c t = asks_frames (query_of c) t

-- StackFrame.SetValues of a thread
abbrev pub writes_by : Action → ℕ → Bool
writes_by (Actions.SetSlots u frame values) t = u == t
writes_by action t = false

abbrev pub writes : Command → ℕ → Bool
writes c t = writes_by (action_of c) t

abbrev pub answers_write : Message → ℕ → Bool
answers_write Handshake t = false
answers_write (Reply k c answer) t = writes c t
answers_write (Report c) t = false

-- one is unanswered
abbrev pub has_write : List (Ticket × Command) → ℕ → Bool
has_write [] t = false
has_write (p ∷ ps) t = writes p.1 t || has_write ps t

-- an OK reply to a command, with these data
abbrev pub IsAnswer : Message → Command → List DatumMeaning → Type 0
IsAnswer Handshake c content = ⊥
IsAnswer (Reply k d answer) c content = (d ≡ c) × (answer ≡ Data content)
IsAnswer (Report composite) c content = ⊥

-- A packet read is an OK reply to the command with these data; as each later one was sent the thread's count in the target was above 0;
-- and no later one answers a SetValues of it.
abbrev pub IsLasting : {S : Type 0} → List (Packet S) → ℕ → Command → List DatumMeaning → Type 0
IsLasting [] t c content = ⊥
IsLasting (p ∷ ps) t c content =
    IsAnswer p.0 c content ⊎ ((0 < count_or_zero p.1.state t) × (answers_write p.0 t ≡ false) × IsLasting ps t c content)

-- The target would answer the same now, whatever is under way: where nothing ends suspension by itself, no SetValues of the thread is
-- unanswered, and fewer Resumes of it or of all are than the count that it had as the last packet read was sent.
abbrev pub StaysTrue : {S : Type 0} → Meaning S → Settings → World S → Type 0
StaysTrue {S} m settings w =
    (t : ℕ) (c : Command) (content : List DatumMeaning) (then : Moment S) →
    asks_frames_of c t ≡ true → IsLasting w.read t c content → IsUnbroken w → has_write w.pending t ≡ false →
    seen_moment w.read ≡ Some then → unanswered lowers w.pending t < count_or_zero then.state t →
    (effect m settings w.now c).answer ≡ Data content

abbrev pub AlwaysStaysTrue : {S : Type 0} → Meaning S → Type 0
AlwaysStaysTrue {S} m =
    (settings : Settings) (measure : Measure) (s : S) (events : List LinkEvent) → MayBegin m settings s →
    StaysTrue m settings (run m settings measure (opening m s) events)

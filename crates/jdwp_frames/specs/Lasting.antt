-- What a debugger was told of a thread's frames the target would answer now: said of a link, and of what its debugger knows.
use Rattle.std.specs.Prelude.{◌≡◌, ℕ, Bool, true, false, not, List, [], ◌∷◌, Some}
use Rattle.std.specs.List.{list_all}
use Rattle.jdwp_layout.specs.declared.answer.Answer.TheVariants.{Data}
use Rattle.jdwp_layout.specs.Meanings.{DatumMeaning}
use Rattle.jdwp_machine.specs.Meanings.{Meaning}
use Rattle.jdwp_action.specs.Actions.{Command}
use Rattle.jdwp_debuggee.specs.Effects.{effect}
use Rattle.jdwp_debugger.specs.declared.pending.Ticket.{Ticket}
use Rattle.jdwp_debugger.specs.Debuggers.{AreOwn, at_place, unanswered}
use Rattle.jdwp_model.specs.Events
use Rattle.jdwp_model.specs.Events.{LinkEvent}
use Rattle.jdwp_model.specs.Lasting.{asks_frames_of}
use Rattle.jdwp_link.specs.declared.events.Outcome.{Outcome}
use Rattle.jdwp_link.specs.declared.events.Outcome.TheVariants as outcome
use Rattle.jdwp_link.specs.Clauses.{Ran}
use Rattle.jdwp_link.specs.Links.{Link}
use Rattle.jdwp_link.specs.Stands.{IsLink}
use Rattle.jdwp_frames.specs.Changing.{do_frames_last, may_change}

-- An event leaves what was answered of a thread's frames as it is: it asks no command that may change it, and begins no session.
abbrev pub leaves : ℕ → LinkEvent → Bool
leaves t (Events.Ask c) = not (may_change t c)
leaves t Events.Attach = false
leaves t e = true

-- A turn of a link's debugger told the answer of a ticket, under which a question about a thread's frames had waited; and nothing may have
-- changed it.
pub record IsToldBy {S : Type 0} (m : Meaning S) (t : ℕ) (c : Command) (content : List DatumMeaning) (before told : Link S) : Type 0 where
  pub asks : asks_frames_of c t ≡ true
  pub link : IsLink m before
  pub ticket : Ticket
  pub place : ℕ
  pub waited : at_place (unanswered before.debugger.pending) place ≡ Some (record { ticket = ticket.0; command = c })
  pub turned : Ran m (Events.DebuggerTurn ∷ []) before told (outcome.Answered ticket (Data content) ∷ [])
  pub own : AreOwn told.debugger.pending
  pub last : do_frames_last told.debugger t ≡ true

-- The machine lives, and the target noticed no loss in this session.
pub record IsThere {S : Type 0} (l : Link S) : Type 0 where
  pub alive : l.target.moment.state.alive ≡ true
  pub not_lost : l.target.end.session.lost ≡ false

-- What was told the target would answer now, after any events that leave it, whatever is under way, as long as the debugger holds the thread.
abbrev pub FramesStayTrue : {S : Type 0} → Meaning S → Type 0
FramesStayTrue {S} m =
    (t : ℕ) (c : Command) (content : List DatumMeaning) (before told now : Link S) (es : List LinkEvent) (os : List Outcome) →
    IsToldBy m t c content before told → Ran m es told now os → list_all (leaves t) es ≡ true → do_frames_last now.debugger t ≡ true → IsThere now →
    (effect m now.target.settings now.target.moment c).answer ≡ Data content

-- A target over any machine as contracts see it, and what each call does to it.
use Rattle.std.specs.Prelude.{◌≡◌, ◌≤◌, ◌<◌, ℕ, ◌+◌, Bool, true, false, List, [], length, take}
use Rattle.jdwp_wire.specs.Bytes.{IsBytes}
use Rattle.jdwp_wire.specs.Streams.{Message, Whole, AreSendable, IsConversation, stream}
use Rattle.jdwp_end.specs.declared.phase.Phase.{Phase}
use Rattle.jdwp_end.specs.declared.phase.Phase.TheVariants.{Closed, AwaitingHandshake}
use Rattle.jdwp_end.specs.Ends.{End}
use Rattle.jdwp_end.specs.Ends as ends
use Rattle.jdwp_end.specs.Runs.{Carries}
use Rattle.jdwp_machine.specs.Meanings.{Meaning}
use Rattle.jdwp_debuggee.specs.Settings.{Settings}
use Rattle.jdwp_debuggee.specs.State.{Moment}
use Rattle.jdwp_debuggee.specs.Steps.{may_step}
use Rattle.jdwp_debuggee.specs.Visits.{visits_stepped}
use Rattle.jdwp_debuggee.specs.Deferring.{released_at}
use Rattle.jdwp_target.specs.Standings.{Handles, Steps, Standing, handled, has_loss, stands, steps_made, reset_moment}
use Rattle.jdwp_target.specs.Deeds.{Deed, Does, Releases, InOrder, FullStanding, Performance, acts_in, after, defers, perform, releases_made, sent, with_none_deferred}
use Rattle.jdwp_target.specs.Visits.{visits_released, visits_where}

-- What it was made with; the moment; the commands whose replies are deferred, the oldest first; whether it defers; how it stood when the
-- session began; how many steps were made in the session, and how many deferred commands were released; what both ends have; and how many
-- threads the last move of all suspend counts visited, 0 before the first.
pub record Target (S : Type 0) : Type 0 where
  pub settings : Settings
  pub moment : Moment S
  pub deferred : List Message
  pub deferring : Bool
  pub began : FullStanding S
  pub steps : ℕ
  pub releases : ℕ
  pub end : End
  pub visits : ℕ

abbrev pub standing : {S : Type 0} → Target S → Standing S
standing v = record { moment = v.moment; phase = v.end.phase }

abbrev pub full_standing : {S : Type 0} → Target S → FullStanding S
full_standing v = record { standing = standing v; deferred = v.deferred; deferring = v.deferring }

-- a target before its first session, which does not defer
abbrev pub new_target : {S : Type 0} → Settings → Moment S → Target S
new_target settings now = record {
  settings = settings;
  moment = now;
  deferred = [];
  deferring = false;
  began = with_none_deferred (stands now Closed) false;
  steps = 0;
  releases = 0;
  end = ends.new_end settings.limits;
  visits = 0;
}

-- a session begins, in which nothing is deferred yet
abbrev pub opened_target : {S : Type 0} → Target S → Target S
opened_target v = record v {
  deferred = [];
  began = with_none_deferred (stands v.moment AwaitingHandshake) v.deferring;
  steps = 0;
  releases = 0;
  end = ends.opened_end v.end;
}

-- bytes came; bytes left
abbrev pub with_fed : {S : Type 0} → List ℕ → Target S → Target S
with_fed bytes v = record v { end = ends.with_fed bytes v.end }

abbrev pub with_taken : {S : Type 0} → List ℕ → Target S → Target S
with_taken bytes v = record v { end = ends.with_taken bytes v.end }

-- the connection is lost: the debuggee is reset, the session is closed, nothing waits, and nothing is deferred
abbrev pub lost_target : {S : Type 0} → Target S → Target S
lost_target v = record v { moment = reset_moment v.moment; deferred = []; end = ends.lost_end v.end }

-- what a deed sends is put behind what waits, and the session may close
abbrev pub in_phase : Phase → End → End
in_phase phase end = record end { phase = phase }

abbrev pub with_performance : {S : Type 0} → Performance S → End → Target S → Target S
with_performance p end v = record v {
  moment = p.after.standing.moment;
  deferred = p.after.deferred;
  deferring = p.after.deferring;
  end = in_phase p.after.standing.phase (ends.with_enqueued (stream p.sends) end);
}

abbrev pub visiting : {S : Type 0} → ℕ → Target S → Target S
visiting visits v = record v { visits = visits }

-- the message of so many bytes at the front is taken off, and handled or put off
abbrev pub with_handled : {S : Type 0} → Meaning S → Message → ℕ → Target S → Target S
with_handled m message used v =
    visiting (visits_where m v.settings v.moment message v.visits (defers (full_standing v) message))
    (with_performance (perform m v.settings (full_standing v) (Does (Handles message))) (ends.with_handled message used v.end) v)

-- a thread makes a step
abbrev pub with_step : {S : Type 0} → Meaning S → ℕ → Target S → Target S
with_step m t v =
    visiting (visits_stepped m v.moment t v.visits) (with_performance (perform m v.settings (full_standing v) (Does (Steps t))) v.end (record v { steps = v.steps + 1 }))

-- from now on it defers, or it does not; what is deferred stays so
abbrev pub with_deferring : {S : Type 0} → Bool → Target S → Target S
with_deferring deferring v = record v { deferring = deferring }

-- the deferred command at this place is released
abbrev pub with_release : {S : Type 0} → Meaning S → ℕ → Target S → Target S
with_release m place v =
    visiting (visits_released m v.settings v.moment (released_at place v.deferred) v.visits)
    (with_performance (perform m v.settings (full_standing v) (Releases place)) v.end (record v { releases = v.releases + 1 }))

-- What holds of every target after every list of calls in a session, of the deeds that were done in it, in order: each came where it may
-- come, from how the target stood when the session began, with nothing deferred; one of them is a loss exactly where a loss was noticed; as
-- many steps and releases were made as there are among them; what the end carries are the messages that these deeds took off, of which AnswersWhatCame
-- tells what became; the bytes enqueued to leave are those that these deeds call for, the handshake and then packets within the limit; and
-- it stands as these deeds leave it.
pub record Ran {S : Type 0} (m : Meaning S) (v : Target S) : Type 0 where
  pub fresh : v.began.deferred ≡ []
  pub deeds : List Deed
  pub in_order : InOrder m v.settings v.began deeds
  pub lost : v.end.session.lost ≡ has_loss (acts_in deeds)
  pub steps : v.steps ≡ steps_made (acts_in deeds)
  pub releases : v.releases ≡ releases_made deeds
  pub carries : Carries v.end (handled (acts_in deeds))
  pub enqueued : v.end.session.enqueued ≡ stream (sent m v.settings v.began deeds)
  pub conversation : IsConversation v.end.limits.packet (sent m v.settings v.began deeds)
  pub stands : full_standing v ≡ after m v.settings v.began deeds

-- What each call leaves of a run, where what is sent are packets within the limit.
pub record GoesOn {S : Type 0} (m : Meaning S) : Type 0 where
  pub new : (settings : Settings) (now : Moment S) → Ran m (new_target settings now)
  pub opened : (v : Target S) → Ran m (opened_target v)
  pub fed : (v : Target S) (bytes : List ℕ) → ends.is_open v.end ≡ true → Ran m v → Ran m (with_fed bytes v)
  pub taken : (v : Target S) (n : ℕ) → n ≤ length v.end.outgoing → Ran m v → Ran m (with_taken (take n v.end.outgoing) v)
  pub lost : (v : Target S) → Ran m v → Ran m (lost_target v)
  pub handled : (v : Target S) (message : Message) (used : ℕ) → IsBytes v.end.incoming → ends.front_of v.end ≡ Whole message used
      → AreSendable v.end.limits.packet (perform m v.settings (full_standing v) (Does (Handles message))).sends → Ran m v → Ran m (with_handled m message used v)
  pub stepped : (v : Target S) (t : ℕ) → may_step m v.settings v.moment t ≡ true
      → AreSendable v.end.limits.packet (perform m v.settings (full_standing v) (Does (Steps t))).sends → Ran m v → Ran m (with_step m t v)
  pub deferring : (v : Target S) (deferring : Bool) → Ran m v → Ran m (with_deferring deferring v)
  pub released : (v : Target S) (place : ℕ) → ends.is_established v.end ≡ true → place < length v.deferred
      → AreSendable v.end.limits.packet (perform m v.settings (full_standing v) (Releases place)).sends → Ran m v → Ran m (with_release m place v)

-- what holds of each run from a world
use Rattle.std.proofs.Common.{◌≡◌, ℕ, List, ◌++◌}
use Rattle.jdwp_layout.specs.declared.answer.Answer.{Answer}
use Rattle.jdwp_machine.specs.Meanings.{Meaning}
use Rattle.jdwp_debuggee.specs.Settings.{Settings}
use Rattle.jdwp_model.specs.Deferred.{DefersFew}
use Rattle.jdwp_model.specs.Events.{LinkEvent}
use Rattle.jdwp_model.specs.Faultless.{AnswersOneWaiting, NoCallIsRefused, NoPacketIsRefused}
use Rattle.jdwp_model.specs.Given.{IsIn, TellsWhatWasGiven, given_answers, told_answers}
use Rattle.jdwp_model.specs.Headline.{CountIsAtMost, HasTheCounts, HasTheRequests, HeldIsCovered, HeldIsSuspended, KnowsAndHolds, MayBegin}
use Rattle.jdwp_model.specs.Lasting.{StaysTrue}
use Rattle.jdwp_model.specs.Next.{outcomes, run}
use Rattle.jdwp_model.specs.Places.{EachAtOnePlace}
use Rattle.jdwp_model.specs.Soundness.{StandsSoundly}
use Rattle.jdwp_model.specs.Tickets.{SettlesOnce, settled, tickets, tickets_to, times}
use Rattle.jdwp_model.specs.World.{Measure, World, opening}
use Rattle.jdwp_link.specs.Laws.{HoldsOfWorlds}

-- after every list of events from there on, whatever messages measure
abbrev pub From : {S : Type 0} → Meaning S → Settings → World S → (World S → Type 0) → Type 0
From m settings first P = (measure : Measure) (events : List LinkEvent) → P (run m settings measure first events)

-- what the theorems say of a link from its opening on
pub record Onward {S : Type 0} (m : Meaning S) (settings : Settings) (first : World S) : Type 0 where
  pub soundly : From m settings first (StandsSoundly m settings)
  pub packets : From m settings first NoPacketIsRefused
  pub calls : From m settings first NoCallIsRefused
  pub one : From m settings first AnswersOneWaiting
  pub places : From m settings first EachAtOnePlace
  pub few : From m settings first DefersFew
  pub known_and_held : From m settings first KnowsAndHolds
  pub counts : From m settings first HasTheCounts
  pub requests : From m settings first HasTheRequests
  pub suspended : From m settings first HeldIsSuspended
  pub covered : From m settings first HeldIsCovered
  pub at_most : From m settings first CountIsAtMost
  pub stays : From m settings first (StaysTrue m settings)

pub opening-onward : {S : Type 0} (m : Meaning S) → HoldsOfWorlds m → (settings : Settings) (s : S) → MayBegin m settings s → Onward m settings (opening m s)
opening-onward m worlds settings s begins = record {
  soundly = λ measure events. worlds.soundly settings measure s events begins;
  packets = λ measure events. worlds.packets settings measure s events begins;
  calls = λ measure events. worlds.calls settings measure s events begins;
  one = λ measure events. worlds.one settings measure s events begins;
  places = λ measure events. worlds.places settings measure s events begins;
  few = λ measure events. worlds.few settings measure s events begins;
  known_and_held = λ measure events. worlds.known_and_held settings measure s events begins;
  counts = λ measure events. worlds.counts settings measure s events begins;
  requests = λ measure events. worlds.requests settings measure s events begins;
  suspended = λ measure events. worlds.suspended settings measure s events begins;
  covered = λ measure events. worlds.covered settings measure s events begins;
  at_most = λ measure events. worlds.at_most settings measure s events begins;
  stays = λ measure events. worlds.stays settings measure s events begins;
}

-- each ticket that was given was given before, or is settled once or waits
abbrev pub SettlesFrom : {S : Type 0} → Meaning S → Settings → World S → Type 0
SettlesFrom m settings first = (measure : Measure) (events : List LinkEvent) (k : ℕ)
    → times k (tickets_to first.asked ++ (settled (outcomes m settings measure first events) ++ tickets (run m settings measure first events).pending)) ≡ times k (tickets_to (run m settings measure first events).asked)

-- each answer that is told is one that was given
abbrev pub TellsFrom : {S : Type 0} → Meaning S → Settings → World S → Type 0
TellsFrom m settings first = (measure : Measure) (events : List LinkEvent) (p : ℕ × Answer)
    → IsIn (told_answers (outcomes m settings measure first events)) p → IsIn (given_answers m settings measure first events) p

pub opening-settles : {S : Type 0} (m : Meaning S) → SettlesOnce m → (settings : Settings) (s : S) → MayBegin m settings s → SettlesFrom m settings (opening m s)
opening-settles m once settings s begins measure events k = once settings measure s events k begins

pub opening-tells : {S : Type 0} (m : Meaning S) → TellsWhatWasGiven m → (settings : Settings) (s : S) → TellsFrom m settings (opening m s)
opening-tells m given settings s measure events p h = given settings measure s events p h

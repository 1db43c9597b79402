-- How the debuggee and both ends stand, whatever events led there: what is said of a session code may start from.
use Rattle.std.specs.Prelude.{◌≡◌, true, false, List, []}
use Rattle.jdwp_end.specs.Ends.{is_established_phase}
use Rattle.jdwp_machine.specs.Meanings.{Meaning}
use Rattle.jdwp_debuggee.specs.Facts.{IsSound}
use Rattle.jdwp_debuggee.specs.Settings.{Settings}
use Rattle.jdwp_model.specs.Events.{LinkEvent}
use Rattle.jdwp_model.specs.Headline.{MayBegin}
use Rattle.jdwp_model.specs.Next.{run}
use Rattle.jdwp_model.specs.World.{Measure, World, is_closed, opening}

-- The debuggee is sound; there are no requests but in an established session; a target that is open noticed no loss; and nothing waits at a
-- debugger that is closed.
pub record StandsSoundly {S : Type 0} (m : Meaning S) (settings : Settings) (w : World S) : Type 0 where
  pub sound : IsSound m settings w.now
  pub idle : is_established_phase w.target ≡ false → w.now.state.requests ≡ []
  pub unlost : is_closed w.target ≡ false → w.lost ≡ false
  pub shut : is_closed w.debugger ≡ true → w.pending ≡ []

abbrev pub AlwaysStandsSoundly : {S : Type 0} → Meaning S → Type 0
AlwaysStandsSoundly {S} m =
    (settings : Settings) (measure : Measure) (s : S) (events : List LinkEvent) → MayBegin m settings s → StandsSoundly m settings (run m settings measure (opening m s) events)

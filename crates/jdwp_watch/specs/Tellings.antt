-- What replies and composites tell of the threads.
use Rattle.std.specs.Prelude.{ℕ, ◌==◌, true, false, ◌||◌, Option, Some, None}
use Rattle.jdwp_value.specs.declared.id.ObjectId.{ObjectId}
use Rattle.jdwp_layout.specs.declared.answer.Answer.{Answer}
use Rattle.jdwp_layout.specs.declared.answer.Answer.TheVariants.{Data, Error}
use Rattle.jdwp_action.specs.Actions.{Action, about}
use Rattle.jdwp_event.specs.Composites.{CompositeMeaning, POLICY_EVENT_THREAD, POLICY_ALL}
use Rattle.jdwp_event.specs.Told.{composite_thread, id_found}
use Rattle.jdwp_mirror.specs.CommandKinds.{kind_of}
use Rattle.jdwp_mirror.specs.declared.command.CommandKind.{CommandKind}
use Rattle.jdwp_mirror.specs.declared.command.CommandKind.TheVariants as kinds
use Rattle.jdwp_apart.specs.Messages.{count_in}
use Rattle.jdwp_watch.specs.declared.standing.Telling.{Telling}
use Rattle.jdwp_watch.specs.declared.told.Told.{Told}
use Rattle.jdwp_watch.specs.declared.told.Stops.{Stops}

abbrev pub nothing : Telling
nothing = record { raises = false; lowers = false; count = 0; shows = false }

abbrev pub raised : Telling
raised = record nothing { raises = true }

abbrev pub lowered : Telling
lowered = record nothing { lowers = true }

abbrev pub counted : ℕ → Telling
counted n = record nothing { count = n }

abbrev pub told_nothing : Told
told_nothing = record { thread = None; own = nothing; others = None }

abbrev pub told_of_all : Telling → Told
told_of_all d = record { thread = None; own = nothing; others = Some d }

abbrev pub told_of_one : ObjectId → Telling → Told
told_of_one t d = record { thread = Some t; own = record d { shows = true }; others = None }

abbrev pub told_of_own : Option ObjectId → Telling → Told
told_of_own None d = told_nothing
told_of_own (Some t) d = told_of_one t d

-- by data that answer a command of a kind about a thread, with a count in them
abbrev pub told_by : CommandKind → Option ObjectId → ℕ → Told
told_by kinds.Suspend thread n = told_of_all raised
told_by kinds.Resume thread n = told_of_all lowered
told_by kinds.SuspendThread thread n = told_of_own thread raised
told_by kinds.ResumeThread thread n = told_of_own thread lowered
told_by kinds.SuspendCount thread n = told_of_own thread (counted n)
told_by kind thread n = told_nothing

abbrev pub told_in : Action → Answer → Told
told_in a (Data content) = told_by (kind_of a) (id_found (about a)) (count_in content)
told_in a (Error e) = told_nothing

abbrev pub stops_in : CompositeMeaning → Stops
stops_in c = record {
  thread = id_found (composite_thread c);
  own = (c.policy == POLICY_ALL) || (c.policy == POLICY_EVENT_THREAD);
  others = c.policy == POLICY_ALL;
}

-- What contracts see of a run between two lines.
use Rattle.std.specs.Prelude.{◌≡◌, ℕ, List, ◌∷◌, Some, None}
use Rattle.std.specs.Option.{option_map}
use Rattle.jdwp_client.specs.Clients.{Client}
use Rattle.jdwp_end.specs.Story.{Story}
use Rattle.jdwp_event.specs.Composites.{CompositeMeaning}
use Rattle.jdwp_layout.specs.declared.answer.Answer.{Answer}
use Rattle.jdwp_layout.specs.Meanings.{ScalarMeaning}
use Rattle.jdwp_plan.specs.declared.plan_line.Path.{Path}
use Rattle.jdwp_show.specs.DataText.{scalar_text}
use Rattle.jdwp_plan_run.specs.declared.carrying.Run.{Run}
use Rattle.jdwp_plan_run.specs.declared.telling.Told.{Told}
use Rattle.jdwp_plan_run.specs.Expecting.{item_told}
use Rattle.jdwp_plan_run.specs.Runs.{Running, one_more}
use Rattle.jdwp_plan_run.specs.Tellings.{Telling, event_line, printed, reply_line, told_of_answer, told_of_event}

abbrev pub telling : Told → Telling
telling told = record { text = told.text.items; items = told.items }

abbrev pub running : {P : Type 0} → Client P → Run → Story → Running P
running client run out = record {
  client = client;
  values = run.values;
  told = option_map telling run.told;
  composites = run.composites;
  timeout = run.timeout;
  may_end = run.may_end;
  out = out;
}

-- a text is bound to a name, and nothing else has changed
abbrev pub BindsText : List ℕ → List ℕ → Run → Run → Type 0
BindsText name text old new = new ≡ record old { values = (name, text) ∷ old.values }

-- the same of what is shown of the item at a path of what was told last
abbrev pub BindsIn : List ℕ → Path → Run → Run → Type 0
BindsIn name path old new = (x : ScalarMeaning) × (item_told path (option_map telling old.told) ≡ Some x) × BindsText name (scalar_text x) old new

-- the answer was told and printed, and nothing else has changed
abbrev pub TellsAnswer : ℕ → ℕ → Answer → Run → Story → Run → Story → Type 0
TellsAnswer set number answer old out new left =
    (told : Told) × (telling told ≡ told_of_answer answer) × (new ≡ record old { told = Some told }) × (left ≡ printed (reply_line set number told.text.items) out)

-- the same of a composite, which is counted
abbrev pub TellsEvent : CompositeMeaning → Run → Story → Run → Story → Type 0
TellsEvent c old out new left =
    (told : Told) × (telling told ≡ told_of_event c) × (new ≡ record old { told = Some told; composites = one_more old.composites })
    × (left ≡ printed (event_line told.text.items) out)

-- the same of a text that tells no data
abbrev pub TellsText : List ℕ → Run → Story → Run → Story → Type 0
TellsText text old out new left =
    (told : Told) × (telling told ≡ record { text = text; items = None }) × (new ≡ record old { told = Some told }) × (left ≡ printed text out)

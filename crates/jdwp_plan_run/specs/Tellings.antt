-- What is told of answers and events.
use Rattle.std.specs.Prelude.{ℕ, List, [], ◌++◌, drop, Option, Some, None, codes, decimal}
use Rattle.jdwp_end.specs.Story.{Story, flushed, with_written}
use Rattle.jdwp_event.specs.Composites.{CompositeMeaning, composite_data}
use Rattle.jdwp_layout.specs.declared.answer.Answer.{Answer}
use Rattle.jdwp_layout.specs.declared.answer.Answer.TheVariants.{Data, Error}
use Rattle.jdwp_layout.specs.Meanings.{DatumMeaning, raw_bytes}
use Rattle.jdwp_show.specs.DataText.{data_text}
use Rattle.jdwp_show.specs.MessageLines.{name_text}
use Rattle.jdwp_plan_run.specs.declared.stop.Stop.{Stop}
use Rattle.jdwp_plan_run.specs.declared.stop.Stop.TheVariants as stop

-- What was told: a text, and the data that it tells, where it tells some.
pub record Telling : Type 0 where
  pub text : List ℕ
  pub items : Option (List DatumMeaning)

-- ---- answers and events

-- data of no bytes that are not read are not told
abbrev pub text_by : Option (List ℕ) → List DatumMeaning → List ℕ
text_by (Some []) items = []
text_by raw items = data_text items

-- the error code of an answer, and behind it its data
abbrev pub answer_text : Answer → List ℕ
answer_text (Error code) = decimal code.0
answer_text (Data items) = codes "0" ++ text_by (raw_bytes items) items

abbrev pub answer_items : Answer → Option (List DatumMeaning)
answer_items (Error code) = None
answer_items (Data items) = Some items

abbrev pub told_of_answer : Answer → Telling
told_of_answer answer = record { text = answer_text answer; items = answer_items answer }

-- the data of a composite, without the space before them
abbrev pub event_text : CompositeMeaning → List ℕ
event_text c = drop 1 (data_text (composite_data c))

abbrev pub told_of_event : CompositeMeaning → Telling
told_of_event c = record { text = event_text c; items = Some (composite_data c) }

-- ---- lines that are printed: those of `show` without the ids of packets

-- `< reply NAME ERROR DATA`
abbrev pub reply_line : ℕ → ℕ → List ℕ → List ℕ
reply_line set number text = codes "< reply " ++ name_text (record { set = set; number = number }) ++ codes " " ++ text ++ codes "\n"

-- `< Event.Composite DATA`
abbrev pub event_line : List ℕ → List ℕ
event_line text = codes "< Event.Composite " ++ text ++ codes "\n"

-- ---- printing

-- it was printed, and left
abbrev pub printed : List ℕ → Story → Story
printed bytes out = flushed (with_written bytes out)

-- why something was not printed
abbrev pub PrintStops : Stop → Type 0
PrintStops stop.NoMemory = Unit {0}
PrintStops stop.NotPrinted = Unit {0}
PrintStops s = ⊥

-- What is kept of the items so far.
use Rattle.std.specs.Prelude.{◌≡◌, ℕ, ◌+◌, ◌-◌, ◌||◌, ◌&&◌, nat_le, nat_lt, List, [], ◌∷◌, ◌++◌, length, slice_index_or, Bool, true, Option, Some, None, is_some, if◌then◌else◌}
use Rattle.std.specs.BTreeMap.{get, btree_map_len}
use Rattle.std.specs.Option.{option_flatten}
use Rattle.std.specs.Ordering.{nat_cmp}
use Rattle.jdwp_wire.specs.Widths.{Widths}
use Rattle.jdwp_judge.specs.declared.asked.Asked.{Asked}
use Rattle.jdwp_judge.specs.declared.rulings.Rulings.{Rulings}
use Rattle.jdwp_judge.specs.declared.waiting.Waiting.{Waiting}
use Rattle.jdwp_judge.specs.Asking.{asks, answers, count_asked, count_answered}
use Rattle.jdwp_judge.specs.declared.backlog.Backlog.{Backlog}
use Rattle.jdwp_judge.specs.Entries.{all_with}
use Rattle.jdwp_judge.specs.Heard.{Kept, items_kept, AreKept}
use Rattle.jdwp_judge.specs.Told.{settled, widths_wanted, lines_told, fault_told, lines_under, fault_under}
use Rattle.jdwp_show.specs.declared.capture_fault.CaptureFault.{CaptureFault}
use Rattle.jdwp_show.specs.declared.capture_line.Sender.{Sender}
use Rattle.jdwp_show.specs.declared.command_number.CommandNumber.{CommandNumber}
use Rattle.jdwp_show.specs.declared.table.Table.{Table}
use Rattle.jdwp_show.specs.declared.terms.Terms.{Terms}
use Rattle.jdwp_show.specs.declared.transcript.Transcript.{Transcript}
use Rattle.jdwp_show.specs.CaptureLines.{lines_after}
use Rattle.jdwp_show.specs.Found.{Found}
use Rattle.jdwp_show.specs.Items.{Item}
use Rattle.jdwp_show.specs.Rules.{has_begun, waiting, under, is_debugger, is_handshake, waits_after_found}
use Rattle.jdwp_show.specs.Sessions.{first_answer, first_after, unanswered, fault_answer, terms_of}
use Rattle.jdwp_show.specs.Tables.{terms_by}
use Rattle.jdwp_show.specs.Transcripts.{Tells}

-- ---- commands that wait

-- where an id stands in a row of so many that begins with this one
abbrev pub place_of : ℕ → ℕ → ℕ → Option ℕ
place_of first count id = if nat_le first id && nat_lt id (first + count) then Some (id - first) else None

abbrev pub place_in : Waiting → ℕ → Option ℕ
place_in waiting id = place_of waiting.first (length waiting.row.items) id

-- what stands at a place of the row, if there is one
abbrev pub at_or : List (Option CommandNumber) → Option ℕ → Option CommandNumber → Option CommandNumber
at_or row None others = others
at_or row (Some place) others = slice_index_or row place None

abbrev pub waits_under : Waiting → ℕ → Option CommandNumber
waits_under waiting id = at_or waiting.row.items (place_in waiting id) (get nat_cmp waiting.others id)

-- how many of them
abbrev pub count_under : Waiting → ℕ
count_under waiting = waiting.in_row + btree_map_len waiting.others

abbrev pub waits_in : Asked → ℕ → Option CommandNumber
waits_in asked id = waits_under asked.commands id

abbrev pub count_in : Asked → ℕ
count_in asked = count_under asked.commands

-- how many wait more behind what was found, and how many fewer, where this command waited under its id
abbrev pub more_by : Option CommandNumber → Sender → Found → ℕ
more_by waits sender found = if asks sender found then (if is_some waits then 0 else 1) else 0

abbrev pub fewer_by : Option CommandNumber → Sender → Found → ℕ
fewer_by waits sender found = if answers sender found then (if is_some waits then 1 else 0) else 0

-- it says of these items what the rules ask
pub record IsAsked (asked : Asked) (items : List Item) : Type 0 where
  pub begun : asked.begun ≡ has_begun items
  pub waits : (id : ℕ) → waits_in asked id ≡ waiting items id

-- one item more
pub record IsAfter (old : Asked) (item : Item) (new : Asked) : Type 0 where
  pub begun : new.begun ≡ (old.begun || (is_debugger item.sender && is_handshake item.found))
  pub waits : (id : ℕ) → waits_in new id ≡ waits_after_found id item.sender item.found (waits_in old id)

-- ---- telling

-- what is told of items behind others, where data are read so, up to the first that breaks a rule
abbrev pub lines_behind : Terms → List Item → List Item → List ℕ
lines_behind terms before items = lines_after terms before (unanswered (fault_answer terms) before items)

abbrev pub fault_behind : Terms → List Item → List Item → Option (ℕ × CaptureFault)
fault_behind terms before items = first_after (fault_answer terms) before items

-- they were told, and this fault
pub record IsTold (terms : Terms) (before items : List Item) (fault : Option (ℕ × CaptureFault)) (old new : Transcript) : Type 0 where
  pub lines : Tells old (lines_behind terms before items) new
  pub fault_is : fault ≡ fault_behind terms before items

-- ---- what waits until it is known

-- the messages that are kept
abbrev pub kept_in : Backlog → List Kept
kept_in backlog = all_with backlog.entries.items backlog.bodies.items

-- None of the items in front wants the widths, and of those behind none stands before one that does.
pub record IsBeforeWanting (table : Table) (front behind : List Item) : Type 0 where
  pub none_wants : first_answer (widths_wanted table) front ≡ None
  pub none_known : unanswered (widths_wanted table) front behind ≡ []

-- Which items are known, where this is sure of the widths.
pub record Parted (table : Table) (s : Option (Option Widths)) (front behind : List Item) : Type 0 where
  pub all_known : is_some s ≡ true → behind ≡ []
  pub known : s ≡ None → IsBeforeWanting table front behind

-- No fault is told: what is known of the items stands in front and breaks no rule.
pub record Standing (table : Table) (items : List Item) (s : Option (Option Widths)) (front behind : List Item) : Type 0 where
  pub in_order : items ≡ front ++ behind
  pub settled_is : settled items ≡ s
  pub parted : Parted table s front behind
  pub none_breaks : fault_behind (terms_by table (option_flatten s)) [] front ≡ None

-- ---- what rulings have of these items

-- Those that are not known are kept.
pub record IsUnderWay (table : Table) (rulings : Rulings) (items : List Item) : Type 0 where
  pub asked : IsAsked rulings.asked items
  pub counted : count_in rulings.asked + count_answered items ≡ count_asked items
  pub front : List Item
  pub standing : Standing table items rulings.sizes front (items_kept (kept_in rulings.kept))
  pub kept : AreKept front (kept_in rulings.kept)

-- it follows these items, by this table
pub record Follows (table : Table) (rulings : Rulings) (items : List Item) : Type 0 where
  pub by_table : rulings.table ≡ table
  pub fault : rulings.fault ≡ fault_told table items
  pub under_way : rulings.fault ≡ None → IsUnderWay table rulings items

-- one item more was looked up, and nothing else
pub record IsRecorded (old : Rulings) (begun : Bool) (waits : Option CommandNumber) (item : Item) (new : Rulings) : Type 0 where
  pub after : IsAfter old.asked item new.asked
  pub begun_is : begun ≡ old.asked.begun
  pub waits_is : waits ≡ under (waits_in old.asked) item.found
  pub counted : count_in new.asked + fewer_by waits item.sender item.found ≡ count_in old.asked + more_by waits item.sender item.found
  pub table : new.table ≡ old.table
  pub sizes : new.sizes ≡ old.sizes
  pub kept : new.kept ≡ old.kept
  pub fault : new.fault ≡ old.fault

-- one item more was heard, and what it made known was told
pub record HasHeardOne (table : Table) (items : List Item) (item : Item) (rulings : Rulings) (old new : Transcript) : Type 0 where
  pub follows : Follows table rulings (items ++ item ∷ [])
  pub added : List ℕ
  pub appended : Tells old added new
  pub told : lines_told table (items ++ item ∷ []) ≡ lines_told table items ++ added

-- no more come, and what waited was told
pub record HasEnded (table : Table) (items : List Item) (rulings : Rulings) (old new : Transcript) : Type 0 where
  pub fault : rulings.fault ≡ fault_under (terms_of table items) items
  pub added : List ℕ
  pub appended : Tells old added new
  pub told : lines_under (terms_of table items) items ≡ lines_told table items ++ added

-- The items of a capture: the messages and frame faults of both ends, in the order of the lines that complete them.
use Rattle.std.specs.Prelude.{◌≡◌, ◌≤◌, ℕ, ◌+◌, List, [], ◌∷◌, ◌++◌, length, drop, map, if◌then◌else◌}
use Rattle.std.specs.List.{flat_map}
use Rattle.jdwp_show.specs.declared.capture_line.Sender.{Sender}
use Rattle.jdwp_show.specs.Lines.{Line, is_same, sent_by}
use Rattle.jdwp_show.specs.Found.{Found, found}

-- the number, from 1, of the line in which the last byte stands, the end that sent it, and what it is
pub record Item : Type 0 where
  pub line : ℕ
  pub sender : Sender
  pub found : Found

abbrev pub item_at : ℕ → Sender → Found → Item
item_at line sender thing = record { line = line; sender = sender; found = thing }

-- What a line completes, after the lines before it: what stands in the bytes that its end sent up to it, without what stood there before.
abbrev pub completed : List Line → Line → List Found
completed before line = drop (length (found (sent_by line.sender before))) (found (sent_by line.sender (before ++ line ∷ [])))

unfoldable pub items_after : List Line → List Line → List Item
items_after before [] = []
items_after before (line ∷ lines) = map (item_at (length before + 1) line.sender) (completed before line) ++ items_after (before ++ line ∷ []) lines

abbrev pub items_of : List Line → List Item
items_of capture = items_after [] capture

-- what the items of an end are
abbrev pub found_of : Sender → List Item → List Found
found_of sender items = flat_map (λ item. if is_same sender item.sender then item.found ∷ [] else []) items

-- ---- the same as a relation

-- The item stands in its line: it is the k-th, from 0, of what its end sent in the lines up to that one, and was not yet there before that line.
pub record StandsIn (capture : List Line) (item : Item) (k : ℕ) : Type 0 where
  pub before : List Line
  pub line : Line
  pub after : List Line
  pub lines_are : capture ≡ before ++ line ∷ after
  pub number_is : item.line ≡ length before + 1
  pub first : List Found
  pub rest : List Found
  pub there : found (sent_by item.sender (before ++ line ∷ [])) ≡ first ++ item.found ∷ rest
  pub place : length first ≡ k
  pub not_yet : length (found (sent_by item.sender before)) ≤ k

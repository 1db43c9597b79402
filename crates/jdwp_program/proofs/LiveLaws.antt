-- What is told of a capture while it is written.
use Rattle.std.proofs.Common.{◌≡◌, ◌∙◌, ℕ, List, [], ◌++◌, length, take, false, refl, Option, Some, None, Result, Ok, Err, sym, ap, subst, append_assoc, append-nil, arith}
use Rattle.std.proofs.lemmas.List.{take_all}
use Rattle.std.specs.Prelude.{is_some}
use Rattle.std.specs.Io.KnownBytes.{Appends}
use Rattle.jdwp_wire.specs.Streams.{IsFront}
use Rattle.jdwp_judge.specs.CaptureJudges.{fault_so_far, finished_after}
use Rattle.jdwp_show.specs.declared.table.Table.{Table}
use Rattle.jdwp_show.specs.declared.table.Table.TheVariants.{Standard, Jdi}
use Rattle.jdwp_show.specs.Items.{items_after}
use Rattle.jdwp_show.specs.Sessions.{first_after, unanswered}
use Rattle.jdwp_program.specs.Captures.{shown_text_under}
use Rattle.jdwp_program.specs.Live.{IsShowing}
use Rattle.jdwp_program.specs.Printing.{AppendsPart, AppendsSome}
use Rattle.jdwp_program.specs.Streaming.{ShowsRead}
use Rattle.jdwp_program.specs.declared.captures.Told.{Told}
use Rattle.jdwp_program.specs.declared.captures.Told.TheVariants.{Faultless, Faulty, Unread}
use Rattle.jdwp_program.specs.declared.live.LiveShow.{LiveShow}
use Rattle.jdwp_program.specs.declared.live.LiveShow.TheVariants.{Going, Ended}
use Rattle.jdwp_program.specs.declared.streaming.StreamFault.{StreamFault}
use Rattle.jdwp_program.specs.declared.streaming.StreamFault.TheVariants.{Input, Output, NoMemory}
use Rattle.jdwp_program.proofs.StreamLaws.{starves}

pub whole_front : (text : List ℕ) → IsFront text text
whole_front text = ([], sym (append-nil text))

-- of a text with more behind it, too
pub front_on : (front text bytes : List ℕ) → IsFront front text → IsFront front (text ++ bytes)
front_on front text bytes is = (is.0 ++ bytes, ap (λ (l : List ℕ). l ++ bytes) is.1 ∙ append_assoc front is.0 bytes)

pub ended_on : (table : Table) (result : Result Told StreamFault) (text bytes : List ℕ) (start now : Option (List ℕ)) → IsShowing table (Ended result) text start now → IsShowing table (Ended result) (text ++ bytes) start now
ended_on table result text bytes start now (front, (is, shows), told) = (front, (front_on front text bytes is, shows), told)

-- of no text no fault is known
pub no_fault : (table : Table) → fault_so_far table [] ≡ None
unfolding finished_after items_after first_after unanswered
no_fault Standard = refl
no_fault Jdi = refl

pub not_some : {T : Type 0} (o : Option T) → is_some o ≡ false → o ≡ None
not_some None is = refl
not_some (Some x) is = absurd cc

-- ---- what was printed is a beginning of a capture in words

pub part_some : (old new : Option (List ℕ)) (text : List ℕ) → AppendsPart old new text → AppendsSome old new text
part_some old new text (count, less, some) = (count, some)

all_some : (old new : Option (List ℕ)) (text : List ℕ) → Appends old new text → AppendsSome old new text
all_some old new text all = (length text, subst (λ (l : List ℕ). Appends old new l) (sym (take_all (length text) text (omega arith))) all)

pub read_some : (table : Table) (capture : List ℕ) (start now : Option (List ℕ)) (result : Result Told StreamFault) → ShowsRead table capture start now result → AppendsSome start now (shown_text_under table capture)
read_some table capture start now (Ok Faultless) s = all_some start now (shown_text_under table capture) s.1
read_some table capture start now (Ok Faulty) s = all_some start now (shown_text_under table capture) s.1
read_some table capture start now (Ok Unread) s = part_some start now (shown_text_under table capture) s
read_some table capture start now (Err (Input error)) s = starves table capture start now s
read_some table capture start now (Err (Output error)) s = part_some start now (shown_text_under table capture) s
read_some table capture start now (Err NoMemory) s = s

pub showing_some : (table : Table) (show : LiveShow) (text : List ℕ) (start now : Option (List ℕ)) → IsShowing table show text start now → (capture : List ℕ) × AppendsSome start now (shown_text_under table capture)
showing_some table (Going judge) text start now (heard, told, none) = (text, starves table text start now told)
showing_some table (Ended result) text start now (front, (is, shows), told) = (front, read_some table front start now result shows)

-- What a recorder leaves, session by session.
use Rattle.std.proofs.Common.{◌≡◌, ℕ, ◌+◌, ◌<◌, List, [], ◌∷◌, ◌++◌, length, take, length-append, append-nil, Bool, true, false, Option, Some, None, Result, Ok, Err, inl, inr, refl, sym, subst, arith}
use Rattle.std.specs.Bool.{then_some}
use Rattle.std.specs.Result.{IsErr, IsErrAnd}
use Rattle.std.specs.Io.KnownBytes.{Appends, Keeps}
use Rattle.std.proofs.KnownBytes.{Appends-nil, Appends-kept, Appends-trans}
use Rattle.std.proofs.lemmas.Grind.{flat_map-append}
use Rattle.std.proofs.Math.Seq.{take-append-add}
use Rattle.jdwp_relay.specs.declared.relay.RelayFault.{RelayFault}
use Rattle.jdwp_relay.specs.declared.relay.RelayFault.TheVariants as relay
use Rattle.jdwp_record.specs.declared.faults.RecordFault.{RecordFault}
use Rattle.jdwp_record.specs.Faults.{IsBrokenOff}
use Rattle.jdwp_show.specs.declared.table.Table.TheVariants.{Standard}
use Rattle.jdwp_program.specs.declared.captures.Told.{Told}
use Rattle.jdwp_program.specs.declared.captures.Told.TheVariants.{Faultless, Faulty, Unread}
use Rattle.jdwp_program.specs.declared.captures.TellFault.{TellFault}
use Rattle.jdwp_program.specs.declared.captures.TellFault.TheVariants.{Output, NoMemory}
use Rattle.jdwp_program.specs.declared.fault.Fault.{Fault}
use Rattle.jdwp_program.specs.declared.live.LiveShow.{LiveShow}
use Rattle.jdwp_program.specs.declared.streaming.StreamFault.{StreamFault}
use Rattle.jdwp_program.specs.declared.outcome.Outcome.{Outcome}
use Rattle.jdwp_program.specs.declared.outcome.Outcome.TheVariants.{Capture}
use Rattle.jdwp_program.specs.Captures.{shown_text}
use Rattle.jdwp_program.specs.Files.{fault_of_recorder, fault_of_telling}
use Rattle.jdwp_program.specs.Live.{IsShowing, ShowsWritten}
use Rattle.jdwp_program.specs.Listening.{TellsListening, listening_line}
use Rattle.jdwp_program.specs.Outputs.{Leaves, LeavesCaptureTold, LeavesLive, LeavesOutcome, LeavesSession, LeavesSessions, LeavesShown, LeavesText, shown_texts}
use Rattle.jdwp_program.specs.Printing.{AppendsPart, AppendsSome}
use Rattle.jdwp_program.specs.Statuses.{status_of_fault, status_of_outcome}
use Rattle.jdwp_program.proofs.LiveLaws.{part_some, read_some, showing_some}

-- ---- one behind the other

-- all of a text, and then another or a beginning of it
text_behind : (status : ℕ) (first second : List ℕ) (old mid new : Option (List ℕ)) → Appends old mid first → LeavesText status second mid new → LeavesText status (first ++ second) old new
text_behind status first second old mid new all (inl more) = inl (Appends-trans old mid new first second all more)
text_behind status first second old mid new all (inr (above, (count, more))) =
    inr (above, (length first + count, subst (λ text. Appends old new text) (sym (take-append-add first second count)) (Appends-trans old mid new first (take count second) all more)))

-- behind captures that were shown others are
pub shown_behind : (status : ℕ) (shown : List (List ℕ)) (old mid new : Option (List ℕ)) → Appends old mid (shown_texts shown) → LeavesShown status mid new → LeavesShown status old new
shown_behind status shown old mid new all (captures, more) =
    (shown ++ captures, subst (λ text. LeavesText status text old new) (sym (flat_map-append shown_text shown captures)) (text_behind status (shown_texts shown) (shown_texts captures) old mid new all more))

-- the same of those that were shown whole
pub shown_more : (shown more : List (List ℕ)) (old mid new : Option (List ℕ)) → Appends old mid (shown_texts shown) → Appends mid new (shown_texts more) → Appends old new (shown_texts (shown ++ more))
shown_more shown more old mid new first second =
    subst (λ text. Appends old new text) (sym (flat_map-append shown_text shown more)) (Appends-trans old mid new (shown_texts shown) (shown_texts more) first second)

-- behind the line of a port captures are shown
pub line_behind : (port status : ℕ) (old mid new : Option (List ℕ)) → Appends old mid (listening_line port) → LeavesShown status mid new → Leaves status old new
line_behind port status old mid new all (captures, more) =
    inr (inr (inr (inl (port, captures, text_behind status (listening_line port) (shown_texts captures) old mid new all more))))

-- the same by what all sessions led to
pub sessions_behind : (port : ℕ) (old mid new : Option (List ℕ)) (result : Result Outcome Fault) → Appends old mid (listening_line port) → LeavesSessions result mid new → LeavesOutcome result old new
sessions_behind port old mid new (Ok outcome) all more = line_behind port (status_of_outcome outcome) old mid new all more
sessions_behind port old mid new (Err fault) all more = line_behind port (status_of_fault fault) old mid new all more

-- nothing is shown
pub none_shown : (status : ℕ) (x : Option (List ℕ)) → LeavesShown status x x
none_shown status x = ([], inl (Appends-nil x))

-- ---- one session

one_text : (capture : List ℕ) → shown_texts (capture ∷ []) ≡ shown_text capture
one_text capture = append-nil (shown_text capture)

-- where the first session is the last, this is the outcome
pub outcome_of_last : (once : Bool) (outcome : Outcome) (captures : List (List ℕ)) (old new : Option (List ℕ)) → Appends old new (shown_texts captures)
    → LeavesSession (Ok (then_some once outcome)) old new
outcome_of_last true outcome captures old new all = (captures, inl all)
outcome_of_last false outcome captures old new all = (captures, all)

one_shown : (capture : List ℕ) (old new : Option (List ℕ)) → Appends old new (shown_text capture) → Appends old new (shown_texts (capture ∷ []))
one_shown capture old new all = subst (λ text. Appends old new text) (sym (one_text capture)) all

one_begun : (capture : List ℕ) (old new : Option (List ℕ)) → AppendsSome old new (shown_text capture) → AppendsSome old new (shown_texts (capture ∷ []))
one_begun capture old new some = subst (λ text. AppendsSome old new text) (sym (one_text capture)) some

-- a beginning of it was shown
pub begun_shown : (status : ℕ) (capture : List ℕ) (old new : Option (List ℕ)) → 1 < status → AppendsSome old new (shown_text capture) → LeavesShown status old new
begun_shown status capture old new above some = (capture ∷ [], inr (above, one_begun capture old new some))

-- it was shown while it went on
pub live_last : (once : Bool) (told : Told) (old new : Option (List ℕ)) → LeavesLive (Ok told) old new → (told ≡ Unread → ⊥) → LeavesSession (Ok (then_some once (Capture told))) old new
live_last once Faultless old new (capture, all) read = outcome_of_last once (Capture Faultless) (capture ∷ []) old new (one_shown capture old new all)
live_last once Faulty old new (capture, all) read = outcome_of_last once (Capture Faulty) (capture ∷ []) old new (one_shown capture old new all)
live_last once Unread old new shown read = absurd (read refl)

-- it was not shown to its end
pub err_live : (why : Fault) (result : Result (Option Outcome) Fault) (old new : Option (List ℕ)) → IsErrAnd result (λ fault. fault ≡ why) → LeavesLive (Err why) old new → LeavesSession result old new
err_live why (Ok outcome) old new is shown = absurd is
err_live why (Err fault) old new is shown = subst (λ (f : Fault). LeavesShown (status_of_fault f) old new) (sym is) shown

-- a session that is over, by what came of the last print
pub live_ends : (told : Told) (text : List ℕ) (start new : Option (List ℕ)) → ShowsWritten Standard text start new (Ok told) → LeavesLive (Ok told) start new
live_ends Faultless text start new (front, (is, shows), why) = (front, shows.1)
live_ends Faulty text start new (front, (is, shows), why) = (front, shows.1)
live_ends Unread text start new (front, (is, shows), why) = begun_shown 2 front start new (omega arith) (part_some start new (shown_text front) shows)

pub live_fails : (why : StreamFault) (status : ℕ) (text : List ℕ) (start new : Option (List ℕ)) → 1 < status → ShowsWritten Standard text start new (Err why) → LeavesShown status start new
live_fails why status text start new above (front, (is, shows), told) = begun_shown status front start new above (read_some Standard front start new (Err why) shows)

-- a session that was broken off
pub live_broken : (why : RelayFault) (fault : RecordFault) (show : LiveShow) (text : List ℕ) (start now : Option (List ℕ)) → IsBrokenOff why fault → IsShowing Standard show text start now → LeavesShown (status_of_fault (fault_of_recorder fault)) start now
live_broken (relay.Capture error) fault show text start now (file, is) shows = let begun = showing_some Standard show text start now shows in rw is (begun_shown 2 begun.0 start now (omega arith) begun.1)
live_broken (relay.Waiting error) fault show text start now (file, is) shows = let begun = showing_some Standard show text start now shows in rw is (begun_shown 2 begun.0 start now (omega arith) begun.1)

-- nothing was shown of it
pub err_untouched : (result : Result (Option Outcome) Fault) (x : Option (List ℕ)) → IsErr result → LeavesSession result x x
err_untouched (Ok outcome) x is = absurd (let e : false ≡ true = is in cc)
err_untouched (Err fault) x is = none_shown (status_of_fault fault) x

-- ---- the line of a port

keeps_same : (x : Option (List ℕ)) → Keeps x x
keeps_same None = tt
keeps_same (Some xs) = refl

-- nothing was told of a capture
pub untold_capture : (result : Result Told Fault) (x : Option (List ℕ)) → LeavesCaptureTold result x x
untold_capture (Ok told) x = inl (keeps_same x)
untold_capture (Err fault) x = inl (keeps_same x)

-- the line was told, and nothing behind it
pub line_alone : (port : ℕ) (old new : Option (List ℕ)) (result : Result Outcome Fault) → Appends old new (listening_line port) → LeavesOutcome result old new
line_alone port old new (Ok outcome) all = line_behind port (status_of_outcome outcome) old new new all (none_shown (status_of_outcome outcome) new)
line_alone port old new (Err fault) all = line_behind port (status_of_fault fault) old new new all (none_shown (status_of_fault fault) new)

line_begun : (port : ℕ) (old new : Option (List ℕ)) → AppendsPart old new (listening_line port) → Leaves 2 old new
line_begun port old new part =
    inr (inr (inr (inl (port, [], inr (omega arith, subst (λ text. AppendsSome old new text) (sym (append-nil (listening_line port))) (part_some old new (listening_line port) part))))))

line_untold : (port : ℕ) (why : TellFault) (old new : Option (List ℕ)) → TellsListening port old new (Err why) → Leaves (status_of_fault (fault_of_telling why)) old new
line_untold port (Output error) old new tells = line_begun port old new tells
line_untold port NoMemory old new tells = inl tells

-- the line was not told whole
pub err_line : (port : ℕ) (why : TellFault) (result : Result Outcome Fault) (old new : Option (List ℕ)) → IsErrAnd result (λ fault. fault ≡ fault_of_telling why)
    → TellsListening port old new (Err why) → LeavesOutcome result old new
err_line port why (Ok outcome) old new is tells = absurd is
err_line port why (Err fault) old new is tells = subst (λ (f : Fault). Leaves (status_of_fault f) old new) (sym is) (line_untold port why old new tells)

-- a session ended all behind captures that were shown
pub err_behind : (shown : List (List ℕ)) (why : Fault) (result : Result Outcome Fault) (old mid new : Option (List ℕ)) → Appends old mid (shown_texts shown)
    → LeavesShown (status_of_fault why) mid new → IsErrAnd result (λ fault. fault ≡ why) → LeavesSessions result old new
err_behind shown why (Ok outcome) old mid new all more is = absurd is
err_behind shown why (Err fault) old mid new all more is =
    subst (λ (f : Fault). LeavesShown (status_of_fault f) old new) (sym is) (shown_behind (status_of_fault why) shown old mid new all more)

-- Of what is under way, what one call keeps.
use Rattle.std.proofs.Common.{◌≡◌, ◌⊎◌, inl, inr, ℕ, ◌≤◌, List, [], ◌∷◌, ◌++◌, take, drop, Bool, true, false, Option, Result, Ok, Err, refl, sym, ap, ◌∙◌, append_assoc, take-append-drop}
use Rattle.std.specs.Prelude.{◌&&◌, length, nat_lt, if◌then◌else◌}
use Rattle.jdwp_relay.specs.declared.duct.Stage.{Stage}
use Rattle.jdwp_relay.specs.declared.duct.Stage.TheVariants as stage
use Rattle.jdwp_show.specs.declared.capture_line.Sender.{Sender}
use Rattle.jdwp_relay.specs.declared.sides.Came.{Came}
use Rattle.jdwp_relay.specs.declared.sides.Came.TheVariants as came
use Rattle.jdwp_relay.specs.declared.sides.Ending.{Ending}
use Rattle.jdwp_relay.specs.declared.sides.Ending.TheVariants.{HalfClose, Reset}
use Rattle.jdwp_relay.specs.declared.sides.Took.{Took}
use Rattle.jdwp_relay.specs.declared.sides.Took.TheVariants as took
use Rattle.jdwp_relay.specs.Ducts.{Drains, Ends, HandsOn, TakesIn}
use Rattle.jdwp_relay.specs.Flows.{Inflow, Outflow, asked, offered}
use Rattle.jdwp_relay.specs.Passages.{HasEnded, IsEndingOf, IsPassed, Passage, hands_on, is_open, is_some_byte, is_under_way, reads_on, room, turned}

-- ---- by the stage

open_and : (a b : Bool) → (a && b) ≡ true → a ≡ true
open_and true b e = refl
open_and false b e = absurd cc

-- at an open direction what waits does not count
ended_open : (s : Stage) (old new : List ℕ) (told endings : List Ending) → is_open s ≡ true → HasEnded s old told endings → HasEnded s new told endings
ended_open stage.Open old new told endings on h = h
ended_open (stage.Ending ending) old new told endings on h = absurd cc
ended_open (stage.Ended ending) old new told endings on h = absurd cc
ended_open stage.Broken old new told endings on h = absurd cc

none_told : (s : Stage) (waiting : List ℕ) (told endings : List Ending) → is_open s ≡ true → HasEnded s waiting told endings → (told ≡ []) × (endings ≡ [])
none_told stage.Open waiting told endings on h = h
none_told (stage.Ending ending) waiting told endings on h = absurd cc
none_told (stage.Ended ending) waiting told endings on h = absurd cc
none_told stage.Broken waiting told endings on h = absurd cc

ended_under_way : (s : Stage) (old new : List ℕ) (told endings : List Ending) → is_under_way s ≡ true → HasEnded s old told endings → HasEnded s new told endings
ended_under_way stage.Open old new told endings on h = h
ended_under_way (stage.Ending ending) old new told endings on h = h
ended_under_way (stage.Ended ending) old new told endings on h = absurd cc
ended_under_way stage.Broken old new told endings on h = absurd cc

none_handed : (s : Stage) (waiting : List ℕ) (told endings : List Ending) → is_under_way s ≡ true → HasEnded s waiting told endings → endings ≡ []
none_handed stage.Open waiting told endings on h = h.1
none_handed (stage.Ending ending) waiting told endings on h = h.1
none_handed (stage.Ended ending) waiting told endings on h = absurd cc
none_handed stage.Broken waiting told endings on h = absurd cc

-- ---- reading

pub bytes_asked : (b : Bool) (flow : Inflow) → (if b then asked flow else flow).bytes ≡ flow.bytes
bytes_asked true flow = refl
bytes_asked false flow = refl

endings_asked : (b : Bool) (flow : Inflow) → (if b then asked flow else flow).endings ≡ flow.endings
endings_asked true flow = refl
endings_asked false flow = refl

more_wait : (source went waiting fresh : List ℕ) → source ≡ went ++ waiting → source ++ fresh ≡ went ++ (waiting ++ fresh)
more_wait source went waiting fresh e = ap (λ xs. xs ++ fresh) e ∙ append_assoc went waiting fresh

pub passed_by_reading : {E : Type 0} (old : Passage) (before : Inflow) (text : Option (List ℕ)) (result : Result Came E) (new : Passage) (after : Inflow) (written : Option (List ℕ))
    → TakesIn old before text result new after written → (sink : Outflow) → IsPassed before sink old → IsPassed after sink new
passed_by_reading old before text (Ok (came.Bytes n)) new after written (on, fresh, many, comes, appends) sink p =
    rw (comes.waits, comes.came) (record {
      conserved = more_wait before.bytes sink.bytes old.waiting fresh p.conserved;
      ended = ended_open old.stage old.waiting (old.waiting ++ fresh) before.endings sink.endings (open_and (is_open old.stage) (nat_lt (length old.waiting) room) on) p.ended;
    })
passed_by_reading old before text (Ok came.Nothing) new after written (same, asks, keeps) sink p =
    rw (same, asks) (record { conserved = rw (bytes_asked (reads_on old) before) p.conserved; ended = rw (endings_asked (reads_on old) before) p.ended })
passed_by_reading old before text (Ok (came.Ended ending)) new after written (on, ends, told, keeps) sink p =
    let none = none_told old.stage old.waiting before.endings sink.endings (open_and (is_open old.stage) (nat_lt (length old.waiting) room) on) p.ended in
    rw (ends, told) (record { conserved = p.conserved; ended = (inl (ap (λ xs. xs ++ ending ∷ []) none.0), none.1) })
passed_by_reading old before text (Err e) new after written (on, fresh, mid, comes, broken, appends) sink p =
    let none = none_told old.stage old.waiting before.endings sink.endings (open_and (is_open old.stage) (nat_lt (length old.waiting) room) on) p.ended in
    rw (broken, comes.waits, comes.came) (record { conserved = more_wait before.bytes sink.bytes old.waiting fresh p.conserved; ended = none.1 })

-- ---- handing on

bytes_offered : (b : Bool) (flow : Outflow) → (if b then offered flow else flow).bytes ≡ flow.bytes
bytes_offered true flow = refl
bytes_offered false flow = refl

endings_offered : (b : Bool) (flow : Outflow) → (if b then offered flow else flow).endings ≡ flow.endings
endings_offered true flow = refl
endings_offered false flow = refl

some_went : (source went waiting : List ℕ) (n : ℕ) → source ≡ went ++ waiting → source ≡ (went ++ take n waiting) ++ drop n waiting
some_went source went waiting n e = e ∙ ap (λ xs. went ++ xs) (sym (take-append-drop n waiting)) ∙ sym (append_assoc went (take n waiting) (drop n waiting))

drained : (old : Passage) (before : Outflow) (took : Took) (new : Passage) (after : Outflow) → Drains old before took new after → (source : Inflow) → IsPassed source before old → IsPassed source after new
drained old before (took.Bytes n) new after (on, some, within, left, went) source p =
    rw (left, went) (record {
      conserved = some_went source.bytes before.bytes old.waiting n p.conserved;
      ended = ended_under_way old.stage old.waiting (drop n old.waiting) source.endings before.endings (open_and (is_under_way old.stage) (is_some_byte old.waiting) on) p.ended;
    })
drained old before took.Nothing new after (same, offers) source p =
    rw (same, offers) (record { conserved = rw (bytes_offered (hands_on old) before) p.conserved; ended = rw (endings_offered (hands_on old) before) p.ended })
drained old before took.Lost new after (on, broken, loses) source p =
    rw (broken, loses) (record { conserved = p.conserved; ended = none_handed old.stage old.waiting source.endings before.endings (open_and (is_under_way old.stage) (is_some_byte old.waiting) on) p.ended })

same_ended : (old : Passage) (before : Outflow) (new : Passage) (after : Outflow) → (new ≡ old) × (after ≡ before) → (source : Inflow) → IsPassed source before old → IsPassed source after new
same_ended old before new after (same, went) source p = rw (same, went) p

ended_by : (sender : Sender) (waiting : List ℕ) (s : Stage) (before : Outflow) (new : Passage) (after : Outflow) → Ends (record { sender = sender; waiting = waiting; stage = s }) before new after
    → (source : Inflow) → IsPassed source before (record { sender = sender; waiting = waiting; stage = s }) → IsPassed source after new
ended_by sender [] (stage.Ending ending) before new after (ends, went) source p =
    rw (ends, went) (record { conserved = p.conserved; ended = (p.ended.0, ap (λ xs. xs ++ ending ∷ []) p.ended.1, refl) })
ended_by sender (x ∷ xs) (stage.Ending ending) before new after same source p = same_ended _ before new after same source p
ended_by sender waiting stage.Open before new after same source p = same_ended _ before new after same source p
ended_by sender waiting (stage.Ended ending) before new after same source p = same_ended _ before new after same source p
ended_by sender waiting stage.Broken before new after same source p = same_ended _ before new after same source p

pub passed_by_handing : (old : Passage) (before : Outflow) (moved : Bool) (new : Passage) (after : Outflow) → HandsOn old before moved new after → (source : Inflow)
    → IsPassed source before old → IsPassed source after new
passed_by_handing old before moved new after h source p =
    ended_by h.mid.sender h.mid.waiting h.mid.stage h.between new after h.ends source (drained old before h.took h.mid h.between h.drains source p)

-- ---- a reset in the place of a half-close

reset_of : (told : List Ending) (ending : Ending) → IsEndingOf told ending → IsEndingOf told Reset
reset_of told Reset h = h
reset_of told HalfClose (inl e) = inr (e, refl)
reset_of told HalfClose (inr (e, other)) = absurd cc

turned_by : (sender : Sender) (waiting : List ℕ) (s : Stage) (source : Inflow) (sink : Outflow) → IsPassed source sink (record { sender = sender; waiting = waiting; stage = s })
    → IsPassed source sink (turned (record { sender = sender; waiting = waiting; stage = s }))
turned_by sender waiting stage.Open source sink p = p
turned_by sender waiting (stage.Ending ending) source sink p = record { conserved = p.conserved; ended = (reset_of source.endings ending p.ended.0, p.ended.1) }
turned_by sender waiting (stage.Ended ending) source sink p = p
turned_by sender waiting stage.Broken source sink p = p

pub passed_by_turning : (p : Passage) (source : Inflow) (sink : Outflow) → IsPassed source sink p → IsPassed source sink (turned p)
passed_by_turning p source sink h = turned_by p.sender p.waiting p.stage source sink h

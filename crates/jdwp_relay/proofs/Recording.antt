-- Both directions, and the lines of what came.
use Rattle.std.proofs.Common.{◌≡◌, ◌⊎◌, inl, inr, ℕ, ◌<◌, ◌≤◌, List, [], ◌∷◌, ◌++◌, length, take, Bool, Option, Result, Ok, Err, refl, sym, ap, subst, ◌∙◌, append-nil, arith}
use Rattle.std.specs.Prelude.{All, if◌then◌else◌}
use Rattle.std.specs.Io.KnownBytes.{Appends}
use Rattle.std.proofs.KnownBytes.{Appends-nil, Appends-trans}
use Rattle.std.proofs.lemmas.Grind.{flat_map-append}
use Rattle.std.proofs.lemmas.List.Elements.{All-append, All-cons, All-nil}
use Rattle.jdwp_relay.specs.declared.duct.Stage.{Stage}
use Rattle.jdwp_relay.specs.declared.duct.Stage.TheVariants as stage
use Rattle.jdwp_relay.specs.declared.relay.Relay.{Relay}
use Rattle.jdwp_show.specs.declared.capture_line.Sender.{Sender}
use Rattle.jdwp_show.specs.declared.capture_line.Sender.TheVariants.{Debugger, Target}
use Rattle.jdwp_relay.specs.declared.sides.Came.{Came}
use Rattle.jdwp_relay.specs.declared.sides.Came.TheVariants as came
use Rattle.jdwp_relay.specs.declared.sides.Took.{Took}
use Rattle.jdwp_relay.specs.declared.sides.Took.TheVariants as took
use Rattle.jdwp_relay.specs.Ducts.{Drains, Ends, HandsOn, TakesIn}
use Rattle.jdwp_relay.specs.Flows.{Inflow, Outflow}
use Rattle.jdwp_show.specs.Lines.{Line, is_same, sent_by}
use Rattle.jdwp_relay.specs.LineText.{line_text, lines_text}
use Rattle.jdwp_relay.specs.Passages.{IsPassed, Passage, reads_on}
use Rattle.jdwp_relay.specs.Relays.{Crossing, HasTurned, IsCovered, IsRecorded, IsRelaying, Passes, PassesUp, PassesDown, heeding}
use Rattle.jdwp_relay.proofs.Passing.{bytes_asked, passed_by_handing, passed_by_reading, passed_by_turning}

-- ---- the sender stays

sender_read : {E : Type 0} (old : Passage) (before : Inflow) (text : Option (List ℕ)) (result : Result Came E) (new : Passage) (after : Inflow) (written : Option (List ℕ))
    → TakesIn old before text result new after written → new.sender ≡ old.sender
sender_read old before text (Ok (came.Bytes n)) new after written (on, fresh, many, comes, appends) = ap (λ p. p.sender) comes.waits
sender_read old before text (Ok came.Nothing) new after written (same, asks, keeps) = ap (λ p. p.sender) same
sender_read old before text (Ok (came.Ended ending)) new after written (on, ends, told, keeps) = ap (λ p. p.sender) ends
sender_read old before text (Err e) new after written (on, fresh, mid, comes, broken, appends) = ap (λ p. p.sender) broken ∙ ap (λ p. p.sender) comes.waits

sender_heeding : (other : Stage) (p : Passage) → (heeding other p).sender ≡ p.sender
sender_heeding stage.Broken p = refl
sender_heeding stage.Open p = refl
sender_heeding (stage.Ending ending) p = refl
sender_heeding (stage.Ended ending) p = refl

sender_drained : (old : Passage) (before : Outflow) (took : Took) (new : Passage) (after : Outflow) → Drains old before took new after → new.sender ≡ old.sender
sender_drained old before (took.Bytes n) new after (on, some, within, left, went) = ap (λ p. p.sender) left
sender_drained old before took.Nothing new after (same, offers) = ap (λ p. p.sender) same
sender_drained old before took.Lost new after (on, broken, loses) = ap (λ p. p.sender) broken

sender_ended : (sender : Sender) (waiting : List ℕ) (s : Stage) (before : Outflow) (new : Passage) (after : Outflow) → Ends (record { sender = sender; waiting = waiting; stage = s }) before new after → new.sender ≡ sender
sender_ended sender [] (stage.Ending ending) before new after (ends, went) = ap (λ p. p.sender) ends
sender_ended sender (x ∷ xs) (stage.Ending ending) before new after (same, went) = ap (λ p. p.sender) same
sender_ended sender waiting stage.Open before new after (same, went) = ap (λ p. p.sender) same
sender_ended sender waiting (stage.Ended ending) before new after (same, went) = ap (λ p. p.sender) same
sender_ended sender waiting stage.Broken before new after (same, went) = ap (λ p. p.sender) same

sender_handed : (old : Passage) (before : Outflow) (moved : Bool) (new : Passage) (after : Outflow) → HandsOn old before moved new after → new.sender ≡ old.sender
sender_handed old before moved new after h =
    sender_ended h.mid.sender h.mid.waiting h.mid.stage h.between new after h.ends ∙ sender_drained old before h.took h.mid h.between h.drains

sender_passed : {E : Type 0} (old : Passage) (other : Stage) (before : Inflow) (taken : Outflow) (text : Option (List ℕ)) (result : Result Bool E) (new : Passage) (after : Inflow) (given : Outflow) (written : Option (List ℕ))
    → Passes old other before taken text result new after given written → new.sender ≡ old.sender
sender_passed {E = E} old other before taken text (Ok moved) new after given written h =
    sender_handed (heeding other h.mid) taken h.handed new given h.hands ∙ (sender_heeding other h.mid ∙ sender_read {E = E} old before text (Ok h.came) h.mid after written h.takes)
sender_passed {E = E} old other before taken text (Err e) new after given written h = sender_read {E = E} old before text (Err e) new after written h.0

-- ---- what came is what went and what waits

passed_by_heeding : (other : Stage) (p : Passage) (source : Inflow) (sink : Outflow) → IsPassed source sink p → IsPassed source sink (heeding other p)
passed_by_heeding stage.Broken p source sink h = passed_by_turning p source sink h
passed_by_heeding stage.Open p source sink h = h
passed_by_heeding (stage.Ending ending) p source sink h = h
passed_by_heeding (stage.Ended ending) p source sink h = h

passed_on : {E : Type 0} (old : Passage) (other : Stage) (before : Inflow) (taken : Outflow) (text : Option (List ℕ)) (result : Result Bool E) (new : Passage) (after : Inflow) (given : Outflow) (written : Option (List ℕ))
    → Passes old other before taken text result new after given written → IsPassed before taken old → IsPassed after given new
passed_on {E = E} old other before taken text (Ok moved) new after given written h p =
    let read = passed_by_reading {E = E} old before text (Ok h.came) h.mid after written h.takes taken p in
    passed_by_handing (heeding other h.mid) taken h.handed new given h.hands after (passed_by_heeding other h.mid after taken read)
passed_on {E = E} old other before taken text (Err e) new after given written h p =
    let read = passed_by_reading {E = E} old before text (Err e) new after written h.0 taken p in
    rw h.1 read

-- ---- lines

-- a line of these bytes, none of no bytes
abbrev added : Sender → List ℕ → List Line
added sender [] = []
added sender (x ∷ xs) = record { sender = sender; bytes = x ∷ xs } ∷ []

-- what was read in a call is what the lines that it wrote hold
record Notes (sender : Sender) (before after : Inflow) (text written : Option (List ℕ)) : Type 0 where
  pub fresh : List ℕ
  pub came : after.bytes ≡ before.bytes ++ fresh
  pub grown : Appends text written (lines_text (added sender fresh))

line_added : (sender : Sender) (fresh : List ℕ) → 0 < length fresh → lines_text (added sender fresh) ≡ line_text sender fresh
line_added sender [] some = absurd (omega arith)
line_added sender (x ∷ xs) some = append-nil (line_text sender (x ∷ xs))

notes_kept : (sender : Sender) (before after : Inflow) (text written : Option (List ℕ)) → after.bytes ≡ before.bytes → written ≡ text → Notes sender before after text written
notes_kept sender before after text written same keeps = record {
  fresh = [];
  came = same ∙ sym (append-nil before.bytes);
  grown = rw keeps (Appends-nil text);
}

notes : (E : Type 0) (old : Passage) (before : Inflow) (text : Option (List ℕ)) (came : Came) (new : Passage) (after : Inflow) (written : Option (List ℕ))
    → TakesIn {E = E} old before text (Ok came) new after written → Notes old.sender before after text written
notes E old before text (came.Bytes n) new after written (on, fresh, many, comes, appends) = record {
  fresh = fresh;
  came = ap (λ flow. flow.bytes) comes.came;
  grown = subst (λ line. Appends text written line) (sym (line_added old.sender fresh comes.some)) appends;
}
notes E old before text came.Nothing new after written (same, asks, keeps) =
    notes_kept old.sender before after text written (ap (λ flow. flow.bytes) asks ∙ bytes_asked (reads_on old) before) keeps
notes E old before text (came.Ended ending) new after written (on, ends, told, keeps) =
    notes_kept old.sender before after text written (ap (λ flow. flow.bytes) told) keeps

all_added : (sender : Sender) (fresh : List ℕ) → All (λ line. 0 < length line.bytes) (added sender fresh)
all_added sender [] = All-nil (λ line. 0 < length line.bytes)
all_added sender (x ∷ xs) =
    let line : Line = record { sender = sender; bytes = x ∷ xs } in
    All-cons (λ line. 0 < length line.bytes) line [] (omega arith) (All-nil (λ line. 0 < length line.bytes))

sent_added : (who sender : Sender) (fresh : List ℕ) → sent_by who (added sender fresh) ≡ (if is_same who sender then fresh else [])
sent_added Debugger Debugger [] = refl
sent_added Debugger Debugger (x ∷ xs) = append-nil (x ∷ xs)
sent_added Debugger Target [] = refl
sent_added Debugger Target (x ∷ xs) = refl
sent_added Target Debugger [] = refl
sent_added Target Debugger (x ∷ xs) = refl
sent_added Target Target [] = refl
sent_added Target Target (x ∷ xs) = append-nil (x ∷ xs)

text_added : (start text written : Option (List ℕ)) (lines more : List Line) → Appends start text (lines_text lines) → Appends text written (lines_text more) → Appends start written (lines_text (lines ++ more))
text_added start text written lines more first second =
    subst (λ bytes. Appends start written bytes) (sym (flat_map-append (λ (line : Line). line_text line.sender line.bytes) lines more)) (Appends-trans start text written (lines_text lines) (lines_text more) first second)

sent_more : (who sender : Sender) (lines : List Line) (fresh bytes : List ℕ) → sent_by who lines ≡ bytes → sent_by who (lines ++ added sender fresh) ≡ bytes ++ (if is_same who sender then fresh else [])
sent_more who sender lines fresh bytes e =
    flat_map-append (λ (line : Line). if is_same who line.sender then line.bytes else []) lines (added sender fresh) ∙ (ap (λ xs. xs ++ sent_by who (added sender fresh)) e ∙ ap (λ xs. bytes ++ xs) (sent_added who sender fresh))

-- ---- between the two directions of a turn

abbrev between : Crossing → Crossing → Option (List ℕ) → Crossing
between before after text = record {
  from_debugger = after.from_debugger;
  to_target = after.to_target;
  from_target = before.from_target;
  to_debugger = before.to_debugger;
  text = text;
}

abbrev relay_between : Relay → Relay → Relay
relay_between old new = record { from_debugger = new.from_debugger; from_target = old.from_target }

relaying_up : {E : Type 0} (old new : Relay) (before after : Crossing) (result : Result Bool E) (text : Option (List ℕ)) → PassesUp old before result new after text → IsRelaying old before
    → IsRelaying (relay_between old new) (between before after text)
relaying_up old new before after result text h r = record {
  debugger = sender_passed old.from_debugger old.from_target.stage before.from_debugger before.to_target before.text result new.from_debugger after.from_debugger after.to_target text h ∙ r.debugger;
  target = r.target;
  up = passed_on old.from_debugger old.from_target.stage before.from_debugger before.to_target before.text result new.from_debugger after.from_debugger after.to_target text h r.up;
  down = r.down;
}

relaying_down : {E : Type 0} (old new : Relay) (before after : Crossing) (result : Result Bool E) (text : Option (List ℕ))
    → Passes old.from_target new.from_debugger.stage before.from_target before.to_debugger text result new.from_target after.from_target after.to_debugger after.text
    → IsRelaying (relay_between old new) (between before after text) → IsRelaying new after
relaying_down old new before after result text h r = record {
  debugger = r.debugger;
  target = sender_passed old.from_target new.from_debugger.stage before.from_target before.to_debugger text result new.from_target after.from_target after.to_debugger after.text h ∙ r.target;
  up = r.up;
  down = passed_on old.from_target new.from_debugger.stage before.from_target before.to_debugger text result new.from_target after.from_target after.to_debugger after.text h r.down;
}

recorded_up : {E : Type 0} (start : Option (List ℕ)) (old new : Relay) (before after : Crossing) (moved : Bool) (text : Option (List ℕ)) → PassesUp {E = E} old before (Ok moved) new after text
    → IsRelaying old before → IsRecorded start before → IsRecorded start (between before after text)
recorded_up {E = E} start old new before after moved text h r d =
    let n = notes E old.from_debugger before.from_debugger before.text h.came h.mid after.from_debugger text h.takes in
    let more : List Line = added Debugger n.fresh in record {
      lines = d.lines ++ more;
      text = text_added start before.text text d.lines more d.text (subst (λ sender. Appends before.text text (lines_text (added sender n.fresh))) r.debugger n.grown);
      debugger = sent_more Debugger Debugger d.lines n.fresh before.from_debugger.bytes d.debugger ∙ sym n.came;
      target = sent_more Target Debugger d.lines n.fresh before.from_target.bytes d.target ∙ append-nil before.from_target.bytes;
      some = All-append (λ line. 0 < length line.bytes) d.lines more d.some (all_added Debugger n.fresh);
    }

recorded_down : {E : Type 0} (start : Option (List ℕ)) (old new : Relay) (before after : Crossing) (moved : Bool) (text : Option (List ℕ)) → PassesDown {E = E} old before (Ok moved) new after text
    → IsRelaying old before → IsRecorded start (between before after text) → IsRecorded start after
recorded_down {E = E} start old new before after moved text h r d =
    let n = notes E old.from_target before.from_target text h.came h.mid after.from_target after.text h.takes in
    let more : List Line = added Target n.fresh in record {
      lines = d.lines ++ more;
      text = text_added start text after.text d.lines more d.text (subst (λ sender. Appends text after.text (lines_text (added sender n.fresh))) r.target n.grown);
      debugger = sent_more Debugger Target d.lines n.fresh after.from_debugger.bytes d.debugger ∙ append-nil after.from_debugger.bytes;
      target = sent_more Target Target d.lines n.fresh before.from_target.bytes d.target ∙ sym n.came;
      some = All-append (λ line. 0 < length line.bytes) d.lines more d.some (all_added Target n.fresh);
    }

-- ---- a turn

pub relaying : {E : Type 0} (old : Relay) (before : Crossing) (result : Result Bool E) (new : Relay) (after : Crossing) → HasTurned old before result new after → IsRelaying old before → IsRelaying new after
relaying {E = E} old before (Ok moved) new after (up, down, text, passes-up, passes-down, told) r =
    relaying_down {E = E} old new before after (Ok down) text passes-down (relaying_up {E = E} old new before after (Ok up) text passes-up r)
relaying {E = E} old before (Err e) new after (inl (fails, still)) r =
    let up = relaying_up {E = E} old new before after (Err e) after.text fails r in record {
      debugger = up.debugger;
      target = ap (λ p. p.sender) still.passage ∙ r.target;
      up = up.up;
      down = rw (still.passage, still.source, still.sink) r.down;
    }
relaying {E = E} old before (Err e) new after (inr (up, text, passes-up, fails)) r =
    relaying_down {E = E} old new before after (Err e) text fails (relaying_up {E = E} old new before after (Ok up) text passes-up r)

pub recorded : {E : Type 0} (start : Option (List ℕ)) (old : Relay) (before : Crossing) (moved : Bool) (new : Relay) (after : Crossing) → HasTurned {E = E} old before (Ok moved) new after → IsRelaying old before
    → IsRecorded start before → IsRecorded start after
recorded {E = E} start old before moved new after (up, down, text, passes-up, passes-down, told) r d =
    recorded_down {E = E} start old new before after down text passes-down r (recorded_up {E = E} start old new before after up text passes-up r d)

-- ---- at each moment

-- a part of a line more, and nothing went since
covered_by : (start : Option (List ℕ)) (relay : Relay) (x y : Crossing) (part : List ℕ) → IsRelaying relay x → IsRecorded start x → y.to_target ≡ x.to_target → y.to_debugger ≡ x.to_debugger → Appends x.text y.text part
    → IsCovered start y
covered_by start relay x y part r d target debugger appends = record {
  lines = d.lines;
  part = part;
  text = Appends-trans start x.text y.text (lines_text d.lines) part d.text appends;
  target = rw target (relay.from_debugger.waiting, d.debugger ∙ r.up.conserved);
  debugger = rw debugger (relay.from_target.waiting, d.target ∙ r.down.conserved);
}

pub covered_behind : (start : Option (List ℕ)) (relay : Relay) (x : Crossing) → IsRelaying relay x → IsRecorded start x → IsCovered start x
covered_behind start relay x r d = covered_by start relay x x [] r d refl refl (Appends-nil x.text)

pub covered : {E : Type 0} (start : Option (List ℕ)) (old : Relay) (before : Crossing) (result : Result Bool E) (new : Relay) (after : Crossing) → HasTurned old before result new after → IsRelaying old before
    → IsRecorded start before → IsCovered start after
covered {E = E} start old before (Ok moved) new after h r d =
    covered_behind start new after (relaying {E = E} old before (Ok moved) new after h r) (recorded {E = E} start old before moved new after h r d)
covered {E = E} start old before (Err e) new after (inl ((takes, same), still)) r d =
    let (on, fresh, mid, comes, broken, (count, appends)) = takes in
    covered_by start old before after (take count (line_text old.from_debugger.sender fresh)) r d same still.sink appends
covered {E = E} start old before (Err e) new after (inr (up, text, passes-up, (takes, same))) r d =
    let (on, fresh, mid, comes, broken, (count, appends)) = takes in
    covered_by start (relay_between old new) (between before after text) after (take count (line_text old.from_target.sender fresh)) (relaying_up {E = E} old new before after (Ok up) text passes-up r)
    (recorded_up {E = E} start old new before after up text passes-up r d) refl same appends

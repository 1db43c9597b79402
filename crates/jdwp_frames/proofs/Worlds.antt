-- What was read of a thread's frames lasts over events that leave it, in the model of a session.
use Rattle.std.proofs.Common.{◌≡◌, ℕ, ◌+◌, ◌-◌, ◌<◌, ◌≤◌, inl, Bool, true, false, not, ◌||◌, Option, Some, None, List, [], ◌∷◌, ◌++◌, refl, sym, ap, subst}
use Rattle.std.specs.List.{list_all}
use Rattle.std.proofs.lemmas.Bool.{cond_both}
use Rattle.jdwp_layout.specs.declared.answer.Answer.{Answer}
use Rattle.jdwp_layout.specs.declared.answer.Answer.TheVariants.{Data}
use Rattle.jdwp_layout.specs.Meanings.{DatumMeaning}
use Rattle.jdwp_end.specs.declared.phase.Phase.{Phase}
use Rattle.jdwp_end.specs.declared.phase.Phase.TheVariants.{AwaitingHandshake, Closed, Established}
use Rattle.jdwp_end.specs.Ends.{is_established_phase}
use Rattle.jdwp_event.specs.Composites.{CompositeMeaning}
use Rattle.jdwp_event.specs.Told.{is_vm_death}
use Rattle.jdwp_machine.specs.Meanings.{Meaning}
use Rattle.jdwp_action.specs.Actions.{Command}
use Rattle.jdwp_debuggee.specs.Effects.{effect}
use Rattle.jdwp_debuggee.specs.Settings.{Settings}
use Rattle.jdwp_debuggee.specs.State.{Moment, count_or_zero}
use Rattle.jdwp_debuggee.specs.Steps.{occurs}
use Rattle.jdwp_mirror.specs.Faults.{Fault, fault_of}
use Rattle.jdwp_mirror.specs.Messages.{Asks, Call, Greets, Handshake, Reply, Report, Ticket, id_sizes}
use Rattle.jdwp_mirror.specs.Mirror.{COUNT_MOST, ends}
use Rattle.jdwp_model.specs.Events
use Rattle.jdwp_model.specs.Events.{AskRefusal, LinkEvent, Outcome}
use Rattle.jdwp_model.specs.Lasting.{StaysTrue, asks_frames_of}
use Rattle.jdwp_model.specs.Next.{answered, answers, ask_by, ask_refusal, asks, carries_out, closes_by, composites_of, debugger_handles, debugger_takes, debugger_turn, debugger_turn_at, defers, defers_or, dies_by, entered, greets_by, has_end, next, reader, reads, reads_composite, reads_reply, releases_at, run, step_ends, steps, steps_now, target_handles, target_takes, target_turn, target_turn_at, with_report}
use Rattle.jdwp_model.specs.Rests.{Rests}
use Rattle.jdwp_model.specs.Seen.{lowers, mirror_held, unanswered}
use Rattle.jdwp_model.specs.World.{Measure, Packet, World, is_closed}
use Rattle.jdwp_model.proofs.Fronts.{by_debugger_front, by_release_front, by_target_front}
use Rattle.jdwp_model.proofs.Keeps.{Inv, keeps, not-greeted}
use Rattle.jdwp_model.proofs.Session.{Links, Sent, alive_along, and-left, and-right, last, links_back, links_front}
use Rattle.jdwp_model.proofs.Theorems.{seen-base}
use Rattle.jdwp_model.proofs.Waiting.{In}
use Rattle.jdwp_model.specs.Places.{replies}
use Rattle.jdwp_frames.specs.Changing.{may_change}
use Rattle.jdwp_frames.specs.Lasting.{leaves}
use Rattle.jdwp_frames.proofs.Commands.{change-append, change-in, change-without, dispose-none, has_change, lowers-none, spares, write-none}
use Rattle.jdwp_frames.proofs.Packets.{LastsAt, enter-on, entered-last, lasts-then, read-on}

-- The answer lasts at the last packet read, and no command waits that may change it.
pub record Stays {S : Type 0} (t : ℕ) (c : Command) (content : List DatumMeaning) (read : List (Packet S)) (pending : List (Ticket × Command)) : Type 0 where
  pub lasts : LastsAt t c content read
  pub unchanged : has_change pending t ≡ false

-- so it is while the debugger's end is not closed
abbrev pub Lasts : {S : Type 0} → ℕ → Command → List DatumMeaning → World S → Type 0
Lasts t c content w = is_closed w.debugger ≡ false → Stays t c content w.read w.pending

-- ---- what a debugger does not see

unseen-greets : {S : Type 0} (settings : Settings) (t : ℕ) (c : Command) (content : List DatumMeaning) (w : World S) (b : Bool) → Lasts t c content w → Lasts t c content (greets_by settings w b)
unseen-greets settings t c content w true l = l
unseen-greets settings t c content w false l = l

unseen-dies : {S : Type 0} (t : ℕ) (c : Command) (content : List DatumMeaning) (w : World S) (b : Bool) → Lasts t c content w → Lasts t c content (dies_by w b)
unseen-dies t c content w true l = l
unseen-dies t c content w false l = l

unseen-command : {S : Type 0} (m : Meaning S) (settings : Settings) (t : ℕ) (c : Command) (content : List DatumMeaning) (w : World S) (k : Ticket) (d : Command) → Lasts t c content w → Lasts t c content (carries_out m settings w k d)
unseen-command m settings t c content w k d l = unseen-dies t c content (answers w k d (effect m settings w.now d)) (effect m settings w.now d).dies l

unseen-handles : {S : Type 0} (m : Meaning S) (settings : Settings) (measure : Measure) (t : ℕ) (c : Command) (content : List DatumMeaning) (w : World S) (rest : List Call) (phase : Phase) (call : Call) → Lasts t c content w
    → Lasts t c content (target_handles m settings measure w rest phase call)
unseen-handles m settings measure t c content w rest AwaitingHandshake Greets l = unseen-greets settings t c content (target_takes measure w Greets rest) w.now.state.handshaken l
unseen-handles m settings measure t c content w rest Established (Asks k d) l =
    elim (defers w d) as (λ b. Lasts t c content (defers_or m settings (target_takes measure w (Asks k d) rest) k d b)) [
      | true ↦ l
      | false ↦ unseen-command m settings t c content (target_takes measure w (Asks k d) rest) k d l
    ]
unseen-handles m settings measure t c content w rest phase call l = l

unseen-turn : {S : Type 0} (m : Meaning S) (settings : Settings) (measure : Measure) (t : ℕ) (c : Command) (content : List DatumMeaning) (w : World S) → Lasts t c content w → Lasts t c content (target_turn m settings measure w)
unseen-turn m settings measure t c content w l =
    by_target_front settings measure w (λ o. Lasts t c content (target_turn_at m settings measure w o)) l (λ call rest _ _. unseen-handles m settings measure t c content w rest w.target call l)

unseen-reported : {S : Type 0} (t : ℕ) (c : Command) (content : List DatumMeaning) (w : World S) (after : Moment S) (o : Option CompositeMeaning) → Lasts t c content w → Lasts t c content (with_report w after o)
unseen-reported t c content w after None l = l
unseen-reported t c content w after (Some r) l = l

unseen-ends : {S : Type 0} (t : ℕ) (c : Command) (content : List DatumMeaning) (w : World S) (phase : Phase) (b : Bool) → Lasts t c content w → Lasts t c content (step_ends w phase b)
unseen-ends t c content w phase false l = l
unseen-ends t c content w Established true l = l
unseen-ends t c content w AwaitingHandshake true l = l
unseen-ends t c content w Closed true l = l

unseen-step : {S : Type 0} (m : Meaning S) (settings : Settings) (measure : Measure) (t : ℕ) (c : Command) (content : List DatumMeaning) (w : World S) (u : ℕ) → Lasts t c content w → Lasts t c content (steps m settings measure w u)
unseen-step m settings measure t c content w u l =
    cond_both (steps_now m settings measure w u) _ _ (Lasts t c content) (λ _.
    unseen-ends t c content (with_report w (occurs m w.now u).after (occurs m w.now u).sends) w.target (occurs m w.now u).dies
    (unseen-reported t c content w (occurs m w.now u).after (occurs m w.now u).sends l)) (λ _. l)

-- ---- what it reads

-- what stands in front behind composites that wait
behind : {S : Type 0} (m : Meaning S) (base : Moment S) (parked td rest : List (Packet S)) (p : Packet S) → Links m base (parked ++ td) → td ≡ p ∷ rest → Links m base parked × Sent m (last base parked) p
behind m base parked td rest p links e =
    let l = subst (λ ps. Links m base (parked ++ ps)) e links in
    (links_front m base parked (p ∷ rest) l, (links_back m base parked (p ∷ rest) l).0)

-- where none waits
in-front : {S : Type 0} (m : Meaning S) (base : Moment S) (parked td rest : List (Packet S)) (p : Packet S) → Links m base (parked ++ td) → td ≡ p ∷ rest → parked ≡ [] → Sent m base p
in-front m base parked td rest p links e none =
    subst (λ ps. Sent m (last base ps) p) none (behind m base parked td rest p links e).1

closed-by : {S : Type 0} (t : ℕ) (c : Command) (content : List DatumMeaning) (w : World S) (os : List Outcome) (b : Bool) → Lasts t c content w → Lasts t c content (closes_by w os b).0
closed-by t c content w os true l = λ o. absurd (cc)
closed-by t c content w os false l = l

reads-reply : {S : Type 0} (m : Meaning S) (settings : Settings) (t : ℕ) (c : Command) (content : List DatumMeaning) (w : World S) (n : ℕ) (k : Ticket) (d : Command) (x : Answer) (a : Moment S) (rest : List (Packet S))
    → Inv m settings w → Lasts t c content w → w.to_debugger ≡ (Reply k d x, a) ∷ rest → Lasts t c content (reads_reply (record w { to_debugger = rest; at_debugger = n }) (Reply k d x, a) k)
reads-reply m settings t c content w n k d x a rest i l e = λ o.
    let s = i.debugger.session o in
    let g = l o in
    let f = behind m s.base w.parked w.to_debugger rest (Reply k d x, a) s.links e in
    let waits : In w.pending (k, d) = s.waits.in_replied (k, d) (subst (λ ps. In (replies ps) (k, d)) (sym e) (inl refl)) in
    let spared = spares d t (change-in w.pending k d t g.unchanged waits) in
    record {
      lasts = read-on m t c content (entered w.parked w.read) (last s.base w.parked) (Reply k d x, a)
          (enter-on m t c content w.parked w.read s.base g.lasts s.at_last f.0 s.no_reply_waits) (entered-last w.parked w.read s.base s.at_last) f.1
          spared.lowers_none spared.disposes_none spared.writes_none;
      unchanged = change-without w.pending k t g.unchanged;
    }

reads-composite : {S : Type 0} (m : Meaning S) (settings : Settings) (t : ℕ) (c : Command) (content : List DatumMeaning) (w : World S) (n : ℕ) (r : CompositeMeaning) (a : Moment S) (rest : List (Packet S)) (b : Bool)
    → Inv m settings w → Lasts t c content w → w.to_debugger ≡ (Report r, a) ∷ rest → w.ready ≡ b → Lasts t c content (reads_composite (record w { to_debugger = rest; at_debugger = n }) (Report r, a) r b).0
reads-composite m settings t c content w n r a rest false i l e h = l
reads-composite m settings t c content w n r a rest true i l e h =
    closed-by t c content (record w { to_debugger = rest; at_debugger = n; read = (Report r, a) ∷ w.read }) (Events.Seen r ∷ []) (is_vm_death r) (λ o.
    let s = i.debugger.session o in
    let g = l o in
    record {
      lasts = read-on m t c content w.read s.base (Report r, a) g.lasts s.at_last
          (in-front m s.base w.parked w.to_debugger rest (Report r, a) s.links e (i.debugger.ready_parked h)) refl refl refl;
      unchanged = g.unchanged;
    })

reads-one : {S : Type 0} (m : Meaning S) (settings : Settings) (t : ℕ) (c : Command) (content : List DatumMeaning) (w : World S) (n : ℕ) (p : Packet S) (rest : List (Packet S))
    → Inv m settings w → Lasts t c content w → is_closed w.debugger ≡ false → w.to_debugger ≡ p ∷ rest → fault_of (reader w) p.0 ≡ None → Lasts t c content (reads (record w { to_debugger = rest; at_debugger = n }) p).0
reads-one m settings t c content w n (Handshake, a) rest i l o e f = λ _.
    let s = i.debugger.session o in
    let g = l o in
    record {
      lasts = read-on m t c content w.read s.base (Handshake, a) g.lasts s.at_last
          (in-front m s.base w.parked w.to_debugger rest (Handshake, a) s.links e (i.debugger.unparked (not-greeted (is_established_phase w.debugger) f))) refl refl refl;
      unchanged = change-append w.pending None id_sizes t g.unchanged refl;
    }
reads-one m settings t c content w n (Reply k d x, a) rest i l o e f =
    closed-by t c content (reads_reply (record w { to_debugger = rest; at_debugger = n }) (Reply k d x, a) k) (composites_of w.parked ++ answered k x) (ends (Reply k d x) || has_end w.parked)
    (reads-reply m settings t c content w n k d x a rest i l e)
reads-one m settings t c content w n (Report r, a) rest i l o e f = reads-composite m settings t c content w n r a rest w.ready i l e refl

reads-handled : {S : Type 0} (m : Meaning S) (settings : Settings) (measure : Measure) (t : ℕ) (c : Command) (content : List DatumMeaning) (w : World S) (p : Packet S) (rest : List (Packet S)) (f : Option Fault)
    → Inv m settings w → Lasts t c content w → is_closed w.debugger ≡ false → w.to_debugger ≡ p ∷ rest → fault_of (reader w) p.0 ≡ f → Lasts t c content (debugger_handles (debugger_takes measure w p rest) p f).0
reads-handled m settings measure t c content w p rest (Some f) i l o e h = λ x. absurd (cc)
reads-handled m settings measure t c content w p rest None i l o e h = reads-one m settings t c content w (w.at_debugger - measure.message p.0) p rest i l o e h

reads-turn : {S : Type 0} (m : Meaning S) (settings : Settings) (measure : Measure) (t : ℕ) (c : Command) (content : List DatumMeaning) (w : World S) → Inv m settings w → Lasts t c content w → Lasts t c content (debugger_turn settings measure w).0
reads-turn m settings measure t c content w i l =
    by_debugger_front settings measure w (λ o. Lasts t c content (debugger_turn_at measure w o).0) l
    (λ p rest o e. reads-handled m settings measure t c content w p rest (fault_of (reader w) p.0) i l o e refl)

-- ---- all events

not-change : (b : Bool) → not b ≡ true → b ≡ false
not-change true h = absurd (cc)
not-change false h = refl

asks-by : {S : Type 0} (t : ℕ) (c : Command) (content : List DatumMeaning) (w : World S) (d : Command) (r : Option AskRefusal) → Lasts t c content w → may_change t d ≡ false → Lasts t c content (ask_by w d r).0
asks-by t c content w d (Some r) l n = l
asks-by t c content w d None l n = λ o. let g = l o in record { lasts = g.lasts; unchanged = change-append w.pending (Some (w.asked + 1)) d t g.unchanged n }

lasts-next : {S : Type 0} (m : Meaning S) (settings : Settings) (measure : Measure) (t : ℕ) (c : Command) (content : List DatumMeaning) (w : World S) (e : LinkEvent) → Inv m settings w → leaves t e ≡ true → Lasts t c content w
    → Lasts t c content (next m settings measure w e).0
lasts-next m settings measure t c content w Events.Attach i n l = absurd (cc)
lasts-next m settings measure t c content w (Events.Ask d) i n l = asks-by t c content w d (ask_refusal settings measure w d) l (not-change (may_change t d) n)
lasts-next m settings measure t c content w (Events.ToTarget k) i n l = cond_both (is_closed w.target) _ _ (Lasts t c content) (λ _. l) (λ _. l)
lasts-next m settings measure t c content w (Events.ToDebugger k) i n l = cond_both (is_closed w.debugger) _ _ (Lasts t c content) (λ _. l) (λ _. l)
lasts-next m settings measure t c content w Events.TargetTurn i n l = unseen-turn m settings measure t c content w l
lasts-next m settings measure t c content w Events.DebuggerTurn i n l = reads-turn m settings measure t c content w i l
lasts-next m settings measure t c content w (Events.Step u) i n l = unseen-step m settings measure t c content w u l
lasts-next m settings measure t c content w Events.TargetLoses i n l = l
lasts-next m settings measure t c content w Events.DebuggerLoses i n l = λ o. absurd (cc)
lasts-next m settings measure t c content w (Events.Defer deferring) i n l = l
lasts-next m settings measure t c content w (Events.Release place) i n l =
    by_release_front settings measure w place (λ o. Lasts t c content (releases_at m settings w o)) l
    (λ k d rest _ _. unseen-command m settings t c content (record w { deferred = rest }) k d l)

pub lasts-run : {S : Type 0} (m : Meaning S) → Rests m → (settings : Settings) → 1 ≤ settings.count_limit → settings.count_limit ≤ COUNT_MOST → (measure : Measure) (t : ℕ) (c : Command) (content : List DatumMeaning) (w : World S) (es : List LinkEvent)
    → Inv m settings w → list_all (leaves t) es ≡ true → Lasts t c content w → Lasts t c content (run m settings measure w es)
lasts-run m rests settings least most measure t c content w [] i n l = l
lasts-run m rests settings least most measure t c content w (e ∷ es) i n l =
    lasts-run m rests settings least most measure t c content (next m settings measure w e).0 es (keeps m rests settings least most measure w e i) (and-right (leaves t e) (list_all (leaves t) es) n)
    (lasts-next m settings measure t c content w e i (and-left (leaves t e) (list_all (leaves t) es) n) l)

-- ---- now

pub open-if-held : {S : Type 0} (m : Meaning S) (settings : Settings) (w : World S) (t : ℕ) → Inv m settings w → mirror_held w.read t ≡ true → is_closed w.debugger ≡ false
open-if-held m settings w t i h =
    elim (is_closed w.debugger) as (λ b. is_closed w.debugger ≡ b → b ≡ false) [
      | true ↦ λ x. let y : mirror_held w.read t ≡ false = ap (λ ps. mirror_held ps t) (i.debugger.closed x).0 in absurd (cc)
      | false ↦ λ _. refl
    ] refl

pub answers-now : {S : Type 0} (m : Meaning S) (settings : Settings) (t : ℕ) (c : Command) (content : List DatumMeaning) (w : World S) → Inv m settings w → StaysTrue m settings w → Lasts t c content w → asks_frames_of c t ≡ true → mirror_held w.read t ≡ true
    → w.now.state.alive ≡ true → w.lost ≡ false → (effect m settings w.now c).answer ≡ Data content
answers-now m settings t c content w i stays l asks held alive lost =
    let o = open-if-held m settings w t i held in
    let s = i.debugger.session o in
    let g = l o in
    let seen = lasts-then t c content w.read g.lasts in
    let base : s.base.state.alive ≡ true = alive_along m s.base (w.parked ++ w.to_debugger) s.links ((s.quiet lost).alive alive) in
    let is = seen.lasts (subst (λ (x : Moment _). x.state.alive ≡ true) (sym (seen-base w.read s.base seen.then s.at_last seen.saw)) base) in
    let none : unanswered lowers w.pending t ≡ 0 = lowers-none w.pending t g.unchanged in
    stays t c content seen.then asks is.1 (record { alive = alive; not_lost = lost; no_dispose = dispose-none w.pending t g.unchanged }) (write-none w.pending t g.unchanged) seen.saw
    (subst (λ n. n < count_or_zero seen.then.state t) (sym none) is.0)

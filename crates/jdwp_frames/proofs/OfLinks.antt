-- What was told of a thread's frames the target would answer now, of a link.
use Rattle.std.proofs.Common.{◌≡◌, ◌∙◌, ℕ, zero, suc, ◌==◌, ◌<◌, inl, true, false, not, ◌||◌, Option, Some, None, List, [], ◌∷◌, refl, sym, ap, subst, arith}
use Rattle.std.specs.List.{list_any}
use Rattle.jdwp_wire.specs.Widths.{Widths}
use Rattle.jdwp_layout.specs.Meanings.{DatumMeaning}
use Rattle.jdwp_machine.specs.Meanings.{Meaning}
use Rattle.jdwp_action.specs.Actions.{Command}
use Rattle.jdwp_debuggee.specs.Effects.{effect}
use Rattle.jdwp_debuggee.specs.Settings.{Settings}
use Rattle.jdwp_debuggee.specs.State.{Moment, count_or_zero}
use Rattle.jdwp_debugger.specs.declared.order.Order.TheVariants.{One}
use Rattle.jdwp_debugger.specs.declared.pending.Ticket as code
use Rattle.jdwp_debugger.specs.Debuggers.{AreOwn, Asked, Debugger, Unanswered, and_then, at_place, unanswered}
use Rattle.jdwp_debugger.specs.Holding.{held_in}
use Rattle.jdwp_mirror.specs.KnownThreads.{is_held_in}
use Rattle.jdwp_mirror.specs.Messages.{id_sizes}
use Rattle.jdwp_model.specs.Events
use Rattle.jdwp_model.specs.Lasting.{StaysTrue}
use Rattle.jdwp_model.specs.Measures.{measured}
use Rattle.jdwp_model.specs.Next.{run}
use Rattle.jdwp_model.specs.Rests.{Rests}
use Rattle.jdwp_model.specs.Seen.{is_held, is_known, mirror_held}
use Rattle.jdwp_model.specs.World.{Packet, World, is_closed, opening}
use Rattle.jdwp_model.proofs.Keeps.{Inv, keeps_run}
use Rattle.jdwp_model.proofs.Lasting.{always_stays_true}
use Rattle.jdwp_model.proofs.Session.{and-left, and-right, not-true}
use Rattle.jdwp_model.proofs.Theorems.{knows_and_holds, opening_inv}
use Rattle.jdwp_model.proofs.Waiting.{In}
use Rattle.jdwp_link.specs.Clauses.{measure_of}
use Rattle.jdwp_link.specs.Links.{Link}
use Rattle.jdwp_link.specs.Stands.{IsReached, Parts}
use Rattle.jdwp_link.specs.Wires.{waiting, without_ids}
use Rattle.jdwp_frames.specs.Changing.{do_frames_last, may_change}
use Rattle.jdwp_frames.specs.Lasting.{FramesStayTrue}
use Rattle.jdwp_frames.proofs.Commands.{has_change}
use Rattle.jdwp_frames.proofs.Packets.{IsReadLast, LastsAt}
use Rattle.jdwp_frames.proofs.OfTurns.{in-waiting, read-by-turn}
use Rattle.jdwp_frames.proofs.Worlds.{Lasts, answers-now, lasts-run}

-- ---- what waits

changed : (t : ℕ) (o : Option code.Ticket) (c : Command) (us : List Unanswered) → (o ≡ None → c ≡ id_sizes)
    → list_any (λ (u : Unanswered). may_change t u.command) (and_then o c us) ≡ (may_change t c || list_any (λ (u : Unanswered). may_change t u.command) us)
changed t None c us own = ap (λ b. b || list_any (λ (u : Unanswered). may_change t u.command) us) (sym (ap (λ d. may_change t d) (own refl)))
changed t (Some k) c us own = refl

same-change : (t : ℕ) (ps : List Asked) → AreOwn ps → list_any (λ (u : Unanswered). may_change t u.command) (unanswered ps) ≡ has_change (without_ids (waiting ps)) t
same-change t [] own = refl
same-change t (p ∷ ps) own = changed t p.ticket p.command (unanswered ps) own.0 ∙ ap (λ b. may_change t p.command || b) (same-change t ps own.1)

-- ---- what is held

held-one : (d : Debugger) (t : ℕ) → d.order ≡ One → do_frames_last d t ≡ true → is_held_in d.mirror.threads t ≡ true
held-one d t one h = sym (ap (λ o. held_in o d t) one) ∙ and-left (held_in d.order d t) _ h

positive : (n : ℕ) → not (n == 0) ≡ true → 0 < n
positive zero h = absurd (cc)
positive (suc n) h = omega arith

lasts-first : {S : Type 0} (t : ℕ) (c : Command) (content : List DatumMeaning) (read : List (Packet S)) → IsReadLast read c content → is_held read t ≡ true → LastsAt t c content read
lasts-first t c content [] r h = absurd r
lasts-first t c content (p ∷ ps) r h = λ live.
    (positive (count_or_zero p.1.state t) (and-left _ _ (and-right (is_known (p ∷ ps) t) _ h)), inl r)

-- what waits at the debugger waits in the world
waits-in : {S : Type 0} (m : Meaning S) (settings : Settings) (w : Widths) (x : World S) (l : Link S) → Parts m settings w l x → (place : ℕ) (ticket : code.Ticket) (c : Command)
    → at_place (unanswered l.debugger.pending) place ≡ Some (record { ticket = ticket.0; command = c }) → is_closed x.debugger ≡ false → In x.pending (Some ticket.0, c)
waits-in m settings w x l s place ticket c there o =
    subst (λ ps. In ps (Some ticket.0, c)) (s.debugger.opened o).pending (in-waiting l.debugger.pending place ticket.0 c there)

-- ---- the worlds

inv-reached : {S : Type 0} (m : Meaning S) → Rests m → (settings : Settings) (w : Widths) (x : World S) → IsReached m settings w x → Inv m settings x
inv-reached m rests settings w x r =
    subst (Inv m settings) r.is (keeps_run m rests settings r.begins.limit_least r.begins.limit_most (measured w settings.limits) (opening m r.first) r.events (opening_inv m settings r.first r.begins))

stays-reached : {S : Type 0} (m : Meaning S) → Rests m → (settings : Settings) (w : Widths) (x : World S) → IsReached m settings w x → StaysTrue m settings x
stays-reached m rests settings w x r =
    subst (StaysTrue m settings) r.is (always_stays_true m rests settings (measured w settings.limits) r.first r.events r.begins)

-- as it was told
told-lasts : {S : Type 0} (m : Meaning S) (settings : Settings) (w : Widths) (t : ℕ) (c : Command) (content : List DatumMeaning) (l : Link S) (x : World S) → Inv m settings x → Parts m settings w l x → IsReadLast x.read c content → AreOwn l.debugger.pending
    → do_frames_last l.debugger t ≡ true → Lasts t c content x
told-lasts m settings w t c content l x i s read own last = λ o.
    let held : mirror_held x.read t ≡ true = sym (s.debugger.mirror.held t) ∙ held-one l.debugger t s.debugger.order last in
    let none = not-true _ (and-right (held_in l.debugger.order l.debugger t) _ last) in
    record {
      lasts = lasts-first t c content x.read read (sym (knows_and_holds m settings x i t).1 ∙ held);
      unchanged = ap (λ ps. has_change ps t) (sym (s.debugger.opened o).pending) ∙ (sym (same-change t l.debugger.pending own) ∙ none);
    }

pub frames-stay-true : {S : Type 0} (m : Meaning S) → Rests m → FramesStayTrue m
frames-stay-true m rests t c content before told now es os is ran left last there =
    let first = is.link.world in
    let settings = told.target.settings in
    let x = run m before.target.settings (measure_of m before) first (Events.DebuggerTurn ∷ []) in
    let s = is.turned.stands first is.link.stands in
    let begins = s.reached.begins in
    let i = inv-reached m rests settings _ x s.reached in
    let was = inv-reached m rests before.target.settings _ first is.link.stands.reached in
    let held = sym (s.parts.debugger.mirror.held t) ∙ held-one told.debugger t s.parts.debugger.order is.last in
    let read = read-by-turn m before.target.settings (measure_of m before) t c content is.ticket first was (waits-in m before.target.settings _ first before is.link.stands.parts is.place is.ticket c is.waited) (sym (is.turned.tells first is.link.stands)) held in
    let begun = told-lasts m settings _ t c content told x i s.parts read is.own is.last in
    let y = run m settings (measure_of m told) x es in
    let z = ran.stands x s in
    let lasts = lasts-run m rests settings begins.limit_least begins.limit_most (measure_of m told) t c content x es i left begun in
    let holds = sym (z.parts.debugger.mirror.held t) ∙ held-one now.debugger t z.parts.debugger.order last in
    let alive = ap (λ (a : Moment _). a.state.alive) (sym z.parts.target.now) ∙ there.alive in
    let lost = sym z.parts.target.lost ∙ there.not_lost in
    ap (λ a. (effect m now.target.settings a c).answer) z.parts.target.now
    ∙ answers-now m now.target.settings t c content y (inv-reached m rests now.target.settings _ y z.reached) (stays-reached m rests now.target.settings _ y z.reached) lasts is.asks holds alive lost

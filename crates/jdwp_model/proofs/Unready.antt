-- before a debugger knows the widths of ids, IDSizes is all that it asked, and VM_START and VM_DEATH all that is told
use Rattle.std.proofs.Common.{◌≡◌, ℕ, ◌+◌, ◌≤◌, inl, inr, Bool, true, false, cond, Option, Some, None, List, [], ◌∷◌, ◌++◌, length, refl, sym, ◌∙◌, ap, subst, arith, is_none}
use Rattle.jdwp_layout.specs.declared.answer.Answer.{Answer}
use Rattle.jdwp_layout.specs.declared.answer.Answer.TheVariants.{Data, Error}
use Rattle.jdwp_end.specs.declared.phase.Phase.{Phase}
use Rattle.jdwp_end.specs.declared.phase.Phase.TheVariants.{Closed, AwaitingHandshake, Established}
use Rattle.jdwp_end.specs.Ends.{is_established_phase}
use Rattle.jdwp_event.specs.Requests.{all_asked}
use Rattle.jdwp_event.specs.Composites.{CompositeMeaning, vm_death}
use Rattle.jdwp_machine.specs.Meanings.{Meaning}
use Rattle.jdwp_debuggee.specs.Settings.{Settings}
use Rattle.jdwp_debuggee.specs.State.{Moment}
use Rattle.jdwp_action.specs.Actions.{Command, action_of}
use Rattle.jdwp_debuggee.specs.Effects.{Effect, effect}
use Rattle.jdwp_debuggee.specs.Steps.{occurs, start_event}
use Rattle.jdwp_debuggee.specs.Facts.{IsSound, Told, requests_moved}
use Rattle.jdwp_mirror.specs.Messages.{Ticket, Call, Handshake, Reply, Report, id_sizes}
use Rattle.jdwp_model.specs.World.{is_closed, Packet, World}
use Rattle.jdwp_model.specs.Next.{started, greets_by, after_death, answers, dies_by, carries_out, with_report, step_ends}
use Rattle.jdwp_model.specs.Seen.{composites_in}
use Rattle.jdwp_model.specs.Rests.{Rests}
use Rattle.jdwp_model.proofs.Session.{composites_append, replies, commands}
use Rattle.jdwp_model.proofs.Waiting.{In, released-parts}
use Rattle.jdwp_model.proofs.Keeps.{Inv, asked-nil, closed-not-open, or-parts}
use Rattle.jdwp_model.proofs.Cases.{Kept}

-- how many composites may have been told, by what the target is then
abbrev pub room : Phase → ℕ
room AwaitingHandshake = 0
room Established = 1
room Closed = 2

-- what a debugger asked that doesn't know the widths of ids
abbrev pub own : Phase → List (Ticket × Command)
own Established = (None, id_sizes) ∷ []
own AwaitingHandshake = []
own Closed = []

pub record Unready {S : Type 0} (target debugger : Phase) (parked td : List (Packet S)) (pending : List (Ticket × Command)) (now : Moment S) : Type 0 where
  pub no_requests : now.state.requests ≡ []
  pub few : length parked + composites_in td ≤ room target
  pub alone : pending ≡ own debugger

abbrev pub UnreadyOf : {S : Type 0} → World S → Type 0
UnreadyOf w = is_closed w.debugger ≡ false → w.ready ≡ false → Unready w.target w.debugger w.parked w.to_debugger w.pending w.now

-- ---- small facts

pub room-most : (p : Phase) → room p ≤ 2
room-most AwaitingHandshake = omega arith
room-most Established = omega arith
room-most Closed = omega arith

room-open : (b : Bool) → 1 ≤ room (cond b Closed Established)
room-open true = omega arith
room-open false = omega arith

own-none : (p : Phase) → is_established_phase p ≡ false → own p ≡ []
own-none Closed h = refl
own-none AwaitingHandshake h = refl
own-none Established h = absurd (cc)

-- what was asked alone was IDSizes
abbrev own_command : Ticket × Command
own_command = (None, id_sizes)

is-own : (p : Phase) (k : Ticket) (c : Command) → In (own p) (k, c) → own_command ≡ (k, c)
is-own AwaitingHandshake k c h = absurd h
is-own Closed k c h = absurd h
is-own Established k c (inl e) = e
is-own Established k c (inr h) = absurd h

in-own : (p : Phase) (xs : List (Ticket × Command)) (k : Ticket) (c : Command) → xs ≡ own p → In xs (k, c) → own_command ≡ (k, c)
in-own p xs k c e h = is-own p k c (subst (λ l. In l (k, c)) e h)

only-command : (p : Phase) (xs : List (Ticket × Command)) (k : Ticket) (c : Command) → xs ≡ own p → In xs (k, c) → c ≡ id_sizes
only-command p xs k c e h = sym (ap (λ (q : Ticket × Command). q.1) (in-own p xs k c e h))

only-reply : (p : Phase) (xs : List (Ticket × Command)) (k : Ticket) (c : Command) → xs ≡ own p → In xs (k, c) → is_none k ≡ true
only-reply p xs k c e h = sym (ap (λ (q : Ticket × Command). is_none q.0) (in-own p xs k c e h))

no-more : (c : Command) (x : Answer) (n : ℕ) → c ≡ id_sizes → requests_moved (action_of c) x n [] ≡ []
no-more c (Data content) n e = ap (λ d. requests_moved (action_of d) (Data content) n []) e
no-more c (Error err) n e = refl

length-more : {S : Type 0} (ps : List (Packet S)) (p : Packet S) → length (ps ++ p ∷ []) ≡ length ps + 1
length-more [] p = refl
length-more (q ∷ qs) p = let e : length (qs ++ p ∷ []) ≡ length qs + 1 = length-more qs p in omega arith

-- ---- changes

unready-greet : {S : Type 0} (settings : Settings) (w : World S) (n : ℕ) (rest : List Call) (b : Bool) → w.target ≡ AwaitingHandshake → UnreadyOf w → UnreadyOf (greets_by settings (record w { to_target = rest; at_target = n }) b)
unready-greet settings w n rest true t p =
    λ o r.
    let u = p o r in
    let before : length w.parked + composites_in w.to_debugger ≤ 0 = subst (λ p. length w.parked + composites_in w.to_debugger ≤ room p) t u.few in
    let sum : composites_in (w.to_debugger ++ (Handshake, w.now) ∷ []) ≡ composites_in w.to_debugger + 0 = composites_append w.to_debugger ((Handshake, w.now) ∷ []) in
    record { no_requests = u.no_requests; few = omega arith; alone = u.alone }
unready-greet settings w n rest false t p =
    λ o r.
    let u = p o r in
    let before : length w.parked + composites_in w.to_debugger ≤ 0 = subst (λ p. length w.parked + composites_in w.to_debugger ≤ room p) t u.few in
    let sum : composites_in (w.to_debugger ++ (Handshake, w.now) ∷ (Report (start_event settings w.now.state), started settings w.now) ∷ []) ≡ composites_in w.to_debugger + 1 =
    composites_append w.to_debugger ((Handshake, w.now) ∷ (Report (start_event settings w.now.state), started settings w.now) ∷ []) in
    record { no_requests = u.no_requests; few = omega arith; alone = u.alone }

unready-answered : {S : Type 0} (v : World S) (k : Ticket) (c : Command) (e : Effect S) (dies : Bool) → v.target ≡ Established → (is_closed v.debugger ≡ false → v.ready ≡ false → e.after.state.requests ≡ []) → UnreadyOf v → UnreadyOf (dies_by (answers v k c e) dies)
unready-answered v k c e false t none p =
    λ o r.
    let u = p o r in
    let before : length v.parked + composites_in v.to_debugger ≤ 1 = subst (λ p. length v.parked + composites_in v.to_debugger ≤ room p) t u.few in
    let sum : composites_in (v.to_debugger ++ (Reply k c e.answer, e.after) ∷ []) ≡ composites_in v.to_debugger + 0 = composites_append v.to_debugger ((Reply k c e.answer, e.after) ∷ []) in
    let space : 1 ≤ room (cond e.closes Closed v.target) = subst (λ p. 1 ≤ room (cond e.closes Closed p)) (sym t) (room-open e.closes) in
    record { no_requests = none o r; few = omega arith; alone = u.alone }
unready-answered v k c e true t none p =
    λ o r.
    let u = p o r in
    let before : length v.parked + composites_in v.to_debugger ≤ 1 = subst (λ p. length v.parked + composites_in v.to_debugger ≤ room p) t u.few in
    let one : composites_in (v.to_debugger ++ (Reply k c e.answer, e.after) ∷ []) ≡ composites_in v.to_debugger + 0 = composites_append v.to_debugger ((Reply k c e.answer, e.after) ∷ []) in
    let sum : composites_in ((v.to_debugger ++ (Reply k c e.answer, e.after) ∷ []) ++ (Report vm_death, after_death e.after) ∷ []) ≡ composites_in (v.to_debugger ++ (Reply k c e.answer, e.after) ∷ []) + 1 =
    composites_append (v.to_debugger ++ (Reply k c e.answer, e.after) ∷ []) ((Report vm_death, after_death e.after) ∷ []) in
    record { no_requests = none o r; few = omega arith; alone = u.alone }

-- a command that waits is carried out
unready-command : {S : Type 0} (m : Meaning S) → Rests m → (settings : Settings) (v : World S) (k : Ticket) (c : Command) → IsSound m settings v.now → v.target ≡ Established → (is_closed v.debugger ≡ false → In v.pending (k, c)) → UnreadyOf v → UnreadyOf (carries_out m settings v k c)
unready-command m rests settings v k c s t h p =
    let d = (rests.facts settings).does v.now c s in
    unready-answered v k c (effect m settings v.now c) (effect m settings v.now c).dies t
    (λ o r.
    let u = p o r in
    let is : c ≡ id_sizes = only-command v.debugger v.pending k c u.alone (h o) in
    asked-nil (effect m settings v.now c).after.state.requests (d.requests ∙ (ap (λ l. requests_moved (action_of c) (effect m settings v.now c).answer v.now.state.next_request (all_asked l)) u.no_requests ∙ no-more c (effect m settings v.now c).answer v.now.state.next_request is)))
    p

unready-died : {S : Type 0} (w : World S) (after : Moment S) (phase : Phase) → after.state.requests ≡ [] → w.target ≡ phase → UnreadyOf w → UnreadyOf (step_ends (record w { now = after }) phase true)
unready-died w after Established none t p =
    λ o r.
    let u = p o r in
    let before : length w.parked + composites_in w.to_debugger ≤ 1 = subst (λ p. length w.parked + composites_in w.to_debugger ≤ room p) t u.few in
    let sum : composites_in (w.to_debugger ++ (Report vm_death, after_death after) ∷ []) ≡ composites_in w.to_debugger + 1 = composites_append w.to_debugger ((Report vm_death, after_death after) ∷ []) in
    record { no_requests = none; few = omega arith; alone = u.alone }
unready-died w after AwaitingHandshake none t p =
    λ o r. let u = p o r in let before : length w.parked + composites_in w.to_debugger ≤ room w.target = u.few in let most : room w.target ≤ 2 = room-most w.target in record { no_requests = none; few = omega arith; alone = u.alone }
unready-died w after Closed none t p =
    λ o r. let u = p o r in let before : length w.parked + composites_in w.to_debugger ≤ room w.target = u.few in let most : room w.target ≤ 2 = room-most w.target in record { no_requests = none; few = omega arith; alone = u.alone }

-- a step tells nothing where nothing was asked for
unready-stepped : {S : Type 0} (m : Meaning S) (w : World S) (after : Moment S) (o : Option CompositeMeaning) (dies : Bool) → Told m w.now after dies o → (w.now.state.requests ≡ [] → o ≡ None) → UnreadyOf w → UnreadyOf (step_ends (with_report w after o) w.target dies)
unready-stepped m w after None true d silent p = unready-died w after w.target d.no_requests refl p
unready-stepped m w after None false d silent p = λ o r. let u = p o r in record { no_requests = asked-nil after.state.requests (d.same_requests ∙ ap all_asked u.no_requests); few = u.few; alone = u.alone }
unready-stepped m w after (Some c) true d silent p = let x : true ≡ false = d.0 in absurd (cc)
unready-stepped m w after (Some c) false d silent p = λ o r. let e = silent (p o r).no_requests in absurd (cc)

pub unready_kept : {S : Type 0} (m : Meaning S) → Rests m → (settings : Settings) (w : World S) → Inv m settings w → UnreadyOf w → Kept m settings w UnreadyOf
unready_kept m rests settings w i p =
    record {
      attach = λ t d _ _. record { no_requests = (i.target.idle (closed-not-open w.target t)).0; few = omega arith; alone = (i.debugger.closed d).1 };
      ask = λ c _ y o r. absurd (cc);
      to_target = λ _. p;
      to_debugger = λ _. p;
      greet = λ n rest b t _ _. unready-greet settings w n rest b t p;
      command = λ n rest k c t e.
          unready-command m rests settings (record w { to_target = rest; at_target = n }) k c i.target.sound t (λ o. (i.debugger.session o).waits.in_sent (k, c) (subst (λ l. In (commands l) (k, c)) (sym e) (inl refl))) p;
      deferral = λ n rest k c t e _. p;
      release = λ place k c rest t e.
          unready-command m rests settings (record w { deferred = rest }) k c i.target.sound t (λ o. (i.debugger.session o).waits.in_deferred (k, c) (released-parts place w.deferred (k, c) rest e).here) p;
      lose = λ o r. let u = p o r in let before : length w.parked + composites_in w.to_debugger ≤ room w.target = u.few in let most : room w.target ≤ 2 = room-most w.target in record { no_requests = refl; few = omega arith; alone = u.alone };
      close = λ o r. absurd (cc);
      end = λ _ _ _ _ _ o r. absurd (cc);
      handshake = λ _ a rest o g e _ r.
          let u = p o r in
          let before : length w.parked + composites_in rest ≤ room w.target = subst (λ l. length w.parked + composites_in l ≤ room w.target) e u.few in
          record { no_requests = u.no_requests; few = before; alone = ap (λ l. l ++ (None, id_sizes) ∷ []) (u.alone ∙ own-none w.debugger g) };
      reply = λ _ k c x a rest g e o r.
          let both = or-parts w.ready (is_none k) r in
          let u = p o both.0 in
          let first : is_none k ≡ true = only-reply w.debugger w.pending k c u.alone ((i.debugger.session o).waits.in_replied (k, c) (subst (λ l. In (replies l) (k, c)) (sym e) (inl refl))) in
          absurd (cc);
      park = λ _ c a rest _ e o r.
          let u = p o r in
          let before : length w.parked + (1 + composites_in rest) ≤ room w.target = subst (λ l. length w.parked + composites_in l ≤ room w.target) e u.few in
          let more : length (w.parked ++ (Report c, a) ∷ []) ≡ length w.parked + 1 = length-more w.parked (Report c, a) in
          record { no_requests = u.no_requests; few = omega arith; alone = u.alone };
      see = λ _ c a rest _ y e o r. absurd (cc);
      step = λ t may.
          let d = (rests.facts settings).happens w.now t i.target.sound may in
          unready-stepped m w (occurs m w.now t).after (occurs m w.now t).sends (occurs m w.now t).dies d.told d.silent p;
    }

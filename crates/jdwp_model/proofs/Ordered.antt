-- as long as nothing is deferred, the commands that wait are answered in their order
use Rattle.std.proofs.Common.{◌≡◌, ℕ, zero, suc, ◌+◌, Bool, true, false, ◌&&◌, cond, Option, Some, None, List, [], ◌∷◌, ◌++◌, length, refl, sym, ◌∙◌, ap, append_assoc}
use Rattle.std.specs.Prelude.{nat_lt}
use Rattle.std.proofs.lemmas.List.{append-nil}
use Rattle.jdwp_layout.specs.declared.answer.Answer.{Answer}
use Rattle.jdwp_end.specs.declared.phase.Phase.{Phase}
use Rattle.jdwp_end.specs.declared.phase.Phase.TheVariants.{Closed, AwaitingHandshake, Established}
use Rattle.jdwp_event.specs.Composites.{CompositeMeaning, vm_death}
use Rattle.jdwp_machine.specs.Meanings.{Meaning}
use Rattle.jdwp_debuggee.specs.Settings.{Settings}
use Rattle.jdwp_debuggee.specs.State.{Moment}
use Rattle.jdwp_action.specs.Actions.{Command}
use Rattle.jdwp_debuggee.specs.Effects.{Effect, effect}
use Rattle.jdwp_debuggee.specs.Steps.{occurs, start_event}
use Rattle.jdwp_debuggee.specs.Deferring.{is_deferrable, MOST_DEFERRED, released_at}
use Rattle.jdwp_mirror.specs.Messages.{Ticket, Call, Greets, Asks, Handshake, Reply, Report, id_sizes}
use Rattle.jdwp_model.specs.Events.{LinkEvent, begins_deferring}
use Rattle.jdwp_model.specs.World.{Measure, is_closed, Packet, World, opening}
use Rattle.jdwp_model.specs.Next.{started, greets_by, after_death, dies_by, answers, defers, without_ticket, with_report, step_ends, next}
use Rattle.jdwp_model.proofs.Session.{replies, commands, replies_append, commands_append}
use Rattle.jdwp_model.proofs.Waiting.{same-ticket}
use Rattle.jdwp_model.proofs.Keeps.{Inv}
use Rattle.jdwp_model.proofs.Cases.{Kept, kept_next}

-- ---- lists

pub without-first : (k : Ticket) (c : Command) (ps : List (Ticket × Command)) → without_ticket k ((k, c) ∷ ps) ≡ ps
without-first k c ps = ap (λ b. cond b ps ((k, c) ∷ without_ticket k ps)) (same-ticket k)

no-reply : {S : Type 0} (td : List (Packet S)) (p : Packet S) (cs : List (Ticket × Command)) → replies (p ∷ []) ≡ [] → replies td ++ cs ≡ replies (td ++ p ∷ []) ++ cs
no-reply td p cs h = ap (λ x. x ++ cs) (sym (replies_append td (p ∷ []) ∙ (ap (λ x. replies td ++ x) h ∙ append-nil (replies td))))

one-reply : {S : Type 0} (td : List (Packet S)) (k : Ticket) (c : Command) (x : Answer) (a : Moment S) (cs : List (Ticket × Command)) → replies td ++ (k, c) ∷ cs ≡ replies (td ++ (Reply k c x, a) ∷ []) ++ cs
one-reply td k c x a cs = sym (append_assoc (replies td) ((k, c) ∷ []) cs) ∙ ap (λ z. z ++ cs) (sym (replies_append td ((Reply k c x, a) ∷ [])))

more-asked : {S : Type 0} (pending : List (Ticket × Command)) (td : List (Packet S)) (calls : List Call) (k : Ticket) (c : Command) → pending ≡ replies td ++ commands calls → pending ++ (k, c) ∷ [] ≡ replies td ++ commands (calls ++ Asks k c ∷ [])
more-asked pending td calls k c e =
    ap (λ l. l ++ (k, c) ∷ []) e ∙ (append_assoc (replies td) (commands calls) ((k, c) ∷ []) ∙ ap (λ l. replies td ++ l) (sym (commands_append calls (Asks k c ∷ []))))

-- ---- in order

-- Nothing is deferred, and the commands that wait are those whose replies are under way and then those that are under way themselves.
pub record Ordered {S : Type 0} (w : World S) : Type 0 where
  pub undeferring : w.deferring ≡ false
  pub undeferred : w.deferred ≡ []
  pub in_order : is_closed w.debugger ≡ false → w.pending ≡ replies w.to_debugger ++ commands w.to_target

pub opening_ordered : {S : Type 0} (m : Meaning S) (s : S) → Ordered (opening m s)
opening_ordered m s = record { undeferring = refl; undeferred = refl; in_order = λ x. absurd (cc) }

ordered-answered : {S : Type 0} (v : World S) (k : Ticket) (c : Command) (e : Effect S) (dies closes : Bool) → v.deferring ≡ false → v.deferred ≡ [] → (is_closed v.debugger ≡ false → v.pending ≡ replies v.to_debugger ++ (k, c) ∷ commands v.to_target) → e.closes ≡ closes → Ordered (dies_by (answers v k c e) dies)
ordered-answered v k c e true closes f n h q =
    record {
      undeferring = f;
      undeferred = refl;
      in_order = λ o.
          h o ∙ (one-reply v.to_debugger k c e.answer e.after (commands v.to_target)
          ∙ no-reply (v.to_debugger ++ (Reply k c e.answer, e.after) ∷ []) (Report vm_death, after_death e.after) (commands v.to_target) refl);
    }
ordered-answered v k c e false true f n h q =
    record { undeferring = f; undeferred = ap (λ b. cond b [] v.deferred) q; in_order = λ o. h o ∙ one-reply v.to_debugger k c e.answer e.after (commands v.to_target) }
ordered-answered v k c e false false f n h q =
    record { undeferring = f; undeferred = ap (λ b. cond b [] v.deferred) q ∙ n; in_order = λ o. h o ∙ one-reply v.to_debugger k c e.answer e.after (commands v.to_target) }

ordered-greeted : {S : Type 0} (settings : Settings) (w : World S) (n : ℕ) (rest : List Call) (b : Bool) → w.to_target ≡ Greets ∷ rest → Ordered w → Ordered (greets_by settings (record w { to_target = rest; at_target = n }) b)
ordered-greeted settings w n rest true e p =
    record {
      undeferring = p.undeferring;
      undeferred = p.undeferred;
      in_order = λ o. p.in_order o ∙ (ap (λ l. replies w.to_debugger ++ commands l) e ∙ no-reply w.to_debugger (Handshake, w.now) (commands rest) refl);
    }
ordered-greeted {S} settings w n rest false e p =
    let first : Packet S = (Handshake, w.now) in
    let second : Packet S = (Report (start_event settings w.now.state), started settings w.now) in
    record {
      undeferring = p.undeferring;
      undeferred = p.undeferred;
      in_order = λ o.
          p.in_order o ∙ (ap (λ l. replies w.to_debugger ++ commands l) e
          ∙ (no-reply w.to_debugger first (commands rest) refl
          ∙ (no-reply (w.to_debugger ++ first ∷ []) second (commands rest) refl
          ∙ ap (λ l. replies l ++ commands rest) (append_assoc w.to_debugger (first ∷ []) (second ∷ [])))));
    }

ordered-ended : {S : Type 0} (w : World S) (phase : Phase) (dies : Bool) → Ordered w → Ordered (step_ends w phase dies)
ordered-ended w phase false p = p
ordered-ended w Established true p =
    record { undeferring = p.undeferring; undeferred = refl; in_order = λ o. p.in_order o ∙ no-reply w.to_debugger (Report vm_death, after_death w.now) (commands w.to_target) refl }
ordered-ended w AwaitingHandshake true p = record { undeferring = p.undeferring; undeferred = refl; in_order = p.in_order }
ordered-ended w Closed true p = record { undeferring = p.undeferring; undeferred = refl; in_order = p.in_order }

ordered-told : {S : Type 0} (w : World S) (after : Moment S) (o : Option CompositeMeaning) → Ordered w → Ordered (with_report w after o)
ordered-told w after None p = record { undeferring = p.undeferring; undeferred = p.undeferred; in_order = p.in_order }
ordered-told w after (Some c) p =
    record { undeferring = p.undeferring; undeferred = p.undeferred; in_order = λ o. p.in_order o ∙ no-reply w.to_debugger (Report c, after) (commands w.to_target) refl }

none-released : (place : ℕ) (d : List (Ticket × Command)) (x : Ticket × Command) (rest : List (Ticket × Command)) → d ≡ [] → released_at place d ≡ Some (x, rest) → ⊥
none-released zero [] x rest n e = cc
none-released (suc place) [] x rest n e = cc
none-released place (p ∷ ps) x rest n e = cc

not-deferred : {S : Type 0} (w : World S) (c : Command) → w.deferring ≡ false → defers w c ≡ false
not-deferred w c f = ap (λ b. b && (is_deferrable c.set && nat_lt (length w.deferred) MOST_DEFERRED)) f

ordered-kept : {S : Type 0} (m : Meaning S) (settings : Settings) (w : World S) → Inv m settings w → Ordered w → Kept m settings w Ordered
ordered-kept m settings w i p =
    record {
      attach = λ _ d. record { undeferring = p.undeferring; undeferred = refl; in_order = λ _. (i.debugger.closed d).1 };
      ask = λ c g _. record { undeferring = p.undeferring; undeferred = p.undeferred; in_order = λ o. more-asked w.pending w.to_debugger w.to_target (Some (w.asked + 1)) c (p.in_order o) };
      to_target = λ _. record { undeferring = p.undeferring; undeferred = p.undeferred; in_order = p.in_order };
      to_debugger = λ _. record { undeferring = p.undeferring; undeferred = p.undeferred; in_order = p.in_order };
      greet = λ n rest b _ e _. ordered-greeted settings w n rest b e p;
      command = λ n rest k c _ e.
          ordered-answered (record w { to_target = rest; at_target = n }) k c (effect m settings w.now c) (effect m settings w.now c).dies (effect m settings w.now c).closes
          p.undeferring p.undeferred (λ o. p.in_order o ∙ ap (λ l. replies w.to_debugger ++ commands l) e) refl;
      deferral = λ n rest k c _ _ q. let y = not-deferred w c p.undeferring in absurd (cc);
      release = λ place k c rest _ e. absurd (none-released place w.deferred (k, c) rest p.undeferred e);
      lose = record { undeferring = p.undeferring; undeferred = refl; in_order = p.in_order };
      close = record { undeferring = p.undeferring; undeferred = p.undeferred; in_order = λ x. absurd (cc) };
      end = λ n q rest o e. record { undeferring = p.undeferring; undeferred = p.undeferred; in_order = λ x. absurd (cc) };
      handshake = λ n a rest o g e. record {
        undeferring = p.undeferring;
        undeferred = p.undeferred;
        in_order = λ _. more-asked w.pending rest w.to_target None id_sizes (p.in_order o ∙ ap (λ l. replies l ++ commands w.to_target) e);
      };
      reply = λ n k c x a rest g e. record {
        undeferring = p.undeferring;
        undeferred = p.undeferred;
        in_order = λ o. ap (without_ticket k) (p.in_order o ∙ ap (λ l. replies l ++ commands w.to_target) e) ∙ without-first k c (replies rest ++ commands w.to_target);
      };
      park = λ n c a rest g e. record { undeferring = p.undeferring; undeferred = p.undeferred; in_order = λ o. p.in_order o ∙ ap (λ l. replies l ++ commands w.to_target) e };
      see = λ n c a rest g r e. record { undeferring = p.undeferring; undeferred = p.undeferred; in_order = λ o. p.in_order o ∙ ap (λ l. replies l ++ commands w.to_target) e };
      step = λ t _. ordered-ended (with_report w (occurs m w.now t).after (occurs m w.now t).sends) w.target (occurs m w.now t).dies (ordered-told w (occurs m w.now t).after (occurs m w.now t).sends p);
    }

pub ordered_next : {S : Type 0} (m : Meaning S) (settings : Settings) (measure : Measure) (w : World S) (e : LinkEvent) → begins_deferring e ≡ false → Inv m settings w → Ordered w → Ordered (next m settings measure w e).0
ordered_next m settings measure w e n i p =
    kept_next m settings measure w Ordered e p (ordered-kept m settings w i p)
    (λ deferring q. record { undeferring = ap begins_deferring (sym q) ∙ n; undeferred = p.undeferred; in_order = p.in_order })

-- every packet that is sent is fair, and every request has a policy
use Rattle.std.proofs.Common.{◌≡◌, ℕ, ◌≤◌, Bool, true, false, cond, Option, Some, None, List, [], ◌∷◌, ◌++◌, refl, sym, ◌∙◌, subst, append_assoc}
use Rattle.std.specs.List.{filter}
use Rattle.jdwp_layout.specs.declared.answer.Answer.{Answer}
use Rattle.jdwp_layout.specs.declared.answer.Answer.TheVariants.{Data, Error}
use Rattle.jdwp_layout.specs.Meanings.{ScalarMeaning}
use Rattle.jdwp_end.specs.declared.phase.Phase.{Phase}
use Rattle.jdwp_end.specs.declared.phase.Phase.TheVariants.{Closed, AwaitingHandshake, Established}
use Rattle.jdwp_event.specs.Requests.{AskedRequest, all_asked}
use Rattle.jdwp_event.specs.Composites.{CompositeMeaning, POLICY_ALL, vm_death}
use Rattle.jdwp_machine.specs.Meanings.{Meaning}
use Rattle.jdwp_debuggee.specs.Settings.{Settings}
use Rattle.jdwp_debuggee.specs.State.{Moment, count_of}
use Rattle.jdwp_action.specs.Actions
use Rattle.jdwp_action.specs.Actions.{Command, Action, action_of}
use Rattle.jdwp_debuggee.specs.Answers.{least_thread}
use Rattle.jdwp_debuggee.specs.Effects.{Effect, effect}
use Rattle.jdwp_debuggee.specs.Steps.{occurs, start_event}
use Rattle.jdwp_debuggee.specs.Facts.{IsSound, Told, is_data, is_not_asked, is_no_asked_breakpoint, requests_moved}
use Rattle.jdwp_debuggee.specs.Reports.{HavePolicies, IsReport}
use Rattle.jdwp_mirror.specs.Messages.{Ticket, Call, Handshake, Reply, Report}
use Rattle.jdwp_mirror.specs.Faults.{is_bad_reply}
use Rattle.jdwp_model.specs.World.{Packet, World}
use Rattle.jdwp_model.specs.Next.{started, greets_by, after_death, answers, dies_by, carries_out, with_report, step_ends}
use Rattle.jdwp_model.specs.Rests.{Rests}
use Rattle.jdwp_model.proofs.Keeps.{Inv}
use Rattle.jdwp_model.proofs.Cases.{Kept}
use Rattle.jdwp_model.proofs.Fair.{IsFair, AllFair, fair_more, reply_fair, report_fair, start_fair, death_fair}

pub record Fairness {S : Type 0} (w : World S) : Type 0 where
  pub policies : HavePolicies (all_asked w.now.state.requests)
  pub parked : AllFair w.parked
  pub sent : AllFair w.to_debugger

-- ---- policies

policies-filter : (p : AskedRequest → Bool) (rs : List AskedRequest) → HavePolicies rs → HavePolicies (filter p rs)
policies-filter p [] h = tt
policies-filter p (r ∷ rs) h = elim (p r) as (λ b. HavePolicies (cond b (r ∷ filter p rs) (filter p rs))) [ true ↦ (h.0, policies-filter p rs h.1) | false ↦ policies-filter p rs h.1 ]

policies-more : (rs : List AskedRequest) (r : AskedRequest) → HavePolicies rs → r.policy ≤ POLICY_ALL → HavePolicies (rs ++ r ∷ [])
policies-more [] r h l = (l, tt)
policies-more (x ∷ xs) r h l = (h.0, policies-more xs r h.1 l)

-- whoever sets a request sets one of the three policies
abbrev SetsPolicy : Action → Answer → Type 0
SetsPolicy a x = (byte policy : ℕ) (entries : List (List ScalarMeaning)) → a ≡ Actions.SetRequest byte policy entries → is_data x ≡ true → policy ≤ POLICY_ALL

policies-moved : (a : Action) (x : Answer) (next : ℕ) (rs : List AskedRequest) → HavePolicies rs → SetsPolicy a x → HavePolicies (requests_moved a x next rs)
policies-moved (Actions.SetRequest byte policy entries) (Data content) next rs h s = policies-more rs _ h (s byte policy entries refl refl)
policies-moved (Actions.ClearRequest byte id) (Data content) next rs h s = policies-filter (is_not_asked byte id) rs h
policies-moved Actions.ClearBreakpoints (Data content) next rs h s = policies-filter is_no_asked_breakpoint rs h
policies-moved Actions.Dispose (Data content) next rs h s = tt
policies-moved Actions.Exit (Data content) next rs h s = tt
policies-moved a (Data content) next rs h s = h
policies-moved a (Error e) next rs h s = h

-- ---- changes

fair-greet : {S : Type 0} (settings : Settings) (w : World S) (n : ℕ) (rest : List Call) (b : Bool) → Fairness w → (w.now.state.handshaken ≡ false → count_of w.now.state (least_thread w.now.state) ≡ Some 0) → w.now.state.handshaken ≡ b → Fairness (greets_by settings (record w { to_target = rest; at_target = n }) b)
fair-greet settings w n rest true f u h = record { policies = f.policies; parked = f.parked; sent = fair_more w.to_debugger (Handshake, w.now) f.sent tt }
fair-greet settings w n rest false f u h =
    record {
      policies = f.policies;
      parked = f.parked;
      sent = subst AllFair (append_assoc w.to_debugger ((Handshake, w.now) ∷ []) ((Report (start_event settings w.now.state), started settings w.now) ∷ []))
          (fair_more (w.to_debugger ++ (Handshake, w.now) ∷ []) (Report (start_event settings w.now.state), started settings w.now) (fair_more w.to_debugger (Handshake, w.now) f.sent tt) (start_fair settings w.now (u h)));
    }

fair-answered : {S : Type 0} (v : World S) (k : Ticket) (c : Command) (e : Effect S) (dies : Bool) → Fairness v → HavePolicies (all_asked e.after.state.requests) → is_bad_reply c e.answer ≡ false → Fairness (dies_by (answers v k c e) dies)
fair-answered v k c e false f p h = record { policies = p; parked = f.parked; sent = fair_more v.to_debugger (Reply k c e.answer, e.after) f.sent h }
fair-answered v k c e true f p h =
    record {
      policies = p;
      parked = f.parked;
      sent = fair_more (v.to_debugger ++ (Reply k c e.answer, e.after) ∷ []) (Report vm_death, after_death e.after) (fair_more v.to_debugger (Reply k c e.answer, e.after) f.sent h) (death_fair (after_death e.after));
    }

fair-command : {S : Type 0} (m : Meaning S) → Rests m → (settings : Settings) (v : World S) (k : Ticket) (c : Command) → IsSound m settings v.now → Fairness v → Fairness (carries_out m settings v k c)
fair-command m rests settings v k c s f =
    let d = (rests.facts settings).does v.now c s in
    fair-answered v k c (effect m settings v.now c) (effect m settings v.now c).dies f
    (subst HavePolicies (sym d.requests) (policies-moved (action_of c) (effect m settings v.now c).answer v.now.state.next_request (all_asked v.now.state.requests) f.policies (rests.policies settings v.now c)))
    (reply_fair m rests settings v.now c s d)

fair-died : {S : Type 0} (w : World S) (after : Moment S) (phase : Phase) → Fairness w → HavePolicies (all_asked after.state.requests) → Fairness (step_ends (record w { now = after }) phase true)
fair-died w after Established f p = record { policies = p; parked = f.parked; sent = fair_more w.to_debugger (Report vm_death, after_death after) f.sent (death_fair (after_death after)) }
fair-died w after AwaitingHandshake f p = record { policies = p; parked = f.parked; sent = f.sent }
fair-died w after Closed f p = record { policies = p; parked = f.parked; sent = f.sent }

fair-stepped : {S : Type 0} (m : Meaning S) (w : World S) (after : Moment S) (o : Option CompositeMeaning) (dies : Bool) → Fairness w → Told m w.now after dies o → ((c : CompositeMeaning) → o ≡ Some c → IsReport c) → Fairness (step_ends (with_report w after o) w.target dies)
fair-stepped m w after None true f d r = fair-died w after w.target f (subst (λ l. HavePolicies (all_asked l)) (sym d.no_requests) tt)
fair-stepped m w after None false f d r = record { policies = subst HavePolicies (sym d.same_requests) f.policies; parked = f.parked; sent = f.sent }
fair-stepped m w after (Some c) true f d r = let x : true ≡ false = d.0 in absurd (cc)
fair-stepped m w after (Some c) false f d r =
    record {
      policies = subst HavePolicies (sym (d.1.same_requests ∙ d.1.quiet.same_requests)) f.policies;
      parked = f.parked;
      sent = fair_more w.to_debugger (Report c, after) f.sent (report_fair m w.now after c d.1 (r c refl));
    }

-- a packet was taken from those that were sent
taken : {S : Type 0} (ps rest : List (Packet S)) (p : Packet S) → AllFair ps → ps ≡ p ∷ rest → IsFair p × AllFair rest
taken ps rest p f e = subst AllFair e f

pub fairness_kept : {S : Type 0} (m : Meaning S) → Rests m → (settings : Settings) (w : World S) → Inv m settings w → Fairness w → Kept m settings w Fairness
fairness_kept m rests settings w i f =
    record {
      attach = λ _ _. record { policies = f.policies; parked = tt; sent = tt };
      ask = λ c _ _. record { policies = f.policies; parked = f.parked; sent = f.sent };
      to_target = λ _. record { policies = f.policies; parked = f.parked; sent = f.sent };
      to_debugger = λ _. record { policies = f.policies; parked = f.parked; sent = f.sent };
      greet = λ n rest b _ _ h. fair-greet settings w n rest b f i.target.unborn h;
      command = λ n rest k c _ _. fair-command m rests settings (record w { to_target = rest; at_target = n }) k c i.target.sound (record { policies = f.policies; parked = f.parked; sent = f.sent });
      deferral = λ n rest k c _ _ _. record { policies = f.policies; parked = f.parked; sent = f.sent };
      release = λ place k c rest _ _. fair-command m rests settings (record w { deferred = rest }) k c i.target.sound (record { policies = f.policies; parked = f.parked; sent = f.sent });
      lose = record { policies = tt; parked = f.parked; sent = f.sent };
      close = record { policies = f.policies; parked = tt; sent = f.sent };
      end = λ _ p rest _ e. record { policies = f.policies; parked = tt; sent = (taken w.to_debugger rest p f.sent e).1 };
      handshake = λ _ a rest _ _ e. record { policies = f.policies; parked = f.parked; sent = (taken w.to_debugger rest (Handshake, a) f.sent e).1 };
      reply = λ _ k c x a rest _ e. record { policies = f.policies; parked = tt; sent = (taken w.to_debugger rest (Reply k c x, a) f.sent e).1 };
      park = λ _ c a rest _ e.
          let t = taken w.to_debugger rest (Report c, a) f.sent e in
          record { policies = f.policies; parked = fair_more w.parked (Report c, a) f.parked t.0; sent = t.1 };
      see = λ _ c a rest _ _ e. record { policies = f.policies; parked = f.parked; sent = (taken w.to_debugger rest (Report c, a) f.sent e).1 };
      step = λ t may.
          let d = (rests.facts settings).happens w.now t i.target.sound may in
          fair-stepped m w (occurs m w.now t).after (occurs m w.now t).sends (occurs m w.now t).dies f d.told (λ c e. rests.reports w.now t c f.policies e);
    }

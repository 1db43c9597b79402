-- what a target defers
use Rattle.std.proofs.Common.{◌≡◌, ℕ, zero, suc, ◌+◌, ◌<◌, ◌≤◌, Bool, true, false, ◌&&◌, cond, Option, Some, None, List, [], ◌∷◌, ◌++◌, length, refl, sym, ◌∙◌, ap, subst, arith}
use Rattle.std.specs.Prelude.{nat_lt}
use Rattle.std.proofs.lemmas.Bool.{ltb-true}
use Rattle.jdwp_end.specs.declared.phase.Phase.{Phase}
use Rattle.jdwp_end.specs.declared.phase.Phase.TheVariants.{Closed, AwaitingHandshake, Established}
use Rattle.jdwp_end.specs.Ends.{is_established_phase}
use Rattle.jdwp_event.specs.Composites.{CompositeMeaning}
use Rattle.jdwp_machine.specs.Meanings.{Meaning}
use Rattle.jdwp_debuggee.specs.Settings.{Settings}
use Rattle.jdwp_debuggee.specs.State.{Moment}
use Rattle.jdwp_action.specs.Actions.{Command}
use Rattle.jdwp_debuggee.specs.Effects.{Effect, effect}
use Rattle.jdwp_debuggee.specs.Steps.{occurs}
use Rattle.jdwp_debuggee.specs.Deferring.{is_deferrable, MOST_DEFERRED, beside, released_at}
use Rattle.jdwp_mirror.specs.Messages.{Ticket, Call}
use Rattle.jdwp_model.specs.World.{World}
use Rattle.jdwp_model.specs.Next.{greets_by, dies_by, answers, with_report, step_ends}
use Rattle.jdwp_model.specs.Deferred.{AreDeferrable, DefersFew}
use Rattle.jdwp_model.proofs.Session.{and-left, and-right}
use Rattle.jdwp_model.proofs.Cases.{Kept}

-- ---- lists

-- what is left when one was released
abbrev IsLess : List (Ticket × Command) → List (Ticket × Command) → Type 0
IsLess deferred rest = (length rest ≤ length deferred) × (AreDeferrable deferred → AreDeferrable rest)

beside-less : (p : Ticket × Command) (d : List (Ticket × Command)) (o : Option ((Ticket × Command) × List (Ticket × Command))) → ((x : Ticket × Command) (rest : List (Ticket × Command)) → o ≡ Some (x, rest) → IsLess d rest) → (x : Ticket × Command) (rest : List (Ticket × Command)) → beside p o ≡ Some (x, rest) → IsLess (p ∷ d) rest
beside-less p d None h x rest e = absurd (cc)
beside-less p d (Some (q, qs)) h x rest e =
    let a = h q qs refl in
    let l : length qs ≤ length d = a.0 in
    let y : (q, p ∷ qs) ≡ (x, rest) = cc in
    subst (λ (o : (Ticket × Command) × List (Ticket × Command)). IsLess (p ∷ d) o.1) y (omega arith, λ s. (s.0, a.1 s.1))

released-less : (place : ℕ) (d : List (Ticket × Command)) (x : Ticket × Command) (rest : List (Ticket × Command)) → released_at place d ≡ Some (x, rest) → IsLess d rest
released-less zero [] x rest e = absurd (cc)
released-less (suc place) [] x rest e = absurd (cc)
released-less zero (p ∷ ps) x rest e = let y : (p, ps) ≡ (x, rest) = cc in subst (λ (o : (Ticket × Command) × List (Ticket × Command)). IsLess (p ∷ ps) o.1) y (omega arith, λ s. s.1)
released-less (suc place) (p ∷ ps) x rest e = beside-less p ps (released_at place ps) (released-less place ps) x rest e

deferrable-more : (d : List (Ticket × Command)) (p : Ticket × Command) → AreDeferrable d → is_deferrable p.1.set ≡ true → AreDeferrable (d ++ p ∷ [])
deferrable-more [] p s h = (h, tt)
deferrable-more (q ∷ qs) p s h = (s.0, deferrable-more qs p s.1 h)

length-more : (d : List (Ticket × Command)) (p : Ticket × Command) → length (d ++ p ∷ []) ≡ length d + 1
length-more [] p = refl
length-more (q ∷ qs) p = let e : length (qs ++ p ∷ []) ≡ length qs + 1 = length-more qs p in omega arith

-- ---- changes

few-answered : {S : Type 0} (v : World S) (k : Ticket) (c : Command) (e : Effect S) (dies closes : Bool) → v.target ≡ Established → length v.deferred ≤ MOST_DEFERRED → AreDeferrable v.deferred → e.closes ≡ closes → DefersFew (dies_by (answers v k c e) dies)
few-answered v k c e true closes t h s q = record { few = omega arith; deferrable = tt; none = λ _. refl }
few-answered v k c e false true t h s q =
    let z : cond e.closes [] v.deferred ≡ [] = ap (λ b. cond b [] v.deferred) q in
    record { few = subst (λ l. length l ≤ MOST_DEFERRED) (sym z) (omega arith); deferrable = subst AreDeferrable (sym z) tt; none = λ _. z }
few-answered v k c e false false t h s q =
    let z : cond e.closes [] v.deferred ≡ v.deferred = ap (λ b. cond b [] v.deferred) q in
    let y : cond e.closes Closed v.target ≡ v.target = ap (λ b. cond b Closed v.target) q in
    let u : is_established_phase (cond e.closes Closed v.target) ≡ true = ap is_established_phase y ∙ ap is_established_phase t in
    record { few = subst (λ l. length l ≤ MOST_DEFERRED) (sym z) h; deferrable = subst AreDeferrable (sym z) s; none = λ x. absurd (cc) }

few-greeted : {S : Type 0} (settings : Settings) (w : World S) (n : ℕ) (rest : List Call) (b : Bool) → DefersFew w → DefersFew (greets_by settings (record w { to_target = rest; at_target = n }) b)
few-greeted settings w n rest true p = record { few = p.few; deferrable = p.deferrable; none = λ x. absurd (cc) }
few-greeted settings w n rest false p = record { few = p.few; deferrable = p.deferrable; none = λ x. absurd (cc) }

few-ended : {S : Type 0} (w : World S) (phase : Phase) (dies : Bool) → DefersFew w → DefersFew (step_ends w phase dies)
few-ended w phase false p = p
few-ended w Established true p = record { few = omega arith; deferrable = tt; none = λ _. refl }
few-ended w AwaitingHandshake true p = record { few = omega arith; deferrable = tt; none = λ _. refl }
few-ended w Closed true p = record { few = omega arith; deferrable = tt; none = λ _. refl }

few-told : {S : Type 0} (w : World S) (after : Moment S) (o : Option CompositeMeaning) → DefersFew w → DefersFew (with_report w after o)
few-told w after None p = record { few = p.few; deferrable = p.deferrable; none = p.none }
few-told w after (Some c) p = record { few = p.few; deferrable = p.deferrable; none = p.none }

pub few_deferred : {S : Type 0} (w : World S) (deferring : Bool) → DefersFew w → DefersFew (record w { deferring = deferring })
few_deferred w deferring p = record { few = p.few; deferrable = p.deferrable; none = p.none }

pub deferred_kept : {S : Type 0} (m : Meaning S) (settings : Settings) (w : World S) → DefersFew w → Kept m settings w DefersFew
deferred_kept m settings w p =
    record {
      attach = λ _ _. record { few = omega arith; deferrable = tt; none = λ _. refl };
      ask = λ _ _ _. record { few = p.few; deferrable = p.deferrable; none = p.none };
      to_target = λ _. record { few = p.few; deferrable = p.deferrable; none = p.none };
      to_debugger = λ _. record { few = p.few; deferrable = p.deferrable; none = p.none };
      greet = λ n rest b _ _ _. few-greeted settings w n rest b p;
      command = λ n rest k c t _. few-answered (record w { to_target = rest; at_target = n }) k c (effect m settings w.now c) (effect m settings w.now c).dies (effect m settings w.now c).closes t p.few p.deferrable refl;
      deferral = λ n rest k c t _ q.
          let a : (is_deferrable c.set && nat_lt (length w.deferred) MOST_DEFERRED) ≡ true = and-right w.deferring _ q in
          let l : length w.deferred < 16 = ltb-true (length w.deferred) 16 (and-right (is_deferrable c.set) _ a) in
          let e : length (w.deferred ++ (k, c) ∷ []) ≡ length w.deferred + 1 = length-more w.deferred (k, c) in
          let u : is_established_phase w.target ≡ true = ap is_established_phase t in
          record { few = omega arith; deferrable = deferrable-more w.deferred (k, c) p.deferrable (and-left _ _ a); none = λ x. absurd (cc) };
      release = λ place k c rest t e.
          let a = released-less place w.deferred (k, c) rest e in
          let l : length rest ≤ length w.deferred = a.0 in
          let f : length w.deferred ≤ 16 = p.few in
          let g : length rest ≤ 16 = omega arith in
          few-answered (record w { deferred = rest }) k c (effect m settings w.now c) (effect m settings w.now c).dies (effect m settings w.now c).closes t g (a.1 p.deferrable) refl;
      lose = record { few = omega arith; deferrable = tt; none = λ _. refl };
      close = record { few = p.few; deferrable = p.deferrable; none = p.none };
      end = λ _ _ _ _ _. record { few = p.few; deferrable = p.deferrable; none = p.none };
      handshake = λ _ _ _ _ _ _. record { few = p.few; deferrable = p.deferrable; none = p.none };
      reply = λ _ _ _ _ _ _ _ _. record { few = p.few; deferrable = p.deferrable; none = p.none };
      park = λ _ _ _ _ _ _. record { few = p.few; deferrable = p.deferrable; none = p.none };
      see = λ _ _ _ _ _ _ _. record { few = p.few; deferrable = p.deferrable; none = p.none };
      step = λ t _. few-ended (with_report w (occurs m w.now t).after (occurs m w.now t).sends) w.target (occurs m w.now t).dies (few-told w (occurs m w.now t).after (occurs m w.now t).sends p);
    }

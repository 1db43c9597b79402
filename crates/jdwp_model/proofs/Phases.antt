-- each end's first message is its handshake, and no other is
use Rattle.std.proofs.Common.{◌≡◌, ℕ, ◌+◌, Bool, true, false, ◌&&◌, not, cond, Option, Some, None, List, [], ◌∷◌, ◌++◌, refl, sym, ◌∙◌, ap, subst}
use Rattle.jdwp_end.specs.declared.phase.Phase.{Phase}
use Rattle.jdwp_end.specs.declared.phase.Phase.TheVariants.{Closed, AwaitingHandshake, Established}
use Rattle.jdwp_end.specs.Ends.{is_established_phase}
use Rattle.jdwp_event.specs.Composites.{CompositeMeaning, vm_death}
use Rattle.jdwp_machine.specs.Meanings.{Meaning}
use Rattle.jdwp_debuggee.specs.Settings.{Settings}
use Rattle.jdwp_debuggee.specs.State.{Moment}
use Rattle.jdwp_debuggee.specs.Effects.{Effect, effect}
use Rattle.jdwp_debuggee.specs.Steps.{occurs, start_event}
use Rattle.jdwp_debuggee.specs.Facts.{Told}
use Rattle.jdwp_action.specs.Actions.{Command}
use Rattle.jdwp_mirror.specs.Messages.{Ticket, Call, Greets, Asks, Message, Handshake, Reply, Report, id_sizes}
use Rattle.jdwp_model.specs.World.{is_closed, Packet, World}
use Rattle.jdwp_model.specs.Next.{started, greets_by, after_death, answers, dies_by, with_report, step_ends}
use Rattle.jdwp_model.specs.Rests.{Rests}
use Rattle.jdwp_model.proofs.Session.{and-left, and-right}
use Rattle.jdwp_model.proofs.Keeps.{Inv}
use Rattle.jdwp_model.proofs.Cases.{Kept}

abbrev pub is_waiting : Phase → Bool
is_waiting Closed = false
is_waiting AwaitingHandshake = true
is_waiting Established = false

abbrev pub is_handshake : Message → Bool
is_handshake Handshake = true
is_handshake (Reply k c x) = false
is_handshake (Report c) = false

abbrev pub no_handshake : {S : Type 0} → List (Packet S) → Bool
no_handshake [] = true
no_handshake (p ∷ ps) = not (is_handshake p.0) && no_handshake ps

-- the handshake stands first alone, or nothing was sent by a target that is not open
abbrev pub begins : {S : Type 0} → Bool → List (Packet S) → Bool
begins opened [] = not opened
begins opened (p ∷ ps) = is_handshake p.0 && no_handshake ps

abbrev pub greets : Call → Bool
greets Greets = true
greets (Asks k c) = false

abbrev pub no_greeting : List Call → Bool
no_greeting [] = true
no_greeting (call ∷ calls) = not (greets call) && no_greeting calls

-- What holds of both ends' phases, and of what is under way between them.
pub record Phases {S : Type 0} (target debugger : Phase) (calls : List Call) (td : List (Packet S)) : Type 0 where
  pub waits : is_waiting target ≡ true → (calls ≡ Greets ∷ []) × (td ≡ []) × (is_established_phase debugger ≡ false)
  pub asked : is_established_phase target ≡ true → no_greeting calls ≡ true
  pub first : is_waiting debugger ≡ true → begins (is_established_phase target) td ≡ true
  pub later : is_established_phase debugger ≡ true → no_handshake td ≡ true

abbrev pub PhasesOf : {S : Type 0} → World S → Type 0
PhasesOf w = Phases w.target w.debugger w.to_target w.to_debugger

-- ---- lists

handshake-more : {S : Type 0} (ps : List (Packet S)) (p : Packet S) → no_handshake ps ≡ true → is_handshake p.0 ≡ false → no_handshake (ps ++ p ∷ []) ≡ true
handshake-more [] p h e = ap (λ b. not b && true) e
handshake-more (q ∷ qs) p h e =
    ap (λ b. b && no_handshake (qs ++ p ∷ [])) (and-left (not (is_handshake q.0)) _ h) ∙ handshake-more qs p (and-right (not (is_handshake q.0)) _ h) e

begins-more : {S : Type 0} (b : Bool) (ps : List (Packet S)) (p : Packet S) → begins true ps ≡ true → is_handshake p.0 ≡ false → begins b (ps ++ p ∷ []) ≡ true
begins-more b [] p h e = absurd (cc)
begins-more b (q ∷ qs) p h e = ap (λ x. x && no_handshake (qs ++ p ∷ [])) (and-left (is_handshake q.0) _ h) ∙ handshake-more qs p (and-right (is_handshake q.0) _ h) e

begins-closed : {S : Type 0} (b : Bool) (ps : List (Packet S)) → begins b ps ≡ true → begins false ps ≡ true
begins-closed b [] h = refl
begins-closed b (p ∷ ps) h = h

greeting-more : (calls : List Call) (k : Ticket) (c : Command) → no_greeting calls ≡ true → no_greeting (calls ++ Asks k c ∷ []) ≡ true
greeting-more [] k c h = refl
greeting-more (call ∷ calls) k c h =
    ap (λ b. b && no_greeting (calls ++ Asks k c ∷ [])) (and-left (not (greets call)) _ h) ∙ greeting-more calls k c (and-right (not (greets call)) _ h)

pub waits-or : (p : Phase) → is_closed p ≡ false → is_established_phase p ≡ false → is_waiting p ≡ true
waits-or Closed o g = absurd (cc)
waits-or AwaitingHandshake o g = refl
waits-or Established o g = absurd (cc)

open-waits : (p : Phase) → is_established_phase p ≡ true → is_waiting p ≡ false
open-waits Closed h = absurd (cc)
open-waits AwaitingHandshake h = absurd (cc)
open-waits Established h = refl

-- ---- changes

-- a packet that is no handshake is sent by an open target
sent : {S : Type 0} (target after debugger : Phase) (calls rest : List Call) (td : List (Packet S)) (p : Packet S) → Phases target debugger calls td → is_established_phase target ≡ true → is_waiting after ≡ false → no_greeting rest ≡ true → is_handshake p.0 ≡ false → Phases after debugger rest (td ++ p ∷ [])
sent target after debugger calls rest td p h o w g e =
    record {
      waits = λ x. absurd (cc);
      asked = λ _. g;
      first = λ x. begins-more (is_established_phase after) td p (ap (λ b. begins b td) (sym o) ∙ h.first x) e;
      later = λ x. handshake-more td p (h.later x) e;
    }

shut : {S : Type 0} (target debugger : Phase) (calls : List Call) (td : List (Packet S)) → Phases target debugger calls td → Phases Closed debugger calls td
shut target debugger calls td h = record { waits = λ x. absurd (cc); asked = λ x. absurd (cc); first = λ x. begins-closed (is_established_phase target) td (h.first x); later = h.later }

-- the debugger reads a packet
taken : {S : Type 0} (target debugger after : Phase) (calls : List Call) (td rest : List (Packet S)) (p : Packet S) → Phases target debugger calls td → td ≡ p ∷ rest → is_waiting after ≡ false → (is_established_phase after ≡ true → no_handshake rest ≡ true) → Phases target after calls rest
taken target debugger after calls td rest p h e w l =
    record {
      waits = λ x. let y : td ≡ [] = (h.waits x).1 in absurd (cc);
      asked = h.asked;
      first = λ x. absurd (cc);
      later = l;
    }

rest-of : {S : Type 0} (target debugger : Phase) (calls : List Call) (td rest : List (Packet S)) (p : Packet S) → Phases target debugger calls td → is_established_phase debugger ≡ true → td ≡ p ∷ rest → no_handshake rest ≡ true
rest-of target debugger calls td rest p h o e = and-right (not (is_handshake p.0)) _ (ap no_handshake (sym e) ∙ h.later o)

greeted : {S : Type 0} (debugger : Phase) (calls : List Call) (td ps : List (Packet S)) → calls ≡ [] → td ≡ [] → is_established_phase debugger ≡ false → begins true ps ≡ true → Phases Established debugger calls (td ++ ps)
greeted debugger calls td ps c e d b =
    record {
      waits = λ x. absurd (cc);
      asked = λ _. ap no_greeting c;
      first = λ _. ap (λ l. begins true (l ++ ps)) e ∙ b;
      later = λ x. absurd (cc);
    }

rest-nil : (rest calls : List Call) → calls ≡ Greets ∷ rest → calls ≡ Greets ∷ [] → rest ≡ []
rest-nil rest calls e h = let x : Greets ∷ rest ≡ Greets ∷ [] = sym e ∙ h in cc

phases-greet : {S : Type 0} (settings : Settings) (w : World S) (n : ℕ) (rest : List Call) (b : Bool) → PhasesOf w → w.target ≡ AwaitingHandshake → w.to_target ≡ Greets ∷ rest → PhasesOf (greets_by settings (record w { to_target = rest; at_target = n }) b)
phases-greet settings w n rest true p t e =
    let x = p.waits (ap is_waiting t) in
    greeted w.debugger rest w.to_debugger ((Handshake, w.now) ∷ []) (rest-nil rest w.to_target e x.0) x.1 x.2 refl
phases-greet settings w n rest false p t e =
    let x = p.waits (ap is_waiting t) in
    greeted w.debugger rest w.to_debugger ((Handshake, w.now) ∷ (Report (start_event settings w.now.state), started settings w.now) ∷ []) (rest-nil rest w.to_target e x.0) x.1 x.2 refl

rest-asked : (rest calls : List Call) (k : Ticket) (c : Command) → calls ≡ Asks k c ∷ rest → no_greeting calls ≡ true → no_greeting rest ≡ true
rest-asked rest calls k c e h = ap no_greeting (sym e) ∙ h

open-or-closed : (b : Bool) → is_waiting (cond b Closed Established) ≡ false
open-or-closed true = refl
open-or-closed false = refl

-- a command was taken
phases-taken : {S : Type 0} (target debugger : Phase) (calls rest : List Call) (td : List (Packet S)) (k : Ticket) (c : Command) → target ≡ Established → calls ≡ Asks k c ∷ rest → Phases target debugger calls td → Phases target debugger rest td
phases-taken target debugger calls rest td k c t e p =
    let w : is_waiting target ≡ false = ap is_waiting t in
    record { waits = λ x. absurd (cc); asked = λ x. rest-asked rest calls k c e (p.asked x); first = p.first; later = p.later }

phases-command : {S : Type 0} (v : World S) (k : Ticket) (c : Command) (e : Effect S) (dies : Bool) → PhasesOf v → v.target ≡ Established → PhasesOf (dies_by (answers v k c e) dies)
phases-command v k c e false p t =
    sent v.target (cond e.closes Closed v.target) v.debugger v.to_target v.to_target v.to_debugger (Reply k c e.answer, e.after) p (ap is_established_phase t) (subst (λ p. is_waiting (cond e.closes Closed p) ≡ false) (sym t) (open-or-closed e.closes)) (p.asked (ap is_established_phase t)) refl
phases-command v k c e true p t =
    let g = p.asked (ap is_established_phase t) in
    sent Established Closed v.debugger v.to_target v.to_target (v.to_debugger ++ (Reply k c e.answer, e.after) ∷ []) (Report vm_death, after_death e.after)
    (sent v.target Established v.debugger v.to_target v.to_target v.to_debugger (Reply k c e.answer, e.after) p (ap is_established_phase t) refl g refl) refl refl g refl

phases-died : {S : Type 0} (w : World S) (after : Moment S) (phase : Phase) → PhasesOf w → w.target ≡ phase → PhasesOf (step_ends (record w { now = after }) phase true)
phases-died w after Established p t = sent w.target Closed w.debugger w.to_target w.to_target w.to_debugger (Report vm_death, after_death after) p (ap is_established_phase t) refl (p.asked (ap is_established_phase t)) refl
phases-died w after AwaitingHandshake p t = shut w.target w.debugger w.to_target w.to_debugger p
phases-died w after Closed p t = shut w.target w.debugger w.to_target w.to_debugger p

phases-stepped : {S : Type 0} (m : Meaning S) (w : World S) (after : Moment S) (o : Option CompositeMeaning) (dies : Bool) → PhasesOf w → Told m w.now after dies o → (is_established_phase w.target ≡ false → o ≡ None) → PhasesOf (step_ends (with_report w after o) w.target dies)
phases-stepped m w after None true p d i = phases-died w after w.target p refl
phases-stepped m w after None false p d i = p
phases-stepped m w after (Some c) true p d i = let x : true ≡ false = d.0 in absurd (cc)
phases-stepped m w after (Some c) false p d i =
    let o : is_established_phase w.target ≡ true = elim (is_established_phase w.target) as (λ b. is_established_phase w.target ≡ b → b ≡ true) [ true ↦ λ _. refl | false ↦ λ x. let y = i x in absurd (cc) ] refl in
    sent w.target w.target w.debugger w.to_target w.to_target w.to_debugger (Report c, after) p o (open-waits w.target o) (p.asked o) refl

pub phases_kept : {S : Type 0} (m : Meaning S) → Rests m → (settings : Settings) (w : World S) → Inv m settings w → PhasesOf w → Kept m settings w PhasesOf
phases_kept m rests settings w i p =
    record {
      attach = λ _ _. record { waits = λ _. (refl, refl, refl); asked = λ x. absurd (cc); first = λ _. refl; later = λ x. absurd (cc) };
      ask = λ c o _. record {
        waits = λ x. let y : is_established_phase w.debugger ≡ false = (p.waits x).2 in absurd (cc);
        asked = λ x. greeting-more w.to_target (Some (w.asked + 1)) c (p.asked x);
        first = p.first;
        later = p.later;
      };
      to_target = λ _. p;
      to_debugger = λ _. p;
      greet = λ n rest b t e _. phases-greet settings w n rest b p t e;
      command = λ n rest k c t e. phases-command (record w { to_target = rest; at_target = n }) k c (effect m settings w.now c) (effect m settings w.now c).dies (phases-taken w.target w.debugger w.to_target rest w.to_debugger k c t e p) t;
      deferral = λ n rest k c t e _. phases-taken w.target w.debugger w.to_target rest w.to_debugger k c t e p;
      release = λ place k c rest t _. phases-command (record w { deferred = rest }) k c (effect m settings w.now c) (effect m settings w.now c).dies p t;
      lose = shut w.target w.debugger w.to_target w.to_debugger p;
      close = record { waits = λ x. ((p.waits x).0, (p.waits x).1, refl); asked = p.asked; first = λ x. absurd (cc); later = λ x. absurd (cc) };
      end = λ _ q rest _ e. taken w.target w.debugger Closed w.to_target w.to_debugger rest q p e refl (λ x. absurd (cc));
      handshake = λ _ a rest o g e.
          let b : begins (is_established_phase w.target) ((Handshake, a) ∷ rest) ≡ true = ap (begins (is_established_phase w.target)) (sym e) ∙ p.first (waits-or w.debugger o g) in
          let q = taken w.target w.debugger Established w.to_target w.to_debugger rest (Handshake, a) p e refl (λ _. b) in
          record {
            waits = λ x. let y : w.to_debugger ≡ [] = (p.waits x).1 in absurd (cc);
            asked = λ x. greeting-more w.to_target None id_sizes (p.asked x);
            first = q.first;
            later = q.later;
          };
      reply = λ _ k c x a rest o e. taken w.target w.debugger w.debugger w.to_target w.to_debugger rest (Reply k c x, a) p e (open-waits w.debugger o) (λ _. rest-of w.target w.debugger w.to_target w.to_debugger rest (Reply k c x, a) p o e);
      park = λ _ c a rest o e. taken w.target w.debugger w.debugger w.to_target w.to_debugger rest (Report c, a) p e (open-waits w.debugger o) (λ _. rest-of w.target w.debugger w.to_target w.to_debugger rest (Report c, a) p o e);
      see = λ _ c a rest o _ e. taken w.target w.debugger w.debugger w.to_target w.to_debugger rest (Report c, a) p e (open-waits w.debugger o) (λ _. rest-of w.target w.debugger w.to_target w.to_debugger rest (Report c, a) p o e);
      step = λ t may.
          let d = (rests.facts settings).happens w.now t i.target.sound may in
          phases-stepped m w (occurs m w.now t).after (occurs m w.now t).sends (occurs m w.now t).dies p d.told (λ x. d.silent (i.target.idle x).0);
    }

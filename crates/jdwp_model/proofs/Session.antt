-- a mirror that is right stays right as packets are read, and how far counts move along packets
use Rattle.std.proofs.Common.{◌≡◌, ℕ, ◌==◌, ◌+◌, ◌≤◌, inl, inr, Bool, true, false, ◌||◌, ◌&&◌, not, Option, Some, None, List, [], ◌∷◌, ◌++◌, refl, sym, ◌∙◌, ap, arith, is_some}
use Rattle.jdwp_event.specs.Requests.{all_asked}
use Rattle.jdwp_machine.specs.Meanings.{Meaning}
use Rattle.jdwp_debuggee.specs.State.{Moment, count_of, count_or_zero, or_zero}
use Rattle.jdwp_action.specs.Actions.{action_of, is_dispose}
use Rattle.jdwp_debuggee.specs.Facts.{Quiet}
use Rattle.jdwp_mirror.specs.Messages.{Call, Greets, Asks, Message, Handshake, Reply, Report}
use Rattle.jdwp_mirror.specs.Mirror.{all_kept, learned, teaches, forgets, shows, is_positive, requests_after, ends}
use Rattle.jdwp_model.specs.World.{Packet}
use Rattle.jdwp_model.specs.Next.{entered, has_end}
use Rattle.jdwp_model.specs.Seen.{mirror_count, mirror_held, mirror_requests, is_known, is_shown, is_held, unanswered, lowers, raises, has_dispose, composites_in}
pub use Rattle.jdwp_model.specs.Places.{replies, commands}
use Rattle.jdwp_model.proofs.Plain.{some-same}
use Rattle.jdwp_model.proofs.Acts.{Acts, disposes, move, learned_known, teaches_shows, message_lowers, message_raises, move_lowers, move_raises, move_none, move_some}

-- ---- quiet moments

pub quiet_refl : {S : Type 0} (m : Meaning S) (a : Moment S) → Quiet m a a
quiet_refl m a = record { same_count = λ t. refl; no_birth = λ t n _ h. h; ever = λ t h. h; same_requests = refl; alive = λ h. h }

pub quiet_trans : {S : Type 0} (m : Meaning S) (a b c : Moment S) → Quiet m a b → Quiet m b c → Quiet m a c
quiet_trans m a b c p q =
    record {
      same_count = λ t. q.same_count t ∙ p.same_count t;
      no_birth = λ t n e h. p.no_birth t n e (q.no_birth t n (p.ever t e) h);
      ever = λ t e. q.ever t (p.ever t e);
      same_requests = q.same_requests ∙ p.same_requests;
      alive = λ h. p.alive (q.alive h);
    }

-- ---- packets in order

-- From the moment of one packet to that of the next: nothing was told, and then the next packet.
pub record Sent {S : Type 0} (m : Meaning S) (before : Moment S) (packet : Packet S) : Type 0 where
  pub mid : Moment S
  pub quiet : Quiet m before mid
  pub acts : Acts m packet.0 mid packet.1

abbrev pub Links : {S : Type 0} → Meaning S → Moment S → List (Packet S) → Type 0
Links m base [] = Unit {0}
Links m base (p ∷ ps) = Sent m base p × Links m p.1 ps

abbrev pub last : {S : Type 0} → Moment S → List (Packet S) → Moment S
last base [] = base
last base (p ∷ ps) = last p.1 ps

pub links_more : {S : Type 0} (m : Meaning S) (base : Moment S) (ps : List (Packet S)) (p : Packet S) → Links m base ps → Sent m (last base ps) p → Links m base (ps ++ p ∷ [])
links_more m base [] p l s = (s, tt)
links_more m base (q ∷ qs) p l s = (l.0, links_more m q.1 qs p l.1 s)

pub last_more : {S : Type 0} (base : Moment S) (ps : List (Packet S)) (p : Packet S) → last base (ps ++ p ∷ []) ≡ p.1
last_more base [] p = refl
last_more base (q ∷ qs) p = last_more q.1 qs p

pub links_front : {S : Type 0} (m : Meaning S) (base : Moment S) (xs ys : List (Packet S)) → Links m base (xs ++ ys) → Links m base xs
links_front m base [] ys l = tt
links_front m base (x ∷ xs) ys l = (l.0, links_front m x.1 xs ys l.1)

pub links_back : {S : Type 0} (m : Meaning S) (base : Moment S) (xs ys : List (Packet S)) → Links m base (xs ++ ys) → Links m (last base xs) ys
links_back m base [] ys l = l
links_back m base (x ∷ xs) ys l = links_back m x.1 xs ys l.1

pub last_append : {S : Type 0} (base : Moment S) (xs ys : List (Packet S)) → last base (xs ++ ys) ≡ last (last base xs) ys
last_append base [] ys = refl
last_append base (x ∷ xs) ys = last_append x.1 xs ys

-- ---- the mirror

-- The mirror is right at a moment.
pub record Mirrors {S : Type 0} (m : Meaning S) (read : List (Packet S)) (base : Moment S) : Type 0 where
  pub known_ever : (t n : ℕ) → mirror_count read t ≡ Some n → m.ever base.machine t ≡ true
  pub counts : (t n k : ℕ) → mirror_count read t ≡ Some n → count_of base.state t ≡ Some k → n ≡ k
  pub requests : mirror_requests read ≡ all_kept (all_asked base.state.requests)
  pub known : (t : ℕ) → is_some (mirror_count read t) ≡ is_known read t
  pub held : (t : ℕ) → mirror_held read t ≡ is_held read t
  pub shown : (t : ℕ) → is_shown read t ≡ true → (n : ℕ) × (count_of base.state t ≡ Some n) × ((n == 0) ≡ false)

pub some-zero : (c : Option ℕ) → (or_zero c == 0) ≡ false → (n : ℕ) × (c ≡ Some n) × ((n == 0) ≡ false)
some-zero None h = absurd (cc)
some-zero (Some n) h = (n, refl, h)

pub not-true : (b : Bool) → not b ≡ true → b ≡ false
not-true true h = absurd (cc)
not-true false h = refl

pub and-left : (a b : Bool) → (a && b) ≡ true → a ≡ true
and-left true b h = refl
and-left false b h = h

pub and-right : (a b : Bool) → (a && b) ≡ true → b ≡ true
and-right true b h = h
and-right false b h = absurd (cc)

pub is-some-from : (c : Option ℕ) → is_some c ≡ true → (j : ℕ) × (c ≡ Some j)
is-some-from None h = absurd (cc)
is-some-from (Some j) h = (j, refl)

-- held by the mirror's counts, or by the target's
held_either : (c k : Option ℕ) (s ss kc h : Bool) → h ≡ (kc && ss) → ((i j : ℕ) → c ≡ Some i → k ≡ Some j → i ≡ j) → ((i : ℕ) → c ≡ Some i → s ≡ true → (j : ℕ) × (k ≡ Some j)) → ((i : ℕ) → c ≡ Some i → ss ≡ true → (j : ℕ) × (k ≡ Some j)) → (s ≡ false → is_some c ≡ true → kc ≡ true) → (is_positive c && (s || h)) ≡ (is_some c && (not (or_zero k == 0) && (s || ss)))
held_either None k s ss kc h eh same alive past old = refl
held_either (Some i) (Some j) true ss kc h eh same alive past old = ap (λ n. not (n == 0) && true) (same i j refl refl)
held_either (Some i) (Some j) false ss kc h eh same alive past old =
    ap (λ n. not (n == 0) && h) (same i j refl refl) ∙ ap (λ b. not (j == 0) && b) (eh ∙ ap (λ b. b && ss) (old refl refl))
held_either (Some i) None true ss kc h eh same alive past old = let x = alive i refl refl in absurd (cc (x.1))
held_either (Some i) None false true kc h eh same alive past old = let x = past i refl refl in absurd (cc (x.1))
held_either (Some i) None false false kc h eh same alive past old =
    ap (λ b. not (i == 0) && b) (eh ∙ elim kc as (λ b. (b && false) ≡ false) [ true ↦ refl | false ↦ refl ]) ∙ elim (i == 0) as (λ b. (not b && false) ≡ false) [ true ↦ refl | false ↦ refl ]

positive-stays : {S : Type 0} (m : Meaning S) (a b : Moment S) → Quiet m a b → (t n : ℕ) → count_of a.state t ≡ Some n → (n == 0) ≡ false → (j : ℕ) × (count_of b.state t ≡ Some j) × ((j == 0) ≡ false)
positive-stays m a b q t n e h = some-zero (count_of b.state t) (ap (λ x. x == 0) (q.same_count t ∙ ap or_zero e) ∙ h)

known-parts : (a b c : Bool) → (not a && (b || c)) ≡ true → b ≡ false → c ≡ true
known-parts true b c h e = absurd (cc)
known-parts false true c h e = absurd (cc)
known-parts false false c h e = h

known-before : (message : Message) (t : ℕ) (c : Option ℕ) → ends message ≡ false → shows message t ≡ false → is_some (learned message t c) ≡ true → is_some c ≡ true
known-before message t c d s h = known-parts (forgets message t) (teaches message t) (is_some c) (sym (learned_known message t c d) ∙ h) (teaches_shows message t s)

-- who lives after a packet lived before it
pub moved-some : (message : Message) (t k : ℕ) (c : Option ℕ) → move message t c ≡ Some k → (j : ℕ) × (c ≡ Some j) × (move message t (Some j) ≡ Some k)
moved-some message t k None h = let e = move_none message t in absurd (cc)
moved-some message t k (Some j) h = (j, refl, h)

mirrors-counts : {S : Type 0} (m : Meaning S) (read : List (Packet S)) (base : Moment S) (p : Packet S) → Mirrors m read base → Sent m base p → (t n k : ℕ) → mirror_count (p ∷ read) t ≡ Some n → count_of p.1.state t ≡ Some k → n ≡ k
mirrors-counts m read base p r s t n k h e =
    elim (s.acts.learns t n (mirror_count read t) h) [
      | inl l ↦ some-same n k (sym l ∙ e)
      | inr l ↦
          let j = moved-some p.0 t k (count_of s.mid.state t) (sym (s.acts.counts t) ∙ e) in
          let q : l.0 ≡ j.0 = r.counts t l.0 j.0 l.1 (s.quiet.no_birth t j.0 (r.known_ever t l.0 l.1) j.1) in
          l.2 k (ap (λ x. move p.0 t (Some x)) q ∙ j.2) (s.acts.at_most t k e)
    ]

moves-on : {S : Type 0} (m : Meaning S) (read : List (Packet S)) (base : Moment S) (p : Packet S) → ends p.0 ≡ false → (s : Sent m base p) → (t n i : ℕ) → count_of s.mid.state t ≡ Some n → learned p.0 t (mirror_count read t) ≡ Some i → (j : ℕ) × (count_of p.1.state t ≡ Some j)
moves-on m read base p d s t n i h e =
    let k = move_some p.0 t (mirror_count read t) i n d e in
    (k.0, s.acts.counts t ∙ (ap (move p.0 t) h ∙ k.1))

mirrors-held : {S : Type 0} (m : Meaning S) (read : List (Packet S)) (base : Moment S) (p : Packet S) → ends p.0 ≡ false → Mirrors m read base → Sent m base p → (t : ℕ) → mirror_held (p ∷ read) t ≡ is_held (p ∷ read) t
mirrors-held m read base p d r s t =
    held_either (learned p.0 t (mirror_count read t)) (count_of p.1.state t) (shows p.0 t) (is_shown read t) (is_some (mirror_count read t)) (mirror_held read t)
    (r.held t ∙ ap (λ b. b && is_shown read t) (sym (r.known t)))
    (mirrors-counts m read base p r s t)
    (λ i e h. let a = is-some-from (count_of s.mid.state t) (s.acts.shown t h) in moves-on m read base p d s t a.0 i a.1 e)
    (λ i e h. let a = r.shown t h in let b = positive-stays m base s.mid s.quiet t a.0 a.1 a.2 in moves-on m read base p d s t b.0 i b.1 e)
    (known-before p.0 t (mirror_count read t) d)
    ∙ ap (λ b. b && is_shown (p ∷ read) t) (learned_known p.0 t (mirror_count read t) d ∙ ap (λ b. not (forgets p.0 t) && (teaches p.0 t || b)) (r.known t))

pub mirrors_read : {S : Type 0} (m : Meaning S) (read : List (Packet S)) (base : Moment S) (p : Packet S) → ends p.0 ≡ false → Mirrors m read base → Sent m base p → Mirrors m (p ∷ read) p.1
mirrors_read m read base p d r s =
    record {
      known_ever = λ t n h. elim (s.acts.learns t n (mirror_count read t) h) [
        | inl l ↦ s.acts.lives t n l
        | inr l ↦ s.acts.ever t (s.quiet.ever t (r.known_ever t l.0 l.1))
      ];
      counts = mirrors-counts m read base p r s;
      requests = ap (requests_after p.0) (r.requests ∙ ap all_kept (sym s.quiet.same_requests)) ∙ sym s.acts.same_requests;
      known = λ t. learned_known p.0 t (mirror_count read t) d ∙ ap (λ b. not (forgets p.0 t) && (teaches p.0 t || b)) (r.known t);
      held = λ t. mirrors-held m read base p d r s t;
      shown = λ t h. some-zero (count_of p.1.state t) (not-true _ (and-left _ _ h));
    }

or-parts : (a b : Bool) → (a || b) ≡ false → (a ≡ false) × (b ≡ false)
or-parts true b h = absurd (cc)
or-parts false b h = (refl, h)

pub mirrors_entered : {S : Type 0} (m : Meaning S) (ps read : List (Packet S)) (base : Moment S) → has_end ps ≡ false → Mirrors m read base → Links m base ps → Mirrors m (entered ps read) (last base ps)
mirrors_entered m [] read base d r l = r
mirrors_entered m (p ∷ ps) read base d r l =
    let e = or-parts (ends p.0) (has_end ps) d in
    mirrors_entered m ps (p ∷ read) p.1 e.1 (mirrors_read m read base p e.0 r l.0) l.1

-- ---- how far counts move

abbrev pub lowers_in : {S : Type 0} → List (Packet S) → ℕ → ℕ
lowers_in [] t = 0
lowers_in (p ∷ ps) t = message_lowers p.0 t + lowers_in ps t

abbrev pub raises_in : {S : Type 0} → List (Packet S) → ℕ → ℕ
raises_in [] t = 0
raises_in (p ∷ ps) t = message_raises p.0 t + raises_in ps t

-- no reply to a Dispose
abbrev pub no_dispose_in : {S : Type 0} → List (Packet S) → Bool
no_dispose_in [] = true
no_dispose_in (p ∷ ps) = not (disposes p.0) && no_dispose_in ps

pub alive_along : {S : Type 0} (m : Meaning S) (base : Moment S) (ps : List (Packet S)) → Links m base ps → (last base ps).state.alive ≡ true → base.state.alive ≡ true
alive_along m base [] l h = h
alive_along m base (p ∷ ps) l h = l.0.quiet.alive (l.0.acts.alive (alive_along m p.1 ps l.1 h))

pub links_lower : {S : Type 0} (m : Meaning S) (base : Moment S) (ps : List (Packet S)) (t : ℕ) → Links m base ps → no_dispose_in ps ≡ true → (last base ps).state.alive ≡ true → count_or_zero base.state t ≤ count_or_zero (last base ps).state t + lowers_in ps t
links_lower m base [] t l d h = omega arith
links_lower m base (p ∷ ps) t l d h =
    let live : p.1.state.alive ≡ true = alive_along m p.1 ps l.1 h in
    let q = l.0.quiet.same_count t in
    let a : count_or_zero p.1.state t ≡ or_zero (move p.0 t (count_of l.0.mid.state t)) = ap or_zero (l.0.acts.counts t) in
    let b = move_lowers p.0 t (count_of l.0.mid.state t) (l.0.acts.spares live (not-true _ (and-left _ _ d))) in
    let e : count_or_zero p.1.state t ≤ count_or_zero (last p.1 ps).state t + lowers_in ps t = links_lower m p.1 ps t l.1 (and-right _ _ d) h in
    omega arith

pub links_upper : {S : Type 0} (m : Meaning S) (base : Moment S) (ps : List (Packet S)) (t : ℕ) → Links m base ps → count_or_zero (last base ps).state t ≤ count_or_zero base.state t + raises_in ps t
links_upper m base [] t l = omega arith
links_upper m base (p ∷ ps) t l =
    let q = l.0.quiet.same_count t in
    let a : count_or_zero p.1.state t ≡ or_zero (move p.0 t (count_of l.0.mid.state t)) = ap or_zero (l.0.acts.counts t) in
    let b = move_raises p.0 t (count_of l.0.mid.state t) in
    let e = links_upper m p.1 ps t l.1 in
    omega arith

-- ---- what packets answer

pub replies_append : {S : Type 0} (xs ys : List (Packet S)) → replies (xs ++ ys) ≡ replies xs ++ replies ys
replies_append [] ys = refl
replies_append ((Reply k c x, a) ∷ xs) ys = ap (λ l. (k, c) ∷ l) (replies_append xs ys)
replies_append ((Report c, a) ∷ xs) ys = replies_append xs ys
replies_append ((Handshake, a) ∷ xs) ys = replies_append xs ys

pub commands_append : (xs ys : List Call) → commands (xs ++ ys) ≡ commands xs ++ commands ys
commands_append [] ys = refl
commands_append (Asks k c ∷ xs) ys = ap (λ l. (k, c) ∷ l) (commands_append xs ys)
commands_append (Greets ∷ xs) ys = commands_append xs ys

pub lowers_replies : {S : Type 0} (ps : List (Packet S)) (t : ℕ) → lowers_in ps t ≡ unanswered lowers (replies ps) t
lowers_replies [] t = refl
lowers_replies ((Reply k c x, a) ∷ ps) t = ap (λ n. lowers c t + n) (lowers_replies ps t)
lowers_replies ((Report c, a) ∷ ps) t = omega (arith, lowers_replies ps t)
lowers_replies ((Handshake, a) ∷ ps) t = omega (arith, lowers_replies ps t)

pub raises_replies : {S : Type 0} (ps : List (Packet S)) (t : ℕ) → raises_in ps t ≡ unanswered raises (replies ps) t + composites_in ps
raises_replies [] t = refl
raises_replies ((Reply k c x, a) ∷ ps) t = omega (arith, raises_replies ps t)
raises_replies ((Report c, a) ∷ ps) t = omega (arith, raises_replies ps t)
raises_replies ((Handshake, a) ∷ ps) t = omega (arith, raises_replies ps t)

pub composites_append : {S : Type 0} (xs ys : List (Packet S)) → composites_in (xs ++ ys) ≡ composites_in xs + composites_in ys
composites_append [] ys = omega arith
composites_append ((Reply k c x, a) ∷ xs) ys = composites_append xs ys
composites_append ((Report c, a) ∷ xs) ys = omega (arith, composites_append xs ys)
composites_append ((Handshake, a) ∷ xs) ys = composites_append xs ys

pub no_dispose_replies : {S : Type 0} (ps : List (Packet S)) → has_dispose (replies ps) ≡ false → no_dispose_in ps ≡ true
no_dispose_replies [] h = refl
no_dispose_replies ((Reply k c x, a) ∷ ps) h = elim (is_dispose (action_of c)) as (λ b. (b || has_dispose (replies ps)) ≡ false → (not b && no_dispose_in ps) ≡ true) [ true ↦ λ h. absurd (cc) | false ↦ no_dispose_replies ps ] h
no_dispose_replies ((Report c, a) ∷ ps) h = no_dispose_replies ps h
no_dispose_replies ((Handshake, a) ∷ ps) h = no_dispose_replies ps h

-- a target whose packets have one order, along the acts of the link's target
use Rattle.std.proofs.Common.{◌≡◌, ℕ, suc, ◌+◌, Bool, true, ◌||◌, ◌&&◌, not, cond, List, [], ◌∷◌, ◌++◌, length, map, refl, sym, ◌∙◌, ap, subst, arith, length-append}
use Rattle.std.specs.Prelude.{nat_le}
use Rattle.std.proofs.lemmas.Bool.{le-leb}
use Rattle.std.proofs.lemmas.List.{map-append}
use Rattle.jdwp_layout.specs.declared.answer.Answer.{Answer}
use Rattle.jdwp_event.specs.Composites.{CompositeMeaning}
use Rattle.jdwp_event.specs.Told.{composite_thread}
use Rattle.jdwp_debuggee.specs.State.{Moment}
use Rattle.jdwp_action.specs.Actions.{Command, action_of}
use Rattle.jdwp_mirror.specs.Messages.{Ticket, Handshake, Reply, Report}
use Rattle.jdwp_model.specs.World.{Packet}
use Rattle.jdwp_model.proofs.Session.{replies, replies_append}
use Rattle.jdwp_apart.specs.Messages.{Composite, may_ask}
use Rattle.jdwp_apart.specs.Messages as apart_messages
use Rattle.jdwp_apart.specs.Watch.{Watch, asks}
use Rattle.jdwp_apart.specs.World as apart
use Rattle.jdwp_apart.specs.World.{Life, may_answer, lives_one, is_none_unsent, may_stop}
use Rattle.jdwp_orders.specs.Acts
use Rattle.jdwp_orders.specs.Watched.{Since, IsPast, composite_after, hears, hears_all}
use Rattle.jdwp_orders.specs.Headline.{Said, Answered, Told, said_by, said_in}
use Rattle.jdwp_orders.proofs.Acting.{acted, Leads, leads_here, leads_on}

-- All of such a target but its threads: these commands wait; these packets were sent and not read; nothing was not sent.
pub record Core {S : Type 0} (since : Since) (ws : List Command) (packets : List (Packet S)) (known : Watch) (v : apart.World) : Type 0 where
  pub waiting : v.waiting ≡ ws
  pub stream : map said_by v.stream ≡ said_in since v.watch.answered packets
  pub no_replies : v.replies ≡ []
  pub no_composites : v.composites ≡ []
  pub invocations : v.invocations ≡ []
  pub done : v.done ≡ v.watch.answered + length (replies packets)
  pub watch : v.watch ≡ known

pub core_lives : {S : Type 0} (since : Since) (waiting : List Command) (packets : List (Packet S)) (watch : Watch) (v : apart.World) (t : ℕ) (l : Life) (n : ℕ) → Core since waiting packets watch v → Core since waiting packets watch (apart.becomes v t l n)
core_lives since waiting packets watch v t l n c =
    record { waiting = c.waiting; stream = c.stream; no_replies = c.no_replies; no_composites = c.no_composites; invocations = c.invocations; done = c.done; watch = c.watch }

-- ---- what was sent

pub said_more : {S : Type 0} (since : Since) (n : ℕ) (ps qs : List (Packet S)) → said_in since n (ps ++ qs) ≡ said_in since n ps ++ said_in since (n + length (replies ps)) qs
said_more since n [] qs = let e : n ≡ n + 0 = omega arith in ap (λ k. said_in since k qs) e
said_more since n ((Handshake, a) ∷ ps) qs = said_more since n ps qs
said_more since n ((Reply i c x, a) ∷ ps) qs =
    let e : n + 1 + length (replies ps) ≡ n + suc (length (replies ps)) = omega arith in
    ap (λ l. Answered (apart.reply_of c x) ∷ l) (said_more since (n + 1) ps qs ∙ ap (λ k. said_in since (n + 1) ps ++ said_in since k qs) e)
said_more since n ((Report c, a) ∷ ps) qs = ap (λ l. Told (composite_after since n c) ∷ l) (said_more since n ps qs)

sent-more : {S : Type 0} (since : Since) (n k : ℕ) (stream : List apart.Packet) (ps : List (Packet S)) (p : Packet S) (q : apart.Packet) → k ≡ n + length (replies ps) → said_by q ∷ [] ≡ said_in since k (p ∷ []) → map said_by stream ≡ said_in since n ps → map said_by (stream ++ q ∷ []) ≡ said_in since n (ps ++ p ∷ [])
sent-more since n k stream ps p q e f h =
    map-append said_by stream (q ∷ []) ∙ (ap (λ l. l ++ said_by q ∷ []) h ∙ (ap (λ l. said_in since n ps ++ l) (f ∙ ap (λ i. said_in since i (p ∷ [])) e) ∙ sym (said_more since n ps (p ∷ []))))

one-more : {S : Type 0} (ps : List (Packet S)) (k : Ticket) (c : Command) (x : Answer) (a : Moment S) → length (replies (ps ++ (Reply k c x, a) ∷ [])) ≡ length (replies ps) + 1
one-more ps k c x a = ap length (replies_append ps ((Reply k c x, a) ∷ [])) ∙ length-append (replies ps) ((k, c) ∷ [])

none-more : {S : Type 0} (ps : List (Packet S)) (p : Packet S) → replies (p ∷ []) ≡ [] → length (replies (ps ++ p ∷ [])) ≡ length (replies ps)
none-more ps p h =
    ap length (replies_append ps (p ∷ [])) ∙ (ap (λ l. length (replies ps ++ l)) h ∙ (length-append (replies ps) [] ∙ (let e : length (replies ps) + 0 ≡ length (replies ps) = omega arith in e)))

-- ---- a command is carried out, and its reply is sent

abbrev pub replied : apart.World → Command → List Command → Answer → apart.World
replied v c ws x = record (apart.carried_out v c ws x) { replies = []; stream = v.stream ++ apart.Answers (apart.reply_of c x, apart.living v) ∷ [] }

pub to_replied : (Q : apart.World → Type 0) (v : apart.World) (c : Command) (ws : List Command) (x : Answer) → v.waiting ≡ c ∷ ws → v.replies ≡ [] → may_answer (action_of c) x v.lives v.counts ≡ true → Q (replied v c ws x) → Q (acted v (Acts.Replies x ∷ []))
to_replied Q v c ws x e f h q =
    subst (λ l. Q (apart.sends_reply (apart.carries_out v l x) (apart.carries_out v l x).replies)) (sym e)
    (subst (λ b. Q (apart.sends_reply (cond b (apart.carried_out v c ws x) v) (cond b (apart.carried_out v c ws x) v).replies)) (sym h)
    (subst (λ l. Q (apart.sends_reply (apart.carried_out v c ws x) (l ++ (apart.reply_of c x, apart.living v) ∷ []))) (sym f) q))

pub core_replied : {S : Type 0} (since : Since) (ws : List Command) (ps : List (Packet S)) (watch : Watch) (v : apart.World) (k : Ticket) (c : Command) (x : Answer) (a : Moment S) → Core since (c ∷ ws) ps watch v → Core since ws (ps ++ (Reply k c x, a) ∷ []) watch (replied v c ws x)
core_replied since ws ps watch v k c x a i =
    record {
      waiting = refl;
      stream = sent-more since v.watch.answered (v.watch.answered + length (replies ps)) v.stream ps (Reply k c x, a) (apart.Answers (apart.reply_of c x, apart.living v)) refl refl i.stream;
      no_replies = refl;
      no_composites = i.no_composites;
      invocations = i.invocations;
      done = let e = one-more ps k c x a in let d = i.done in omega arith;
      watch = i.watch;
    }

-- ---- what a composite tells takes effect, and it is sent

abbrev pub reported : apart.World → Composite → apart.World
reported v s = record (apart.stopped v s) { composites = []; stream = v.stream ++ apart.Reports (s, v.done, apart.living v) ∷ [] }

pub to_reported : (Q : apart.World → Type 0) (v : apart.World) (s : Composite) → v.composites ≡ [] → may_stop v s ≡ true → Q (reported v s) → Q (acted v (Acts.Reports s ∷ []))
to_reported Q v s e h q =
    subst (λ b. Q (apart.sends_composite (cond b (apart.stopped v s) v) (cond b (apart.stopped v s) v).composites)) (sym h)
    (subst (λ l. Q (apart.sends_composite (apart.stopped v s) (l ++ (s, v.done, apart.living v) ∷ []))) (sym e) q)

all-true : (a b c d : Bool) → a ≡ true → b ≡ true → c ≡ true → (a && (b && (c || d))) ≡ true
all-true a b c d h k l = ap (λ x. x && (b && (c || d))) h ∙ (ap (λ x. x && (c || d)) k ∙ ap (λ x. x || d) l)

pub stop_may : (since : Since) (v : apart.World) (c : CompositeMeaning) → IsPast since → v.composites ≡ [] → lives_one (composite_thread c) v.lives ≡ true → may_stop v (composite_after since v.done c) ≡ true
stop_may since v c past e h =
    all-true (lives_one (composite_thread c) v.lives) (nat_le (since v.done c) v.done) (is_none_unsent v.composites) (not v.watch.one_by_one) h (le-leb (since v.done c) v.done (past v.done c)) (ap is_none_unsent e)

pub core_reported : {S : Type 0} (since : Since) (ws : List Command) (ps : List (Packet S)) (watch : Watch) (v : apart.World) (c : CompositeMeaning) (a : Moment S) → Core since ws ps watch v → Core since ws (ps ++ (Report c, a) ∷ []) watch (reported v (composite_after since v.done c))
core_reported since ws ps watch v c a i =
    record {
      waiting = i.waiting;
      stream = sent-more since v.watch.answered v.done v.stream ps (Report c, a) (apart.Reports (composite_after since v.done c, v.done, apart.living v)) i.done refl i.stream;
      no_replies = i.no_replies;
      no_composites = refl;
      invocations = i.invocations;
      done = let e = none-more ps (Report c, a) refl in let d = i.done in omega arith;
      watch = i.watch;
    }

pub core_greeted : {S : Type 0} (since : Since) (ws : List Command) (ps : List (Packet S)) (watch : Watch) (v : apart.World) (a : Moment S) → Core since ws ps watch v → Core since ws (ps ++ (Handshake, a) ∷ []) watch v
core_greeted since ws ps watch v a i =
    record {
      waiting = i.waiting;
      stream = i.stream ∙ sym (said_more since v.watch.answered ps ((Handshake, a) ∷ []) ∙ nothing (said_in since v.watch.answered ps));
      no_replies = i.no_replies;
      no_composites = i.no_composites;
      invocations = i.invocations;
      done = let e = none-more ps (Handshake, a) refl in let d = i.done in omega arith;
      watch = i.watch;
    }
  where
    nothing : (l : List Said) → l ++ [] ≡ l
    nothing [] = refl
    nothing (x ∷ l) = ap (λ k. x ∷ k) (nothing l)

-- ---- a command is asked

pub core_asked : {S : Type 0} (since : Since) (ws : List Command) (ps : List (Packet S)) (watch : Watch) (v : apart.World) (c : Command) → Core since ws ps watch v → Core since (ws ++ c ∷ []) ps (asks watch c) (apart.asked v c)
core_asked since ws ps watch v c i =
    record {
      waiting = ap (λ l. l ++ c ∷ []) i.waiting;
      stream = i.stream;
      no_replies = i.no_replies;
      no_composites = i.no_composites;
      invocations = i.invocations;
      done = i.done;
      watch = ap (λ w. asks w c) i.watch;
    }

pub to_asked : (Q : apart.World → Type 0) (v : apart.World) (c : Command) → may_ask c ≡ true → Q (apart.asked v c) → Q (acted v (Acts.Asks c ∷ []))
to_asked Q v c h q = subst (λ b. Q (cond b (apart.asked v c) v)) (sym h) q

-- ---- a packet is read

no-said : (x : Said) (l : List Said) → [] ≡ x ∷ l → ⊥
no-said x l h = cc

same-reply : (r q : apart_messages.Reply) (k l : List Said) → Answered r ∷ k ≡ Answered q ∷ l → (r ≡ q) × (k ≡ l)
same-reply r q k l h = (cc, cc)

same-composite : (s q : Composite) (k l : List Said) → Told s ∷ k ≡ Told q ∷ l → (s ≡ q) × (k ≡ l)
same-composite s q k l h = (cc, cc)

other-said : (r : apart_messages.Reply) (s : Composite) (k l : List Said) → Answered r ∷ k ≡ Told s ∷ l → ⊥
other-said r s k l h = cc

read-reply : {S : Type 0} (since : Since) (ws : List Command) (ps : List (Packet S)) (watch : Watch) (v : apart.World) (k : Ticket) (c : Command) (x : Answer) (a : Moment S) (stream : List apart.Packet) → map said_by stream ≡ said_in since v.watch.answered ((Reply k c x, a) ∷ ps) → Core since ws ((Reply k c x, a) ∷ ps) watch v → Core since ws ps (hears since watch (Reply k c x)) (apart.reads v stream)
read-reply since ws ps watch v k c x a [] e i = absurd (no-said _ _ e)
read-reply since ws ps watch v k c x a (apart.Reports s ∷ rest) e i = absurd (other-said _ _ _ _ (sym e))
read-reply since ws ps watch v k c x a (apart.Answers g ∷ rest) e i =
    let s = same-reply g.0 (apart.reply_of c x) (map said_by rest) (said_in since (v.watch.answered + 1) ps) e in
    record {
      waiting = i.waiting;
      stream = s.1;
      no_replies = i.no_replies;
      no_composites = i.no_composites;
      invocations = i.invocations;
      done = let d : v.done ≡ v.watch.answered + suc (length (replies ps)) = i.done in omega arith;
      watch = ap (λ r. apart.reads_packet v.watch (apart.Answers (r, g.1))) s.0 ∙ ap (λ w. hears since w (Reply k c x)) i.watch;
    }

read-composite : {S : Type 0} (since : Since) (ws : List Command) (ps : List (Packet S)) (watch : Watch) (v : apart.World) (c : CompositeMeaning) (a : Moment S) (stream : List apart.Packet) → map said_by stream ≡ said_in since v.watch.answered ((Report c, a) ∷ ps) → Core since ws ((Report c, a) ∷ ps) watch v → Core since ws ps (hears since watch (Report c)) (apart.reads v stream)
read-composite since ws ps watch v c a [] e i = absurd (no-said _ _ e)
read-composite since ws ps watch v c a (apart.Answers g ∷ rest) e i = absurd (other-said _ _ _ _ e)
read-composite since ws ps watch v c a (apart.Reports s ∷ rest) e i =
    let q = same-composite s.0 (composite_after since v.watch.answered c) (map said_by rest) (said_in since v.watch.answered ps) e in
    record {
      waiting = i.waiting;
      stream = q.1;
      no_replies = i.no_replies;
      no_composites = i.no_composites;
      invocations = i.invocations;
      done = i.done;
      watch = ap (λ r. apart.reads_packet v.watch (apart.Reports (r, s.1, s.2))) q.0 ∙ ap (λ w. hears since w (Report c)) i.watch;
    }

-- All packets are read; the threads stay as they are.
pub reads_all : {S : Type 0} (since : Since) (ws : List Command) (ps qs : List (Packet S)) (watch : Watch) (v : apart.World) (P : (ℕ → Life) → (ℕ → ℕ) → Type 0) → P v.lives v.counts → Core since ws (ps ++ qs) watch v → Leads (λ u. Core since ws qs (hears_all since watch ps) u × P u.lives u.counts) v
reads_all since ws [] qs watch v P p i = leads_here (λ u. Core since ws qs watch u × P u.lives u.counts) v (i, p)
reads_all since ws ((Handshake, a) ∷ ps) qs watch v P p i =
    reads_all since ws ps qs watch v P p (record { waiting = i.waiting; stream = i.stream; no_replies = i.no_replies; no_composites = i.no_composites; invocations = i.invocations; done = i.done; watch = i.watch })
reads_all since ws ((Reply k c x, a) ∷ ps) qs watch v P p i =
    leads_on (λ u. Core since ws (ps ++ qs) (hears since watch (Reply k c x)) u × P u.lives u.counts) (λ u. Core since ws qs (hears_all since (hears since watch (Reply k c x)) ps) u × P u.lives u.counts) v
    (Acts.Reads ∷ [], (read-reply since ws (ps ++ qs) watch v k c x a v.stream i.stream i, still v.stream p))
    (λ u h. reads_all since ws ps qs (hears since watch (Reply k c x)) u P h.1 h.0)
  where
    still : (stream : List apart.Packet) → P v.lives v.counts → P (apart.reads v stream).lives (apart.reads v stream).counts
    still [] q = q
    still (y ∷ ys) q = q
reads_all since ws ((Report c, a) ∷ ps) qs watch v P p i =
    leads_on (λ u. Core since ws (ps ++ qs) (hears since watch (Report c)) u × P u.lives u.counts) (λ u. Core since ws qs (hears_all since (hears since watch (Report c)) ps) u × P u.lives u.counts) v
    (Acts.Reads ∷ [], (read-composite since ws (ps ++ qs) watch v c a v.stream i.stream i, still v.stream p))
    (λ u h. reads_all since ws ps qs (hears since watch (Report c)) u P h.1 h.0)
  where
    still : (stream : List apart.Packet) → P v.lives v.counts → P (apart.reads v stream).lives (apart.reads v stream).counts
    still [] q = q
    still (y ∷ ys) q = q

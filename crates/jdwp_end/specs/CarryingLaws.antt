-- Laws of what an end carries: it goes on with each call.
use Rattle.std.proofs.Common.{◌≡◌, ◌≢◌, ◌∙◌, ℕ, ◌+◌, ◌≤◌, ◌++◌, List, [], ◌∷◌, length, take, drop, Bool, true, false, sym, ap, refl, arith, append_assoc}
use Rattle.std.specs.List.{AllByRecursion}
use Rattle.std.proofs.lemmas.List.{append-nil, take-append-drop, length-take, length-append}
use Rattle.std.proofs.Math.Seq.{take-nil, drop-nil}
use Rattle.jdwp_wire.specs.Bytes.{IsBytes}
use Rattle.jdwp_wire.specs.Limits.{Limits}
use Rattle.jdwp_wire.specs.Streams.{Message, Handshake, Packet, Whole, message_bytes, stream, IsConversation, IsPacketMessage, IsFront}
use Rattle.jdwp_end.specs.declared.phase.Phase.{Phase}
use Rattle.jdwp_end.specs.declared.phase.Phase.TheVariants.{Closed, AwaitingHandshake, Established}
use Rattle.jdwp_end.specs.Ends.{End, is_open, front_of, new_end, opened_end, closed_end, lost_end, with_fed, with_handled, with_enqueued, with_taken}
use Rattle.jdwp_end.specs.Runs.{Carries}
use Rattle.jdwp_end.specs.FrontLaws.{IsDue, due-open, in-front}

pub stream-append : (ms ns : List Message) → stream (ms ++ ns) ≡ stream ms ++ stream ns
stream-append [] ns = refl
stream-append (m ∷ ms) ns = ap (λ (x : List ℕ). message_bytes m ++ x) (stream-append ms ns) ∙ sym (append_assoc (message_bytes m) (stream ms) (stream ns))

pub stream-one : (m : Message) → stream (m ∷ []) ≡ message_bytes m
stream-one m = append-nil (message_bytes m)

pub stream-more : (ms : List Message) (m : Message) → stream (ms ++ m ∷ []) ≡ stream ms ++ message_bytes m
stream-more ms m = stream-append ms (m ∷ []) ∙ ap (λ (x : List ℕ). stream ms ++ x) (stream-one m)

-- ---- the messages of a session go on

packets-more : (k : ℕ) (ms : List Message) (m : Message) → AllByRecursion (IsPacketMessage k) ms → IsPacketMessage k m → AllByRecursion (IsPacketMessage k) (ms ++ m ∷ [])
packets-more k [] m all one = (one, tt)
packets-more k (n ∷ ms) m all one = (all.0, packets-more k ms m all.1 one)

packet-more : (k : ℕ) (ms : List Message) (m : Message) → IsConversation k ms → ms ≢ [] → IsPacketMessage k m → IsConversation k (ms ++ m ∷ [])
packet-more k [] m c some one = absurd (some refl)
packet-more k (Handshake ∷ ms) m c some one = packets-more k ms m c one
packet-more k (Packet h body ∷ ms) m c some one = absurd c

first-is : (k : ℕ) (ms : List Message) (m : Message) → ms ≡ [] → m ≡ Handshake → IsConversation k (ms ++ m ∷ [])
first-is k ms m e h = rw (e, h) tt

conversation-more : (k : ℕ) (phase : Phase) (ms : List Message) (m : Message) → IsConversation k ms → (phase ≡ AwaitingHandshake → ms ≡ []) → (phase ≡ Established → ms ≢ [])
    → IsDue k phase m → IsConversation k (ms ++ m ∷ [])
conversation-more k Closed ms m c none some due = absurd due
conversation-more k AwaitingHandshake ms m c none some due = first-is k ms m (none refl) due
conversation-more k Established ms m c none some due = packet-more k ms m c (some refl) due

not-empty : (ms : List Message) (m : Message) → ms ++ m ∷ [] ≢ []
not-empty [] m e = cc
not-empty (n ∷ ms) m e = cc

not-both : {b : Bool} → b ≡ true → b ≡ false → ⊥
not-both h k = cc

lost-cases : (b : Bool) (P : Type 0) → (b ≡ true → P) → (b ≡ false → P) → P
lost-cases true P yes_case no_case = yes_case refl
lost-cases false P yes_case no_case = no_case refl

-- an open end noticed no loss
pub open-kept : (end : End) (ms : List Message) → Carries end ms → is_open end ≡ true → end.session.lost ≡ false
open-kept end ms c opened = lost-cases end.session.lost (end.session.lost ≡ false) (λ e. absurd (not-both opened (c.after_loss e).0)) (λ e. e)

-- ---- each call

pub carries-new : (limits : Limits) → Carries (new_end limits) []
carries-new limits = record {
  rest = [];
  conversation = tt;
  turns = refl;
  handled = refl;
  fed = refl;
  incoming = λ e. refl;
  awaiting = λ e. refl;
  established = λ e. absurd cc;
  taken = ([], refl);
  waiting = λ e. refl;
  after_loss = λ e. absurd cc;
}

pub carries-opened : (end : End) → Carries (opened_end end) []
carries-opened end = record {
  rest = [];
  conversation = tt;
  turns = refl;
  handled = refl;
  fed = refl;
  incoming = λ e. refl;
  awaiting = λ e. refl;
  established = λ e. absurd cc;
  taken = ([], refl);
  waiting = λ e. refl;
  after_loss = λ e. absurd cc;
}

pub carries-fed : (end : End) (ms : List Message) (bytes : List ℕ) → is_open end ≡ true → Carries end ms → Carries (with_fed bytes end) ms
carries-fed end ms bytes opened c = record {
  rest = c.rest ++ bytes;
  conversation = c.conversation;
  turns = c.turns;
  handled = c.handled;
  fed = ap (λ (x : List ℕ). x ++ bytes) c.fed ∙ append_assoc (stream ms) c.rest bytes;
  incoming = λ e. ap (λ (x : List ℕ). x ++ bytes) (c.incoming opened);
  awaiting = c.awaiting;
  established = c.established;
  taken = c.taken;
  waiting = c.waiting;
  after_loss = c.after_loss;
}

pub carries-handled : (end : End) (ms : List Message) (m : Message) (used : ℕ) → IsBytes end.incoming → front_of end ≡ Whole m used → Carries end ms
    → Carries (with_handled m used end) (ms ++ m ∷ [])
carries-handled end ms m used fits front c =
    let at = in-front end m used fits front in
    let opened : is_open end ≡ true = due-open end.limits.packet end.phase m at.1 in
    let more : stream (ms ++ m ∷ []) ≡ stream ms ++ message_bytes m = stream-more ms m in
    record {
      rest = drop used end.incoming;
      conversation = conversation-more end.limits.packet end.phase ms m c.conversation c.awaiting c.established at.1;
      turns = ap (λ (n : ℕ). n + 1) c.turns ∙ sym (length-append ms (m ∷ []));
      handled = ap (λ (x : List ℕ). x ++ message_bytes m) c.handled ∙ sym more;
      fed = c.fed ∙ ap (λ (x : List ℕ). stream ms ++ x) (c.incoming opened ∙ at.0.rest_follows) ∙ sym (append_assoc (stream ms) (message_bytes m) (drop used end.incoming))
          ∙ ap (λ (x : List ℕ). x ++ drop used end.incoming) (sym more);
      incoming = λ e. refl;
      awaiting = λ e. absurd cc;
      established = λ e. not-empty ms m;
      taken = c.taken;
      waiting = c.waiting;
      after_loss = λ e. absurd (not-both e (open-kept end ms c opened));
    }

pub carries-enqueued : (end : End) (ms : List Message) (bytes : List ℕ) → is_open end ≡ true → Carries end ms → Carries (with_enqueued bytes end) ms
carries-enqueued end ms bytes opened c = record {
  rest = c.rest;
  conversation = c.conversation;
  turns = c.turns;
  handled = c.handled;
  fed = c.fed;
  incoming = c.incoming;
  awaiting = c.awaiting;
  established = c.established;
  taken = (c.taken.0 ++ bytes, ap (λ (x : List ℕ). x ++ bytes) c.taken.1 ∙ append_assoc end.session.taken c.taken.0 bytes);
  waiting = λ e. ap (λ (x : List ℕ). x ++ bytes) (c.waiting e) ∙ append_assoc end.session.taken end.outgoing bytes;
  after_loss = λ e. absurd (not-both e (open-kept end ms c opened));
}

taken-front : (taken out enqueued : List ℕ) (n : ℕ) → enqueued ≡ taken ++ out → enqueued ≡ (taken ++ take n out) ++ drop n out
taken-front taken out enqueued n e = e ∙ ap (λ (x : List ℕ). taken ++ x) (sym (take-append-drop n out)) ∙ sym (append_assoc taken (take n out) (drop n out))

pub carries-taken : (end : End) (ms : List Message) (n : ℕ) → n ≤ length end.outgoing → Carries end ms → Carries (with_taken (take n end.outgoing) end) ms
carries-taken end ms n le c =
    let s = end.session in
    let cut : drop (length (take n end.outgoing)) end.outgoing ≡ drop n end.outgoing = ap (λ (k : ℕ). drop k end.outgoing) (omega (arith, length-take n end.outgoing)) in
    let taken : IsFront (s.taken ++ take n end.outgoing) s.enqueued = lost-cases s.lost (IsFront (s.taken ++ take n end.outgoing) s.enqueued)
    (λ e. let empty = (c.after_loss e).1 in
    let none : take n end.outgoing ≡ [] = rw empty (take-nil n) in
    (c.taken.0, rw none (c.taken.1 ∙ ap (λ (x : List ℕ). x ++ c.taken.0) (sym (append-nil s.taken)))))
    (λ e. (drop n end.outgoing, taken-front s.taken end.outgoing s.enqueued n (c.waiting e))) in
    record {
      rest = c.rest;
      conversation = c.conversation;
      turns = c.turns;
      handled = c.handled;
      fed = c.fed;
      incoming = c.incoming;
      awaiting = c.awaiting;
      established = c.established;
      taken = taken;
      waiting = λ e. taken-front s.taken end.outgoing s.enqueued n (c.waiting e) ∙ ap (λ (x : List ℕ). (s.taken ++ take n end.outgoing) ++ x) (sym cut);
      after_loss = λ e. let h = c.after_loss e in (h.0, cut ∙ rw h.1 (drop-nil n));
    }

pub carries-closed : (end : End) (ms : List Message) → Carries end ms → Carries (closed_end end) ms
carries-closed end ms c = record {
  rest = c.rest;
  conversation = c.conversation;
  turns = c.turns;
  handled = c.handled;
  fed = c.fed;
  incoming = λ e. absurd (let h = e in cc);
  awaiting = λ e. absurd cc;
  established = λ e. absurd cc;
  taken = c.taken;
  waiting = c.waiting;
  after_loss = λ e. (refl, (c.after_loss e).1);
}

pub carries-lost : (end : End) (ms : List Message) → Carries end ms → Carries (lost_end end) ms
carries-lost end ms c = record {
  rest = c.rest;
  conversation = c.conversation;
  turns = c.turns;
  handled = c.handled;
  fed = c.fed;
  incoming = λ e. absurd (let h = e in cc);
  awaiting = λ e. absurd cc;
  established = λ e. absurd cc;
  taken = c.taken;
  waiting = λ e. absurd (let h = e in cc);
  after_loss = λ e. (refl, refl);
}

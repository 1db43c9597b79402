-- the command to which a reply is, among those that wait
use Rattle.std.proofs.Common.{◌≡◌, ◌≢◌, ◌≤◌, ◌<◌, ℕ, zero, suc, ◌+◌, ◌==◌, inl, inr, Bool, true, false, ◌||◌, cond, Some, None, List, [], ◌∷◌, ◌++◌, length, drop, get_or, refl, sym, ◌∙◌, ap, subst, arith}
use Rattle.std.specs.Prelude.{remove, slice_get}
use Rattle.std.specs.List.{AllByRecursion, position_from}
use Rattle.std.proofs.lemmas.Bool.{eq-eqb, ne_eqb, or_parts}
use Rattle.std.proofs.lemmas.List.{append_assoc, drop_at, take_at, length-append}
use Rattle.std.proofs.Math.Seq.{get_or-append_seam}
use Rattle.jdwp_action.specs.Actions.{Command}
use Rattle.jdwp_mirror.specs.Faults.{is_waited_for}
use Rattle.jdwp_mirror.specs.Messages.{Ticket, same_ticket, Greets, Asks, Handshake, Reply, Report}
use Rattle.jdwp_debugger.specs.Debuggers.{AreDistinct, Asked}
use Rattle.jdwp_debugger.specs.News.{has_id, place_of}
use Rattle.jdwp_model.specs.Next.{without_ticket}
use Rattle.jdwp_model.specs.Places.{commands, one_of, replies, tally}
use Rattle.jdwp_link.specs.Wires.{CallWire, PacketWire, Waiting, IsAmong, asked, replied, ticket_of, waiting, without_ids, Awaits}
use Rattle.jdwp_link.proofs.Sizes.{without-append}
use Rattle.jdwp_link.proofs.Wired.{among-front, among-back, among-either, waiting-append}

-- a ticket is its own
same-ticket : (k : Ticket) → same_ticket k k ≡ true
same-ticket None = refl
same-ticket (Some n) = eq-eqb n n refl

-- ---- the command under an id

-- the command that waits under an id, between those before it and those behind it
pub record IsFound (pending : List Asked) (id : ℕ) (k : Ticket) (c : Command) : Type 0 where
  pub before : List Asked
  pub asked : Asked
  pub behind : List Asked
  pub split : pending ≡ before ++ asked ∷ behind
  pub has_id : asked.id ≡ id
  pub has_ticket : ticket_of asked.ticket ≡ k
  pub is_command : asked.command ≡ c

pub found : (pending : List Asked) (id : ℕ) (k : Ticket) (c : Command) → IsAmong (id, (k, c)) (waiting pending) → IsFound pending id k c
found [] id k c h = absurd h
found (p ∷ ps) id k c (inl e) = record {
  before = [];
  asked = p;
  behind = ps;
  split = refl;
  has_id = ap (λ (q : Waiting). q.0) e;
  has_ticket = ap (λ (q : Waiting). q.1.0) e;
  is_command = ap (λ (q : Waiting). q.1.1) e;
}
found (p ∷ ps) id k c (inr h) =
    let f = found ps id k c h in
    record { before = p ∷ f.before; asked = f.asked; behind = f.behind; split = ap (λ l. p ∷ l) f.split; has_id = f.has_id; has_ticket = f.has_ticket; is_command = f.is_command }

-- no command before it has its id
others-before : (before behind : List Asked) (p : Asked) → AreDistinct (before ++ p ∷ behind) → AllByRecursion (λ (q : Asked). q.id ≢ p.id) before
others-before [] behind p h = tt
others-before (q ∷ qs) behind p h =
    let within : suc (length qs) < length (q ∷ (qs ++ p ∷ behind)) = let e = length-append qs (p ∷ behind) in omega arith in
    let first : q.id ≢ (get_or (qs ++ p ∷ behind) (length qs) p).id = h zero (suc (length qs)) p (omega arith) within in
    let seam : get_or (qs ++ p ∷ behind) (length qs) p ≡ p = get_or-append_seam qs p behind p in
    (λ e. first (e ∙ ap (λ (a : Asked). a.id) (sym seam)), others-before qs behind p (λ i j d lt le. h (suc i) (suc j) d (omega arith) (omega arith)))

place-from : (n id : ℕ) (before behind : List Asked) (p : Asked) → p.id ≡ id → AllByRecursion (λ (q : Asked). q.id ≢ p.id) before → position_from (has_id id) n (before ++ p ∷ behind) ≡ Some (n + length before)
place-from n id [] behind p e h =
    let sum : n ≡ n + 0 = omega arith in
    ap (λ b. cond b (Some n) (position_from (has_id id) (n + 1) behind)) (eq-eqb p.id id e) ∙ ap Some sum
place-from n id (q ∷ qs) behind p e h =
    let not-here : (q.id == id) ≡ false = ne_eqb q.id id (λ f. h.0 (f ∙ sym e)) in
    let sum : (n + 1) + length qs ≡ n + length (q ∷ qs) = omega arith in
    ap (λ b. cond b (Some n) (position_from (has_id id) (n + 1) (qs ++ p ∷ behind))) not-here ∙ (place-from (n + 1) id qs behind p e h.1 ∙ ap Some sum)

pub placed : (pending : List Asked) (id : ℕ) (k : Ticket) (c : Command) → AreDistinct pending → (f : IsFound pending id k c) → place_of id pending ≡ Some (length f.before)
placed pending id k c h f =
    let none : 0 + length f.before ≡ length f.before = omega arith in
    ap (λ l. place_of id l) f.split ∙ (place-from 0 id f.before f.behind f.asked f.has_id (others-before f.before f.behind f.asked (subst AreDistinct f.split h)) ∙ ap Some none)

get-at : (before behind : List Asked) (p : Asked) → slice_get (before ++ p ∷ behind) (length before) ≡ Some p
get-at [] behind p = refl
get-at (q ∷ qs) behind p = get-at qs behind p

pub got : (pending : List Asked) (id : ℕ) (k : Ticket) (c : Command) (f : IsFound pending id k c) → slice_get pending (length f.before) ≡ Some f.asked
got pending id k c f = ap (λ l. slice_get l (length f.before)) f.split ∙ get-at f.before f.behind f.asked

remove-at : (before behind : List Asked) (p : Asked) → remove (before ++ p ∷ behind) (length before) ≡ before ++ behind
remove-at before behind p =
    let whole : before ++ p ∷ behind ≡ (before ++ p ∷ []) ++ behind = sym (append_assoc before (p ∷ []) behind) in
    let size : length (before ++ p ∷ []) ≡ suc (length before) = let e = length-append before (p ∷ []) in omega arith in
    ap (λ l. l ++ drop (suc (length before)) (before ++ p ∷ behind)) (take_at before (p ∷ behind) (length before) refl)
    ∙ ap (λ l. before ++ l) (ap (drop (suc (length before))) whole ∙ drop_at (before ++ p ∷ []) behind (suc (length before)) size)

pub removed : (pending : List Asked) (id : ℕ) (k : Ticket) (c : Command) (f : IsFound pending id k c) → remove pending (length f.before) ≡ f.before ++ f.behind
removed pending id k c f = ap (λ l. remove l (length f.before)) f.split ∙ remove-at f.before f.behind f.asked

-- ---- one ticket

or-true : (b : Bool) → (b || true) ≡ true
or-true true = refl
or-true false = refl

waits-there : (k : Ticket) (xs ys : List (Ticket × Command)) (c : Command) → is_waited_for k (xs ++ (k, c) ∷ ys) ≡ true
waits-there k [] ys c = ap (λ z. z || is_waited_for k ys) (same-ticket k)
waits-there k (x ∷ xs) ys c = ap (λ z. same_ticket x.0 k || z) (waits-there k xs ys c) ∙ or-true (same_ticket x.0 k)

-- a ticket that stands once stands where it stands
only-here : (k : Ticket) (bs cs xs ys : List (Ticket × Command)) (c d : Command) → bs ++ (k, c) ∷ cs ≡ xs ++ (k, d) ∷ ys → is_waited_for k bs ≡ false → is_waited_for k cs ≡ false → is_waited_for k xs ≡ false
only-here k [] cs [] ys c d e nb na = refl
only-here k [] cs (x ∷ xs) ys c d e nb na =
    let rest : cs ≡ xs ++ (k, d) ∷ ys = cc in
    let there : is_waited_for k cs ≡ true = ap (is_waited_for k) rest ∙ waits-there k xs ys d in
    absurd (cc)
only-here k (b ∷ bs) cs [] ys c d e nb na =
    let first : b ≡ (k, d) = cc in
    let there : is_waited_for k (b ∷ bs) ≡ true = ap (λ (p : Ticket × Command). same_ticket p.0 k || is_waited_for k bs) first ∙ ap (λ z. z || is_waited_for k bs) (same-ticket k) in
    absurd (cc)
only-here k (b ∷ bs) cs (x ∷ xs) ys c d e nb na =
    let first : b ≡ x = cc in
    let rest : bs ++ (k, c) ∷ cs ≡ xs ++ (k, d) ∷ ys = cc in
    let parts = or_parts (same_ticket b.0 k) (is_waited_for k bs) nb in
    ap (λ (p : Ticket × Command). same_ticket p.0 k || is_waited_for k xs) (sym first) ∙ (ap (λ z. z || is_waited_for k xs) parts.0 ∙ only-here k bs cs xs ys c d rest parts.1 na)

without-at : (k : Ticket) (xs ys : List (Ticket × Command)) (c : Command) → is_waited_for k xs ≡ false → without_ticket k (xs ++ (k, c) ∷ ys) ≡ xs ++ ys
without-at k [] ys c h = ap (λ b. cond b ys ((k, c) ∷ without_ticket k ys)) (same-ticket k)
without-at k (x ∷ xs) ys c h =
    let parts = or_parts (same_ticket x.0 k) (is_waited_for k xs) h in
    ap (λ b. cond b (xs ++ (k, c) ∷ ys) (x ∷ without_ticket k (xs ++ (k, c) ∷ ys))) parts.0 ∙ ap (λ l. x ∷ l) (without-at k xs ys c parts.1)

pairs-split : (before behind : List Asked) (p : Asked) → without_ids (waiting (before ++ p ∷ behind)) ≡ without_ids (waiting before) ++ (ticket_of p.ticket, p.command) ∷ without_ids (waiting behind)
pairs-split before behind p = ap without_ids (waiting-append before (p ∷ behind)) ∙ without-append (waiting before) (waiting (p ∷ behind))

-- what waits without the command that was found
pub left-without : (pending : List Asked) (id : ℕ) (k : Ticket) (c : Command) (f : IsFound pending id k c) (bs cs : List (Ticket × Command)) → without_ids (waiting pending) ≡ bs ++ (k, c) ∷ cs → is_waited_for k bs ≡ false → is_waited_for k cs ≡ false
    → without_ids (waiting (f.before ++ f.behind)) ≡ without_ticket k (without_ids (waiting pending))
left-without pending id k c f bs cs e nb na =
    let whole : without_ids (waiting pending) ≡ without_ids (waiting f.before) ++ (k, f.asked.command) ∷ without_ids (waiting f.behind) =
    ap (λ l. without_ids (waiting l)) f.split ∙ (pairs-split f.before f.behind f.asked ∙ ap (λ t. without_ids (waiting f.before) ++ (t, f.asked.command) ∷ without_ids (waiting f.behind)) f.has_ticket) in
    let none = only-here k bs cs (without_ids (waiting f.before)) (without_ids (waiting f.behind)) c f.asked.command (sym e ∙ whole) nb na in
    ap without_ids (waiting-append f.before f.behind) ∙ (without-append (waiting f.before) (waiting f.behind)
    ∙ sym (ap (without_ticket k) whole ∙ without-at k (without_ids (waiting f.before)) (without_ids (waiting f.behind)) f.asked.command none))

-- ---- what else waits

pub one-here : (k : Ticket) (c : Command) → one_of k (k, c) ≡ 1
one-here k c = ap (λ b. cond b 1 0) (same-ticket k)

pub replied-counts : {S : Type 0} (id : ℕ) (k : Ticket) (c : Command) (wires : List (PacketWire S)) → IsAmong (id, (k, c)) (replied wires) → 1 ≤ tally (one_of k) (replies (without_ids wires))
replied-counts id k c [] h = absurd h
replied-counts id k c ((n, (Reply j d answer, a)) ∷ ps) (inl e) =
    let same : one_of k (j, d) ≡ 1 = ap (λ (p : Waiting). one_of k p.1) e ∙ one-here k c in
    omega arith
replied-counts id k c ((n, (Reply j d answer, a)) ∷ ps) (inr h) = let more = replied-counts id k c ps h in omega arith
replied-counts id k c ((n, (Report d, a)) ∷ ps) h = replied-counts id k c ps h
replied-counts id k c ((n, (Handshake, a)) ∷ ps) h = replied-counts id k c ps h

pub asked-counts : (id : ℕ) (k : Ticket) (c : Command) (wires : List CallWire) → IsAmong (id, (k, c)) (asked wires) → 1 ≤ tally (one_of k) (commands (without_ids wires))
asked-counts id k c [] h = absurd h
asked-counts id k c ((n, Asks j d) ∷ ps) (inl e) =
    let same : one_of k (j, d) ≡ 1 = ap (λ (p : Waiting). one_of k p.1) e ∙ one-here k c in
    omega arith
asked-counts id k c ((n, Asks j d) ∷ ps) (inr h) = let more = asked-counts id k c ps h in omega arith
asked-counts id k c ((n, Greets) ∷ ps) h = asked-counts id k c ps h

pub deferred-counts : (id : ℕ) (k : Ticket) (c : Command) (wires : List Waiting) → IsAmong (id, (k, c)) wires → 1 ≤ tally (one_of k) (without_ids wires)
deferred-counts id k c [] h = absurd h
deferred-counts id k c (p ∷ ps) (inl e) =
    let same : one_of k p.1 ≡ 1 = ap (λ (q : Waiting). one_of k q.1) e ∙ one-here k c in
    omega arith
deferred-counts id k c (p ∷ ps) (inr h) = let more = deferred-counts id k c ps h in omega arith

counted : {S : Type 0} (p : Waiting) (k : Ticket) (rest : List (PacketWire S)) (deferred : List Waiting) (to : List CallWire) → p.1.0 ≡ k → IsAmong p (replied rest ++ (deferred ++ asked to))
    → 1 ≤ tally (one_of k) (replies (without_ids rest)) + (tally (one_of k) (without_ids deferred) + tally (one_of k) (commands (without_ids to)))
counted p k rest deferred to e h = elim (among-either p (replied rest) (deferred ++ asked to) h) [
  | inl a ↦ let n = replied-counts p.0 k p.1.1 rest (subst (λ t. IsAmong (p.0, (t, p.1.1)) (replied rest)) e a) in omega arith
  | inr b ↦ elim (among-either p deferred (asked to) b) [
    | inl d ↦ let n = deferred-counts p.0 k p.1.1 deferred (subst (λ t. IsAmong (p.0, (t, p.1.1)) deferred) e d) in omega arith
    | inr q ↦ let n = asked-counts p.0 k p.1.1 to (subst (λ t. IsAmong (p.0, (t, p.1.1)) (asked to)) e q) in omega arith
  ]
]

-- all that is under way but the reply that is read waits among the others
pub awaits-read : {S : Type 0} (pending : List Asked) (id : ℕ) (k : Ticket) (c : Command) (f : IsFound pending id k c) (rest : List (PacketWire S)) (deferred : List Waiting) (to : List CallWire)
    → tally (one_of k) (replies (without_ids rest)) + (tally (one_of k) (without_ids deferred) + tally (one_of k) (commands (without_ids to))) ≤ 0
    → ((p : Waiting) → IsAmong p (replied rest ++ (deferred ++ asked to)) → IsAmong p (waiting pending)) → Awaits (f.before ++ f.behind) rest deferred to
awaits-read pending id k c f rest deferred to none all p h =
    let there : IsAmong p (waiting f.before ++ waiting (f.asked ∷ f.behind)) = subst (IsAmong p) (ap waiting f.split ∙ waiting-append f.before (f.asked ∷ f.behind)) (all p h) in
    subst (IsAmong p) (sym (waiting-append f.before f.behind))
    (elim (among-either p (waiting f.before) (waiting (f.asked ∷ f.behind)) there) [
      | inl a ↦ among-front p (waiting f.before) (waiting f.behind) a
      | inr b ↦ among-back p (waiting f.before) (waiting f.behind) (elim b [
        | inl e ↦ let same : p.1.0 ≡ k = ap (λ (q : Waiting). q.1.0) (sym e) ∙ f.has_ticket in let n = counted p k rest deferred to same h in absurd (omega arith)
        | inr d ↦ d
      ])
    ])

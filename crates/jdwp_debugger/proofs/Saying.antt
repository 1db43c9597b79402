-- What is so of a packet that says something.
use Rattle.std.proofs.Common.{◌≡◌, ℕ, ◌+◌, ◌==◌, Bool, true, false, List, [], ◌∷◌, length, cond, Option, Some, None, Ok, Err, slice_get, refl, sym, ap, ◌∙◌, subst, arith, suc, zero, if◌then◌else◌}
use Rattle.std.specs.Prelude.{remove, is_some}
use Rattle.std.specs.List.{position_from}
use Rattle.std.specs.Set.{remove_key}
use Rattle.jdwp_wire.specs.declared.packet.PacketKind.{PacketKind}
use Rattle.jdwp_wire.specs.declared.packet.PacketKind.TheVariants as kind
use Rattle.jdwp_wire.specs.declared.error_code.ErrorCode.{ErrorCode}
use Rattle.jdwp_wire.specs.Widths.{Widths}
use Rattle.jdwp_layout.specs.declared.answer.Answer.{Answer}
use Rattle.jdwp_layout.specs.CommandNumbers.{COMPOSITE, is_command}
use Rattle.jdwp_event.specs.Composites.{CompositeMeaning}
use Rattle.jdwp_mirror.specs.Faults.{PARKED_MOST}
use Rattle.jdwp_mirror.specs.Widths.{widths_in}
use Rattle.jdwp_debugger.specs.declared.faults.DebuggerFault.TheVariants.{TooManyParked, BadEvent}
use Rattle.jdwp_debugger.specs.declared.pending.Ticket.{Ticket}
use Rattle.jdwp_debugger.specs.Debuggers.{Asked, IsSizesAlone, Parked}
use Rattle.jdwp_debugger.specs.News.{News, Waits, Happens, Answers, Measures, Reading, answer_by, answer_says, composite_in, composites_in, event_says, event_says_by, has_id, place_of, reply_at, reply_to, says, sizes_say, unless_bad, widths_by, with_composites, with_first}
use Rattle.jdwp_debugger.specs.Runs.{IsAwaited, ids_of, is_among, settled_by}

-- a composite is a command, and a reply is none
abbrev pub IsCommand : PacketKind → Type 0
IsCommand (kind.Command set number) = Unit {0}
IsCommand (kind.Reply e) = ⊥

abbrev pub IsReply : PacketKind → Type 0
IsReply (kind.Command set number) = ⊥
IsReply (kind.Reply e) = Unit {0}

-- a command waits at a place under this id, with this ticket
pub record IsThere (r : Reading) (id place : ℕ) (ticket : Option Ticket) : Type 0 where
  pub under : place_of id r.pending ≡ Some place
  pub asked : Asked
  pub at : slice_get r.pending place ≡ Some asked
  pub ticketed : asked.ticket ≡ ticket

-- by which a packet says what it does
abbrev pub Backs : Reading → ℕ → PacketKind → News → Type 0
Backs r id k (Waits bytes) = IsCommand k × (r.sizes ≡ None) × ((length r.parked == PARKED_MOST) ≡ false)
Backs r id k (Happens c) = IsCommand k × (is_some r.sizes ≡ true)
Backs r id k (Answers place ticket answer) = IsReply k × IsThere r id place (Some (record { 0 = ticket }))
Backs r id k (Measures place answer w cs) = IsReply k × IsThere r id place None × (composites_in w r.parked ≡ Some cs)

-- ---- composites

parks : (parked : List Parked) (bytes : List ℕ) (b : Bool) (n : News) → (length parked == PARKED_MOST) ≡ b → (if b then Err TooManyParked else Ok (Waits bytes)) ≡ Ok n → (n ≡ Waits bytes) × ((length parked == PARKED_MOST) ≡ false)
parks parked bytes true n is h = absurd (cc)
parks parked bytes false n is h = (let same : n ≡ Waits bytes = cc in same, is)

happens : (c : Option CompositeMeaning) (n : News) → event_says_by c ≡ Ok n → (c' : CompositeMeaning) × (n ≡ Happens c')
happens None n h = absurd (cc)
happens (Some c) n h = (c, (let same : n ≡ Happens c = cc in same))

backs-event : (r : Reading) (id set number : ℕ) (bytes : List ℕ) (sizes : Option Widths) (n : News) → r.sizes ≡ sizes → event_says sizes r.parked bytes ≡ Ok n → Backs r id (kind.Command set number) n
backs-event r id set number bytes None n is h =
    let p = parks r.parked bytes (length r.parked == PARKED_MOST) n refl h in
    subst (Backs r id (kind.Command set number)) (sym p.0) (tt, is, p.1)
backs-event r id set number bytes (Some w) n is h =
    let p = happens (composite_in w bytes) n h in
    subst (Backs r id (kind.Command set number)) (sym p.1) (tt, ap (λ (o : Option Widths). is_some o) is)

backs-command : (r : Reading) (id set number : ℕ) (bytes : List ℕ) (b : Bool) (n : News) → (if b then event_says r.sizes r.parked bytes else Err BadEvent) ≡ Ok n → Backs r id (kind.Command set number) n
backs-command r id set number bytes true n h = backs-event r id set number bytes r.sizes n refl h
backs-command r id set number bytes false n h = absurd (cc)

-- ---- replies

measures : (place : ℕ) (answer : Answer) (w : Widths) (cs : Option (List CompositeMeaning)) (n : News) → with_composites place answer w cs ≡ Ok n
    → (them : List CompositeMeaning) × (cs ≡ Some them) × (n ≡ Measures place answer w them)
measures place answer w None n h = absurd (cc)
measures place answer w (Some cs) n h = (cs, refl, (let same : n ≡ Measures place answer w cs = cc in same))

backs-sizes : (r : Reading) (id place : ℕ) (e : ErrorCode) (answer : Answer) (w : Option Widths) (n : News) → IsThere r id place None → sizes_say r.parked place answer w ≡ Ok n → Backs r id (kind.Reply e) n
backs-sizes r id place e answer None n there h = absurd (cc)
backs-sizes r id place e answer (Some w) n there h =
    let m = measures place answer w (composites_in w r.parked) n h in
    subst (Backs r id (kind.Reply e)) (sym m.2) (tt, there, m.1)

backs-answer : (r : Reading) (id place : ℕ) (e : ErrorCode) (ticket : Option Ticket) (answer : Option Answer) (n : News) → IsThere r id place ticket → answer_says r.parked place ticket answer ≡ Ok n
    → Backs r id (kind.Reply e) n
backs-answer r id place e ticket None n there h = absurd (cc)
backs-answer r id place e (Some k) (Some answer) n there h =
    let same : n ≡ Answers place k.0 answer = cc in
    subst (Backs r id (kind.Reply e)) (sym same) (tt, there)
backs-answer r id place e None (Some answer) n there h = backs-sizes r id place e answer (widths_in answer) n there h

backs-reply-to : (r : Reading) (id place : ℕ) (e : ErrorCode) (bytes : List ℕ) (found : Option Asked) (n : News) → place_of id r.pending ≡ Some place → slice_get r.pending place ≡ found → reply_to r e bytes place found ≡ Ok n
    → Backs r id (kind.Reply e) n
backs-reply-to r id place e bytes None n under at h = absurd (cc)
backs-reply-to r id place e bytes (Some asked) n under at h =
    backs-answer r id place e asked.ticket (unless_bad asked.command (answer_by r.order (widths_by r.sizes) asked.command e bytes)) n (record { under = under; asked = asked; at = at; ticketed = refl }) h

backs-reply : (r : Reading) (id : ℕ) (e : ErrorCode) (bytes : List ℕ) (found : Option ℕ) (n : News) → place_of id r.pending ≡ found → reply_at r e bytes found ≡ Ok n → Backs r id (kind.Reply e) n
backs-reply r id e bytes None n under h = absurd (cc)
backs-reply r id e bytes (Some place) n under h = backs-reply-to r id place e bytes (slice_get r.pending place) n under refl h

pub backs : (r : Reading) (id : ℕ) (k : PacketKind) (bytes : List ℕ) (n : News) → says r id k bytes ≡ Ok n → Backs r id k n
backs r id (kind.Command set number) bytes n h = backs-command r id set number bytes (is_command COMPOSITE set number) n h
backs r id (kind.Reply e) bytes n h = backs-reply r id e bytes (place_of id r.pending) n refl h

-- ---- as many composites as waited

first-more : (c : Option CompositeMeaning) (cs : Option (List CompositeMeaning)) (all : List CompositeMeaning) → with_first c cs ≡ Some all
    → (first : CompositeMeaning) × (rest : List CompositeMeaning) × (cs ≡ Some rest) × (all ≡ first ∷ rest)
first-more None cs all h = absurd (cc)
first-more (Some c) None all h = absurd (cc)
first-more (Some c) (Some cs) all h = (c, cs, refl, (let same : all ≡ c ∷ cs = cc in same))

pub as-many : (w : Widths) (ps : List Parked) (cs : List CompositeMeaning) → composites_in w ps ≡ Some cs → length cs ≡ length ps
as-many w [] cs h = (let same : cs ≡ [] = cc in ap length same)
as-many w (p ∷ ps) cs h =
    let m = first-more (composite_in w p.body) (composites_in w ps) cs h in
    ap length m.3 ∙ ap suc (as-many w ps m.1 m.2)

-- ---- what a reply settles

-- the commands that wait behind what was read
abbrev pub left_by : News → List Asked → List Asked
left_by (Waits bytes) ps = ps
left_by (Happens c) ps = ps
left_by (Answers place ticket answer) ps = remove ps place
left_by (Measures place answer w cs) ps = remove ps place

abbrev pub is_it : ℕ → ℕ → Bool
is_it id n = n == id

found-so : (id : ℕ) (p : Asked) (ps : List Asked) (from place : ℕ) (b : Bool)
    → ((k : ℕ) (q : ℕ) → position_from (has_id id) k ps ≡ Some q → (i : ℕ) × (q ≡ k + i) × (ids_of (remove ps i) ≡ remove_key (is_it id) (ids_of ps)) × (is_among id (ids_of ps) ≡ true))
    → has_id id p ≡ b → cond b (Some from) (position_from (has_id id) (from + 1) ps) ≡ Some place
    → (i : ℕ) × (place ≡ from + i) × (ids_of (remove (p ∷ ps) i) ≡ remove_key (is_it id) (ids_of (p ∷ ps))) × (is_among id (ids_of (p ∷ ps)) ≡ true)
found-so id p ps from place true rest is h =
    let same : from ≡ place = cc in
    (0, omega arith, rw is refl, rw is refl)
found-so id p ps from place false rest is h =
    let r = rest (from + 1) place h in
    (suc r.0, omega (arith, r.1), rw is (ap (λ (ns : List ℕ). p.id ∷ ns) r.2), rw is r.3)

found : (id : ℕ) (ps : List Asked) (from place : ℕ) → position_from (has_id id) from ps ≡ Some place
    → (i : ℕ) × (place ≡ from + i) × (ids_of (remove ps i) ≡ remove_key (is_it id) (ids_of ps)) × (is_among id (ids_of ps) ≡ true)
found id [] from place h = absurd (cc)
found id (p ∷ ps) from place h = found-so id p ps from place (has_id id p) (λ k q. found id ps k q) refl h

pub settles : (id place : ℕ) (ps : List Asked) → place_of id ps ≡ Some place → (ids_of (remove ps place) ≡ remove_key (is_it id) (ids_of ps)) × (is_among id (ids_of ps) ≡ true)
settles id place ps h =
    let f = found id ps 0 place h in
    let same : f.0 ≡ place = omega (arith, f.1) in
    (ap (λ (i : ℕ). ids_of (remove ps i)) (sym same) ∙ f.2, f.3)

-- what is settled by what was read
pub settles-by : (r : Reading) (id : ℕ) (k : PacketKind) (n : News) → Backs r id k n → (ids_of (left_by n r.pending) ≡ settled_by k id (ids_of r.pending)) × IsAwaited k id (ids_of r.pending)
settles-by r id (kind.Command set number) (Waits bytes) b = (refl, tt)
settles-by r id (kind.Reply e) (Waits bytes) b = absurd b.0
settles-by r id (kind.Command set number) (Happens c) b = (refl, tt)
settles-by r id (kind.Reply e) (Happens c) b = absurd b.0
settles-by r id (kind.Command set number) (Answers place ticket answer) b = absurd b.0
settles-by r id (kind.Reply e) (Answers place ticket answer) b = settles id place r.pending b.1.under
settles-by r id (kind.Command set number) (Measures place answer w cs) b = absurd b.0
settles-by r id (kind.Reply e) (Measures place answer w cs) b = settles id place r.pending b.1.under

-- ---- before the widths are known no command with a ticket waits

pub alone-at : (ps : List Asked) (place : ℕ) (asked : Asked) → IsSizesAlone ps → slice_get ps place ≡ Some asked → asked.ticket ≡ None
alone-at [] place asked alone h = absurd (cc)
alone-at (p ∷ []) zero asked alone h = (let same : p ≡ asked = cc in ap (λ (a : Asked). a.ticket) (sym same) ∙ alone.0)
alone-at (p ∷ []) (suc place) asked alone h = absurd (cc)
alone-at (p ∷ q ∷ ps) place asked alone h = absurd alone

pub unanswerable : (r : Reading) (id place ticket : ℕ) → IsSizesAlone r.pending → IsThere r id place (Some (record { 0 = ticket })) → ⊥
unanswerable r id place ticket alone there =
    let none = alone-at r.pending place there.asked alone there.at in
    let some = there.ticketed in
    absurd (let e : None ≡ Some (record { 0 = ticket }) = sym none ∙ some in cc)

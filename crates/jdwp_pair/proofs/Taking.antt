-- what a debugger takes of a target that sends replies and events by threads of its own
use Rattle.std.proofs.Common.{◌≡◌, ℕ, ◌==◌, nat_le, Bool, true, false, ◌||◌, not, List, [], ◌∷◌, length, Option, Some, None, Ok, if◌then◌else◌, slice_get, refl, sym, subst, ap}
use Rattle.jdwp_wire.specs.declared.error_code.ErrorCode.{ErrorCode}
use Rattle.jdwp_wire.specs.declared.packet.PacketKind.{PacketKind}
use Rattle.jdwp_wire.specs.declared.packet.PacketKind.TheVariants as kind
use Rattle.jdwp_wire.specs.ErrorCodes.{NONE}
use Rattle.jdwp_layout.specs.declared.answer.Answer.{Answer}
use Rattle.jdwp_layout.specs.declared.answer.Answer.TheVariants.{Error}
use Rattle.jdwp_event.specs.Composites.{CompositeMeaning, POLICY_ALL}
use Rattle.jdwp_event.specs.Told.{composite_thread}
use Rattle.jdwp_action.specs.Actions.{Command}
use Rattle.jdwp_action.specs.RowLayouts.{row_reply}
use Rattle.jdwp_layout.specs.CommandTable.{row_at}
use Rattle.jdwp_debugger.specs.declared.order.Order.TheVariants.{One, Apart}
use Rattle.jdwp_debugger.specs.declared.pending.Ticket.{Ticket}
use Rattle.jdwp_debugger.specs.Debuggers.{Asked, Parked}
use Rattle.jdwp_debugger.specs.DebuggerTurns.{bad_where, news_refusal, reports}
use Rattle.jdwp_debugger.specs.News.{News, Waits, Happens, Answers, Measures, Reading, answer_says, data_by, place_of, reply_at, reply_to, says, unless_bad, widths_by}
use Rattle.jdwp_debugger.specs.Orders.{has_bad_event_apart, is_asked_death, is_bad_event_apart, none_known}
use Rattle.jdwp_mirror.specs.Faults.{count_of_thread, has_bad_event, is_bad_event, is_of_two}
use Rattle.jdwp_mirror.specs.KnownThreads.{count_in}
use Rattle.jdwp_mirror.specs.Messages.{Message, Handshake, Reply, Report}
use Rattle.jdwp_mirror.specs.Mirror.{is_positive, learned}
use Rattle.jdwp_mirror.specs.Mirrors.{Mirror}
use Rattle.jdwp_pair.specs.Followers.{TakesNoLess}

-- ---- truth values

or-left : (a b : Bool) → (a || b) ≡ false → a ≡ false
or-left true b e = e
or-left false b e = refl

or-right : (a b : Bool) → (a || b) ≡ false → b ≡ false
or-right true b e = absurd (cc)
or-right false b e = e

or-both : (a b : Bool) → a ≡ false → b ≡ false → (a || b) ≡ false
or-both a b e f = subst (λ (x : Bool). (x || b) ≡ false) (sym e) f

pick : (b x y : Bool) → x ≡ false → y ≡ false → (if b then x else y) ≡ false
pick true x y e f = e
pick false x y e f = f

-- ---- composites

none-positive : (thread : Option ℕ) → is_positive (count_of_thread none_known thread) ≡ false
none-positive None = refl
none-positive (Some t) = refl

-- what is bad where no thread is known is bad by any counts
bad-apart : (counts : ℕ → Option ℕ) (c : CompositeMeaning) → is_bad_event counts c ≡ false → is_bad_event_apart c ≡ false
bad-apart counts c e =
    let none = or-left (length c.events == 0) _ e in
    let behind-none = or-right (length c.events == 0) _ e in
    let policy = or-left (not (nat_le c.policy POLICY_ALL)) _ behind-none in
    let behind-policy = or-right (not (nat_le c.policy POLICY_ALL)) _ behind-none in
    let two = or-left (is_of_two c.events) _ behind-policy in
    let behind-two = or-right (is_of_two c.events) _ behind-policy in
    let death = or-right (is_positive (count_of_thread counts (composite_thread c))) _ behind-two in
    pick (is_asked_death c) _ _ policy (or-both _ _ none (or-both _ _ policy (or-both _ _ two (or-both _ _ (none-positive (composite_thread c)) death))))

all-apart : (counts : ℕ → Option ℕ) (messages : List Message) → has_bad_event counts messages ≡ false → has_bad_event_apart messages ≡ false
all-apart counts [] e = refl
all-apart counts (Report c ∷ messages) e =
    or-both _ _ (bad-apart counts c (or-left (is_bad_event counts c) _ e)) (all-apart (λ t. learned (Report c) t (counts t)) messages (or-right (is_bad_event counts c) _ e))
all-apart counts (Handshake ∷ messages) e = all-apart counts messages e
all-apart counts (Reply k c answer ∷ messages) e = all-apart counts messages e

not-bad : (b : Bool) → bad_where b ≡ None → b ≡ false
not-bad true e = absurd (cc)
not-bad false e = refl

news-taken : (m n : Mirror) (news : News) → news_refusal One m news ≡ None → news_refusal Apart n news ≡ None
news-taken m n (Waits bytes) e = refl
news-taken m n (Happens c) e = ap bad_where (bad-apart (count_in m.threads) c (not-bad _ e))
news-taken m n (Answers place ticket answer) e = refl
news-taken m n (Measures place answer w cs) e = ap bad_where (all-apart none_known (reports cs) (not-bad _ e))

-- ---- replies

-- an error is read whatever data come with it
answer-taken : (parked : List Parked) (place : ℕ) (ticket : Option Ticket) (c : Command) (error : ErrorCode) (data_ : Option Answer) (is_data is_bare : Bool) (news : News)
    → answer_says parked place ticket (unless_bad c (if is_data then data_ else (if is_bare then Some (Error error) else None))) ≡ Ok news
    → answer_says parked place ticket (unless_bad c (if is_data then data_ else Some (Error error))) ≡ Ok news
answer-taken parked place ticket c error data_ true is_bare news e = e
answer-taken parked place ticket c error data_ false true news e = e
answer-taken parked place ticket c error data_ false false news e = absurd (cc)

reply-taken : (r : Reading) (error : ErrorCode) (body : List ℕ) (place : ℕ) (asked : Option Asked) (news : News)
    → reply_to (record r { order = One }) error body place asked ≡ Ok news → reply_to (record r { order = Apart }) error body place asked ≡ Ok news
reply-taken r error body place None news e = e
reply-taken r error body place (Some asked) news e =
    answer-taken r.parked place asked.ticket asked.command error (data_by (widths_by r.sizes) (row_reply (row_at asked.command.set asked.command.number)) body) (error.0 == NONE.0) (length body == 0) news e

at-taken : (r : Reading) (error : ErrorCode) (body : List ℕ) (place : Option ℕ) (news : News)
    → reply_at (record r { order = One }) error body place ≡ Ok news → reply_at (record r { order = Apart }) error body place ≡ Ok news
at-taken r error body None news e = e
at-taken r error body (Some place) news e = reply-taken r error body place (slice_get r.pending place) news e

says-taken : (r : Reading) (id : ℕ) (k : PacketKind) (body : List ℕ) (news : News) → says (record r { order = One }) id k body ≡ Ok news → says (record r { order = Apart }) id k body ≡ Ok news
says-taken r id (kind.Command set number) body news e = e
says-taken r id (kind.Reply error) body news e = at-taken r error body (place_of id r.pending) news e

pub takes-no-less : TakesNoLess
takes-no-less = λ r m n id k body news said unrefused. (says-taken r id k body news said, news-taken m n news unrefused)

-- What is followed by a ledger and the commands that wait, as commands are put and packets read.
use Rattle.std.proofs.Common.{◌≡◌, ◌∙◌, ℕ, zero, suc, ◌+◌, ◌-◌, ◌<◌, Bool, true, false, List, [], ◌∷◌, ◌++◌, length, Option, Some, None, drop, slice_get, refl, sym, ap, subst, add-zero, if◌then◌else◌, arith}
use Rattle.std.specs.Prelude.{◌&&◌, fold, is_some, remove}
use Rattle.std.proofs.lemmas.List.{append-nil, length-append}
use Rattle.jdwp_wire.specs.Widths.{Widths}
use Rattle.jdwp_layout.specs.declared.answer.Answer.{Answer}
use Rattle.jdwp_event.specs.Composites.{CompositeMeaning}
use Rattle.jdwp_action.specs.Actions.{Command}
use Rattle.jdwp_apart.specs.Following.{Following, answered_by, answered_to, before_thread, invocation_by, invocation_in, put_by, put_to, reported_to}
use Rattle.jdwp_apart.specs.Messages.{Invocation, is_invocation, may_ask, releases}
use Rattle.jdwp_apart.specs.Watch.{all_lower, rest}
use Rattle.jdwp_watch.specs.declared.put.Put.{Put}
use Rattle.jdwp_watch.specs.declared.put.Put.TheVariants.{Invokes, Asks, Outside}
use Rattle.jdwp_watch.specs.Ledgers.{Account, following_from, put_of}
use Rattle.jdwp_watch.specs.Lowerings.{lowers_by, lowers_one}
use Rattle.jdwp_debugger.specs.declared.order.Order.{Order}
use Rattle.jdwp_debugger.specs.declared.order.Order.TheVariants.{One, Apart}
use Rattle.jdwp_debugger.specs.Debuggers.{Asked, IsSizesAlone, begun_in, first_in}
use Rattle.jdwp_debugger.specs.DebuggerTurns.{command_at, command_of, is_next}
use Rattle.jdwp_debugger.specs.News.{widths_by}
use Rattle.jdwp_debugger.proofs.Entries.{left_over}
use Rattle.jdwp_debugger.specs.FollowingKept.{AreReported, IsAnswered, IsAtFirst, IsCounted, IsDue, IsFirstOf, IsReported, all_lowered, and_command, commands_in, following_by, following_of, invoked_in, released, ledger_put}
use Rattle.jdwp_mirror.specs.Messages.{id_sizes}

-- ---- commands that invoke a method

found-by : (b : Bool) (i : Invocation) → is_some (if b then Some i else None) ≡ b
found-by true i = refl
found-by false i = refl

pub invokes-some : (w : Widths) (c : Command) → is_some (invocation_in w c) ≡ is_invocation c
invokes-some w c = found-by (is_invocation c) (invocation_by (before_thread w c) w.object c.carried)

-- ---- one more is put

and-append : (o : Option Invocation) (c : Command) (xs ys : List Command) → and_command o c (xs ++ ys) ≡ and_command o c xs ++ ys
and-append None c xs ys = refl
and-append (Some i) c xs ys = refl

pub commands-more : (w : Widths) (ps : List Asked) (p : Asked) → commands_in w (ps ++ p ∷ []) ≡ commands_in w ps ++ and_command (invocation_in w p.command) p.command []
commands-more w [] p = refl
commands-more w (q ∷ ps) p =
    ap (λ (cs : List Command). and_command (invocation_in w q.command) q.command cs) (commands-more w ps p)
    ∙ and-append (invocation_in w q.command) q.command (commands_in w ps) (and_command (invocation_in w p.command) p.command [])

invoked-more : (w : Widths) (ps : List Asked) (p : Asked) (t : ℕ) → invoked_in w (ps ++ p ∷ []) t ≡ invoked_in w ps t + released (invocation_in w p.command) t
invoked-more w [] p t = omega arith
invoked-more w (q ∷ ps) p t = let more = invoked-more w ps p t in omega (arith, more)

-- where the pieces are the same
from-same : (a b : Account) (cs ds : List Command) (f g : ℕ → ℕ) → a ≡ b → cs ≡ ds → ((t : ℕ) → f t ≡ g t) → following_from a cs f ≡ following_from b ds g
from-same a b cs ds f g ab cd fg = (λ j. following_from (ab j) (cd j) (λ t. fg t j))

put-account : (w : Widths) (ps : List Asked) (p : Asked) (a : Account) (o : Option Invocation) (may is : Bool) → invocation_in w p.command ≡ o → is_some o ≡ is
    → following_by (ledger_put (if is then Invokes else (if may then Asks else Outside)) (Some a)) w (ps ++ p ∷ []) ≡ put_by o may p.command (following_from a (commands_in w ps) (invoked_in w ps))
put-account w ps p a None may true found some = absurd cc
put-account w ps p a (Some i) may false found some = absurd cc
put-account w ps p a (Some i) may true found some =
    ap (λ (f : Following). Some f)
    (from-same a a (commands_in w (ps ++ p ∷ [])) (commands_in w ps) (invoked_in w (ps ++ p ∷ [])) (λ t. invoked_in w ps t + releases i t) refl
    (commands-more w ps p ∙ ap (λ (o : Option Invocation). commands_in w ps ++ and_command o p.command []) found ∙ append-nil (commands_in w ps))
    (λ t. invoked-more w ps p t ∙ ap (λ (o : Option Invocation). invoked_in w ps t + released o t) found))
put-account w ps p a None true false found some =
    ap (λ (f : Following). Some f)
    (from-same (record a { asked = a.asked + 1 }) (record a { asked = a.asked + 1 }) (commands_in w (ps ++ p ∷ [])) (commands_in w ps ++ p.command ∷ []) (invoked_in w (ps ++ p ∷ [])) (invoked_in w ps) refl
    (commands-more w ps p ∙ ap (λ (o : Option Invocation). commands_in w ps ++ and_command o p.command []) found)
    (λ t. invoked-more w ps p t ∙ ap (λ (o : Option Invocation). invoked_in w ps t + released o t) found ∙ add-zero (invoked_in w ps t)))
put-account w ps p a None false false found some = refl

none-put : (k : Put) → ledger_put k None ≡ None
none-put Invokes = refl
none-put Asks = refl
none-put Outside = refl

pub put-none : (k : Put) (ledger : Option Account) → ledger ≡ None → ledger_put k ledger ≡ None
put-none k ledger none = ap (ledger_put k) none ∙ none-put k

pub put-follows : (w : Widths) (ps : List Asked) (p : Asked) (ledger : Option Account) → following_by (ledger_put (put_of p.command) ledger) w (ps ++ p ∷ []) ≡ put_to w p.command (following_by ledger w ps)
put-follows w ps p None = ap (λ (l : Option Account). following_by l w (ps ++ p ∷ [])) (none-put (put_of p.command))
put-follows w ps p (Some a) = put-account w ps p a (invocation_in w p.command) (may_ask p.command) (is_invocation p.command) refl (invokes-some w p.command)

counts-account : (w : Widths) (ps : List Asked) (p : Asked) (a : Account) (o : Option Invocation) (may is : Bool) → invocation_in w p.command ≡ o → is_some o ≡ is → IsCounted (Some a) w ps
    → IsCounted (ledger_put (if is then Invokes else (if may then Asks else Outside)) (Some a)) w (ps ++ p ∷ [])
counts-account w ps p a None may true found some counted = absurd cc
counts-account w ps p a (Some i) may false found some counted = absurd cc
counts-account w ps p a (Some i) may true found some counted =
    let same = commands-more w ps p ∙ ap (λ (o : Option Invocation). commands_in w ps ++ and_command o p.command []) found ∙ append-nil (commands_in w ps) in
    counted ∙ ap (λ (cs : List Command). a.answered + length cs) (sym same)
counts-account w ps p a None true false found some counted =
    let same = commands-more w ps p ∙ ap (λ (o : Option Invocation). commands_in w ps ++ and_command o p.command []) found in
    let long = ap (λ (cs : List Command). length cs) same ∙ length-append (commands_in w ps) (p.command ∷ []) in
    omega (arith, counted, long)
counts-account w ps p a None false false found some counted = tt

pub put-counts : (w : Widths) (ps : List Asked) (p : Asked) (ledger : Option Account) → IsCounted ledger w ps → IsCounted (ledger_put (put_of p.command) ledger) w (ps ++ p ∷ [])
put-counts w ps p None counted = subst (λ (l : Option Account). IsCounted l w (ps ++ p ∷ [])) (sym (none-put (put_of p.command))) tt
put-counts w ps p (Some a) counted = counts-account w ps p a (invocation_in w p.command) (may_ask p.command) (is_invocation p.command) refl (invokes-some w p.command) counted

-- ---- one is answered

-- without one that invokes a method the others are the same
commands-without : (w : Widths) (ps : List Asked) (place : ℕ) (p : Asked) (i : Invocation) → slice_get ps place ≡ Some p → invocation_in w p.command ≡ Some i → commands_in w (remove ps place) ≡ commands_in w ps
commands-without w [] place p i at found = absurd cc
commands-without w (q ∷ ps) zero p i at found =
    let same : q ≡ p = cc in
    sym (ap (λ (o : Option Invocation). and_command o q.command (commands_in w ps)) (ap (λ (x : Asked). invocation_in w x.command) same ∙ found))
commands-without w (q ∷ ps) (suc place) p i at found = ap (λ (cs : List Command). and_command (invocation_in w q.command) q.command cs) (commands-without w ps place p i at found)

invoked-without : (w : Widths) (ps : List Asked) (place : ℕ) (p : Asked) (t : ℕ) → slice_get ps place ≡ Some p → invoked_in w ps t ≡ released (invocation_in w p.command) t + invoked_in w (remove ps place) t
invoked-without w [] place p t at = absurd cc
invoked-without w (q ∷ ps) zero p t at =
    let same : q ≡ p = cc in
    ap (λ (x : Asked). released (invocation_in w x.command) t + invoked_in w ps t) same
invoked-without w (q ∷ ps) (suc place) p t at = let less = invoked-without w ps place p t at in omega (arith, less)

both-true : (a b : Bool) → (a && b) ≡ true → (a ≡ true) × (b ≡ true)
both-true true b e = (refl, e)
both-true false b e = absurd cc

-- the one that waits longest of these is the first
some-first : (w : Widths) (q : Asked) (cs : List Command) (o : Option Invocation) → invocation_in w q.command ≡ o → is_some o ≡ true → and_command (invocation_in w q.command) q.command cs ≡ cs
some-first w q cs None found some = absurd cc
some-first w q cs (Some i) found some = ap (λ (o : Option Invocation). and_command o q.command cs) found

commands-next : (w : Widths) (ps : List Asked) (place : ℕ) (p : Asked) → slice_get ps place ≡ Some p → invocation_in w p.command ≡ None → is_next place ps ≡ true → commands_in w (remove ps place) ≡ rest (commands_in w ps)
commands-next w [] place p at found next = absurd cc
commands-next w (q ∷ ps) zero p at found next =
    let same : q ≡ p = cc in
    ap (λ (o : Option Invocation). rest (and_command o q.command (commands_in w ps))) (sym (ap (λ (x : Asked). invocation_in w x.command) same ∙ found))
commands-next w (q ∷ ps) (suc place) p at found next =
    let both = both-true (is_invocation q.command) (is_next place ps) next in
    let first = λ (cs : List Command). some-first w q cs (invocation_in w q.command) refl (invokes-some w q.command ∙ both.0) in
    first (commands_in w (remove ps place)) ∙ (commands-next w ps place p at found both.1 ∙ ap (λ (cs : List Command). rest cs) (sym (first (commands_in w ps))))

-- there is one
and-longer : (o : Option Invocation) (c : Command) (cs : List Command) → 0 < length cs → 0 < length (and_command o c cs)
and-longer None c cs some = omega arith
and-longer (Some i) c cs some = some

some-waits : (w : Widths) (ps : List Asked) (place : ℕ) (p : Asked) → slice_get ps place ≡ Some p → invocation_in w p.command ≡ None → 0 < length (commands_in w ps)
some-waits w [] place p at found = absurd cc
some-waits w (q ∷ ps) zero p at found =
    let same : q ≡ p = cc in
    let one : 0 < length (q.command ∷ commands_in w ps) = omega arith in
    subst (λ (o : Option Invocation). 0 < length (and_command o q.command (commands_in w ps))) (sym (ap (λ (x : Asked). invocation_in w x.command) same ∙ found)) one
some-waits w (q ∷ ps) (suc place) p at found = and-longer (invocation_in w q.command) q.command (commands_in w ps) (some-waits w ps place p at found)

due-account : (w : Widths) (ps : List Asked) (place : ℕ) (p : Asked) (a : Account) (o : Option Invocation) (is next : Bool) → invocation_in w p.command ≡ o → is_some o ≡ is → slice_get ps place ≡ Some p → IsCounted (Some a) w ps → IsDue is next (Some a)
due-account w ps place p a o true next found some at counted = tt
due-account w ps place p a o false false found some at counted = tt
due-account w ps place p a (Some i) false true found some at counted = absurd cc
due-account w ps place p a None false true found some at counted = let waits = some-waits w ps place p at found in omega (arith, counted, waits)

none-due : (is next : Bool) → IsDue is next None
none-due true next = tt
none-due false true = tt
none-due false false = tt

pub answer-due : (w : Widths) (ps : List Asked) (place : ℕ) (p : Asked) (ledger : Option Account) → slice_get ps place ≡ Some p → IsCounted ledger w ps → IsDue (is_invocation p.command) (is_next place ps) ledger
answer-due w ps place p None at counted = none-due (is_invocation p.command) (is_next place ps)
answer-due w ps place p (Some a) at counted = due-account w ps place p a (invocation_in w p.command) (is_invocation p.command) (is_next place ps) refl (invokes-some w p.command) at counted

less-released : (w : Widths) (ps : List Asked) (place : ℕ) (p : Asked) (i : Invocation) (t : ℕ) → slice_get ps place ≡ Some p → invocation_in w p.command ≡ Some i → invoked_in w (remove ps place) t ≡ invoked_in w ps t - releases i t
less-released w ps place p i t at found =
    let all = invoked-without w ps place p t at ∙ ap (λ (o : Option Invocation). released o t + invoked_in w (remove ps place) t) found in
    omega (arith, all)

same-released : (w : Widths) (ps : List Asked) (place : ℕ) (p : Asked) (t : ℕ) → slice_get ps place ≡ Some p → invocation_in w p.command ≡ None → invoked_in w (remove ps place) t ≡ invoked_in w ps t
same-released w ps place p t at found =
    let all = invoked-without w ps place p t at ∙ ap (λ (o : Option Invocation). released o t + invoked_in w (remove ps place) t) found in
    omega (arith, all)

-- what is followed then, and that the commands that wait are counted
abbrev pub Follows : Option Account → Widths → List Asked → Option Following → Type 0
Follows ledger w ps following = (following_by ledger w ps ≡ following) × IsCounted ledger w ps

none-follows : (w : Widths) (ps : List Asked) (new : Option Account) → new ≡ None → Follows new w ps None
none-follows w ps new none = subst (λ (l : Option Account). Follows l w ps None) (sym none) (refl, tt)

answer-account : (w : Widths) (ps : List Asked) (place : ℕ) (p : Asked) (answer : Answer) (a : Account) (new : Option Account) (o : Option Invocation) (is next : Bool) → invocation_in w p.command ≡ o → is_some o ≡ is → is_next place ps ≡ next
    → slice_get ps place ≡ Some p → IsCounted (Some a) w ps → IsAnswered is next p.command answer (Some a) new
    → Follows new w (remove ps place) (answered_by o next p.command answer (following_from a (commands_in w ps) (invoked_in w ps)))
answer-account w ps place p answer a new None true next found some first at counted h = absurd cc
answer-account w ps place p answer a new (Some i) false next found some first at counted h = absurd cc
answer-account w ps place p answer a new (Some i) true next found some first at counted h =
    let cs = commands-without w ps place p i at found in
    let f = from-same a a (commands_in w (remove ps place)) (commands_in w ps) (invoked_in w (remove ps place)) (λ t. invoked_in w ps t - releases i t) refl cs (λ t. less-released w ps place p i t at found) in
    subst (λ (l : Option Account). Follows l w (remove ps place) (answered_by (Some i) next p.command answer (following_from a (commands_in w ps) (invoked_in w ps)))) (sym h)
    (ap (λ (x : Following). Some x) f, counted ∙ ap (λ (ds : List Command). a.answered + length ds) (sym cs))
answer-account w ps place p answer a new None false false found some first at counted h = none-follows w (remove ps place) new h
answer-account w ps place p answer a new None false true found some first at counted (b, is, h) =
    let cs = commands-next w ps place p at found first in
    let f = from-same b b (commands_in w (remove ps place)) (rest (commands_in w ps)) (invoked_in w (remove ps place)) (invoked_in w ps) refl cs (λ t. same-released w ps place p t at found) in
    let waits = some-waits w ps place p at found in
    let less = rest-shorter (commands_in w ps) waits in
    let long = ap (λ (ds : List Command). length ds) cs in
    let one = h.asked in
    let two = h.answered in
    let all : b.asked ≡ b.answered + length (commands_in w (remove ps place)) = omega (arith, counted, less, long, one, two) in
    subst (λ (l : Option Account). Follows l w (remove ps place) (answered_by None true p.command answer (following_from a (commands_in w ps) (invoked_in w ps)))) (sym is)
    (ap (λ (x : Following). Some x) f ∙ h.is (commands_in w ps) (invoked_in w ps), all)
  where
    rest-shorter : (cs : List Command) → 0 < length cs → length cs ≡ length (rest cs) + 1
    rest-shorter [] some = absurd (omega (arith, some))
    rest-shorter (c ∷ cs) some = omega arith

none-answered : (is next : Bool) (c : Command) (answer : Answer) (new : Option Account) → IsAnswered is next c answer None new → new ≡ None
none-answered true next c answer new h = h
none-answered false false c answer new h = h
none-answered false true c answer new h = h

pub answer-none : (is next : Bool) (c : Command) (answer : Answer) (old new : Option Account) → old ≡ None → IsAnswered is next c answer old new → new ≡ None
answer-none is next c answer old new none h = none-answered is next c answer new (subst (λ (l : Option Account). IsAnswered is next c answer l new) none h)

pub answer-follows : (w : Widths) (ps : List Asked) (place : ℕ) (p : Asked) (answer : Answer) (old new : Option Account) → slice_get ps place ≡ Some p → IsCounted old w ps
    → IsAnswered (is_invocation p.command) (is_next place ps) p.command answer old new
    → Follows new w (remove ps place) (answered_to w (is_next place ps) p.command answer (following_by old w ps))
answer-follows w ps place p answer None new at counted h = none-follows w (remove ps place) new (none-answered (is_invocation p.command) (is_next place ps) p.command answer new h)
answer-follows w ps place p answer (Some a) new at counted h =
    answer-account w ps place p answer a new (invocation_in w p.command) (is_invocation p.command) (is_next place ps) refl (invokes-some w p.command) refl at counted h

-- ---- composites

none-reported : (c : CompositeMeaning) (old new : Option Account) → old ≡ None → IsReported c old new → new ≡ None
none-reported c old new none h = subst (λ (l : Option Account). IsReported c l new) none h

pub report-none : (c : CompositeMeaning) (old new : Option Account) → old ≡ None → IsReported c old new → new ≡ None
report-none c old new none h = none-reported c old new none h

pub report-follows : (w : Widths) (ps : List Asked) (c : CompositeMeaning) (old new : Option Account) → IsCounted old w ps → IsReported c old new → Follows new w ps (reported_to (following_by old w ps) c)
report-follows w ps c None new counted h = none-follows w ps new h
report-follows w ps c (Some a) new counted (b, is, h) =
    let one = h.asked in
    let two = h.answered in
    let all : b.asked ≡ b.answered + length (commands_in w ps) = omega (arith, counted, one, two) in
    subst (λ (l : Option Account). Follows l w ps (reported_to (following_by (Some a) w ps) c)) (sym is)
    (ap (λ (x : Following). Some x) (h.is (commands_in w ps) (invoked_in w ps) counted), all)

pub each-follows : (w : Widths) (ps : List Asked) (cs : List CompositeMeaning) (old new : Option Account) → IsCounted old w ps → AreReported cs old new → Follows new w ps (fold reported_to (following_by old w ps) cs)
each-follows w ps [] old new counted h = subst (λ (l : Option Account). Follows l w ps (following_by old w ps)) (sym h) (refl, counted)
each-follows w ps (c ∷ cs) old new counted (middle, first, others) =
    let one = report-follows w ps c old middle counted first in
    subst (λ (f : Option Following). Follows new w ps (fold reported_to f cs)) one.0 (each-follows w ps cs middle new one.1 others)

-- ---- as the widths of ids become known

pub first-follows : (o : Order) (w : Widths) → following_by (first_in o) w [] ≡ begun_in o
first-follows One w = refl
first-follows Apart w = refl

pub first-counted : (o : Order) (w : Widths) → IsCounted (first_in o) w []
first-counted One w = tt
first-counted Apart w = refl

abbrev sizes_asked : Asked
sizes_asked = record { id = 0; ticket = None; command = id_sizes }

abbrev any_width : Widths
any_width = record { field = 8; method = 8; object = 8; reference = 8; frame = 8 }

-- its answer is due
pub waited-due : (o : Order) (cs : List CompositeMeaning) (middle : Option Account) → AreReported cs (ledger_put Asks (first_in o)) middle → IsDue (is_invocation id_sizes) true middle
waited-due o cs middle each =
    let ps : List Asked = sizes_asked ∷ [] in
    let counted : IsCounted (ledger_put Asks (first_in o)) any_width ps = put-counts any_width [] sizes_asked (first_in o) (first-counted o any_width) in
    let them = each-follows any_width ps cs (ledger_put Asks (first_in o)) middle counted each in
    answer-due any_width ps 0 sizes_asked middle refl them.1

pub waited-follows : (o : Order) (answer : Answer) (cs : List CompositeMeaning) (middle new : Option Account) → AreReported cs (ledger_put Asks (first_in o)) middle → IsAnswered false true id_sizes answer middle new → IsFirstOf o answer cs new
waited-follows o answer cs middle new each answered = λ w.
    let ps : List Asked = sizes_asked ∷ [] in
    let put : following_by (ledger_put Asks (first_in o)) w ps ≡ put_to w id_sizes (begun_in o) = put-follows w [] sizes_asked (first_in o) ∙ ap (put_to w id_sizes) (first-follows o w) in
    let counted : IsCounted (ledger_put Asks (first_in o)) w ps = put-counts w [] sizes_asked (first_in o) (first-counted o w) in
    let them = each-follows w ps cs (ledger_put Asks (first_in o)) middle counted each in
    let all = answer-follows w ps 0 sizes_asked answer middle new refl them.1 answered in
    (all.0 ∙ ap (answered_to w true id_sizes answer) (them.0 ∙ ap (λ (f : Option Following). fold reported_to f cs) put), all.1)

-- where packets come in the order of the acts nothing is followed
none-by : (ledger : Option Account) (w : Widths) → following_by ledger w [] ≡ None → ledger ≡ None
none-by None w none = refl
none-by (Some a) w none = absurd cc

reported-none : (cs : List CompositeMeaning) → fold reported_to None cs ≡ None
reported-none [] = refl
reported-none (c ∷ cs) = reported-none cs

first-none-of : (o : Order) (answer : Answer) (cs : List CompositeMeaning) (w : Widths) → o ≡ One → answered_to w true id_sizes answer (fold reported_to (put_to w id_sizes (begun_in o)) cs) ≡ None
first-none-of o answer cs w one =
    ap (λ (x : Order). answered_to w true id_sizes answer (fold reported_to (put_to w id_sizes (begun_in x)) cs)) one ∙ ap (answered_to w true id_sizes answer) (reported-none cs)

pub first-none : (o : Order) (answer : Answer) (cs : List CompositeMeaning) (ledger : Option Account) → o ≡ One → IsFirstOf o answer cs ledger → ledger ≡ None
first-none o answer cs ledger one is = none-by ledger any_width ((is any_width).0 ∙ first-none-of o answer cs any_width one)

-- ---- by how much counts are lowered

lowered-by : (o : Option Invocation) (c : Command) (cs : List Command) (t n : ℕ) → lowers_by o c t + (all_lower cs t + n) ≡ all_lower (and_command o c cs) t + (released o t + n)
lowered-by None c cs t n = omega arith
lowered-by (Some i) c cs t n = omega arith

pub all-lowered : (w : Widths) (ps : List Asked) (t : ℕ) → all_lowered w ps t ≡ all_lower (commands_in w ps) t + invoked_in w ps t
all-lowered w [] t = refl
all-lowered w (p ∷ ps) t = ap (λ (n : ℕ). lowers_one w p.command t + n) (all-lowered w ps t) ∙ lowered-by (invocation_in w p.command) p.command (commands_in w ps) t (invoked_in w ps t)

-- ---- the same as it is kept

pub put-to-follows : (old new : Option Account) (sizes : Option Widths) (ps qs : List Asked) (p : Asked) → qs ≡ ps ++ p ∷ [] → new ≡ ledger_put (put_of p.command) old → following_of new sizes qs ≡ put_to (widths_by sizes) p.command (following_of old sizes ps)
put-to-follows old new sizes ps qs p pushed noted = (λ j. following_of (noted j) sizes (pushed j)) ∙ put-follows (widths_by sizes) ps p old

pub asked-follows : (old new : Option Account) (sizes : Option Widths) (w : Widths) (ps qs : List Asked) (p : Asked) → sizes ≡ Some w → qs ≡ ps ++ p ∷ [] → new ≡ ledger_put (put_of p.command) old
    → following_of new sizes qs ≡ put_to w p.command (following_of old sizes ps)
asked-follows old new sizes w ps qs p known pushed noted =
    put-to-follows old new sizes ps qs p pushed noted ∙ ap (λ (s : Option Widths). put_to (widths_by s) p.command (following_of old sizes ps)) known

-- IDSizes is put first
pub first-put : (o : Order) (old new : Option Account) (w : Widths) (ps qs : List Asked) (p : Asked) → ps ≡ [] → qs ≡ ps ++ p ∷ [] → IsAtFirst o old w ps → following_by new w qs ≡ put_to w id_sizes (following_by old w ps) → IsAtFirst o new w (p ∷ [])
first-put o old new w ps qs p none pushed first follows =
    let one : qs ≡ p ∷ [] = pushed ∙ ap (λ (xs : List Asked). xs ++ p ∷ []) none in
    let begun : following_by old w [] ≡ begun_in o = subst (IsAtFirst o old w) none first in
    sym (ap (following_by new w) one) ∙ follows ∙ ap (λ (xs : List Asked). put_to w id_sizes (following_by old w xs)) none ∙ ap (put_to w id_sizes) begun

-- ---- the widths of ids become known

alone-place : (ps : List Asked) (place : ℕ) (asked : Asked) → IsSizesAlone ps → slice_get ps place ≡ Some asked → (place ≡ 0) × (ps ≡ asked ∷ []) × (asked.command ≡ id_sizes)
alone-place [] place asked alone h = absurd cc
alone-place (p ∷ []) zero asked alone h = (let same : p ≡ asked = cc in (refl, ap (λ (a : Asked). a ∷ []) same, ap (λ (a : Asked). a.command) (sym same) ∙ alone.1))
alone-place (p ∷ []) (suc place) asked alone h = absurd cc
alone-place (p ∷ q ∷ ps) place asked alone h = absurd alone

-- where no command waits it does not matter how wide ids are
any-widths : (ledger : Option Account) (v w : Widths) → following_by ledger v [] ≡ following_by ledger w []
any-widths None v w = refl
any-widths (Some a) v w = refl

pub sizes-follow : (o : Order) (old new : Option Account) (sizes : Option Widths) (w : Widths) (ps : List Asked) (place : ℕ) (asked : Asked) (answer : Answer) (cs : List CompositeMeaning) → IsSizesAlone ps → slice_get ps place ≡ Some asked
    → IsAtFirst o old (widths_by sizes) ps → IsFirstOf o answer cs new
    → Follows new w (remove ps place) (answered_to (widths_by sizes) (is_next place ps) (command_at place ps) answer (fold reported_to (following_of old sizes ps) cs))
sizes-follow o old new sizes w ps place asked answer cs alone at first is =
    let v = widths_by sizes in
    let here = alone-place ps place asked alone at in
    let left : remove ps place ≡ [] = (λ j. remove (here.1 j) (here.0 j)) in
    let command : command_at place ps ≡ id_sizes = ap command_of at ∙ here.2 in
    let next : is_next place ps ≡ true = ap (λ (n : ℕ). is_next n ps) here.0 in
    let begun : following_of old sizes ps ≡ put_to v id_sizes (begun_in o) = sym (ap (following_by old v) (sym here.1)) ∙ subst (IsAtFirst o old v) here.1 first in
    let all = is v in
    let end : following_by new w [] ≡ answered_to v (is_next place ps) (command_at place ps) answer (fold reported_to (following_of old sizes ps) cs) =
    any-widths new w v ∙ (all.0 ∙ sym (λ j. answered_to v (next j) (command j) answer (fold reported_to (begun j) cs))) in
    subst (λ (qs : List Asked). Follows new w qs (answered_to v (is_next place ps) (command_at place ps) answer (fold reported_to (following_of old sizes ps) cs))) (sym left) (end, (is w).1)

-- ---- the commands that wait, one by one

module _ (pending : List Asked) (i : ℕ) (p : Asked) (at : slice_get pending i ≡ Some p) where
  left : drop i pending ≡ p ∷ drop (i + 1) pending
  left = left_over pending i p at

  pub next_no : (n : ℕ) → is_invocation p.command ≡ false → is_next (suc n) (drop i pending) ≡ false
  next_no n is = ap (is_next (suc n)) left ∙ ap (λ (b : Bool). b && is_next n (drop (i + 1) pending)) is

  pub next_yes : (n : ℕ) → is_invocation p.command ≡ true → is_next n (drop (i + 1) pending) ≡ is_next (suc n) (drop i pending)
  next_yes n is = sym (ap (is_next (suc n)) left ∙ ap (λ (b : Bool). b && is_next n (drop (i + 1) pending)) is)

  pub lowered_more : (w : Widths) (t : ℕ) → all_lowered w (drop i pending) t ≡ lowers_one w p.command t + all_lowered w (drop (i + 1) pending) t
  lowered_more w t = ap (λ (ps : List Asked). all_lowered w ps t) left

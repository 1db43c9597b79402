-- What asking and reading make of all that is kept is what the definitions say.
use Rattle.std.proofs.Common.{◌≡◌, ℕ, ◌+◌, ◌-◌, ◌<◌, ◌≤◌, ◌^◌, Bool, true, false, ◌||◌, List, [], ◌∷◌, ◌++◌, length, Option, Some, None, refl, sym, ap, ◌∙◌, subst, add-zero, if◌then◌else◌, arith}
use Rattle.std.specs.Prelude.{◌==◌, nat_le, nat_lt, is_some, unwrap_or}
use Rattle.std.proofs.lemmas.Bool.Decides.{nat_tests}
use Rattle.jdwp_action.specs.Actions.{Command, action_of}
use Rattle.jdwp_event.specs.Told.{composite_thread}
use Rattle.jdwp_apart.specs.Messages as messages
use Rattle.jdwp_apart.specs.Messages.{Composite, Reply, counted, gives, is_own, releases, shows, stops, takes}
use Rattle.jdwp_apart.specs.Watch as definition
use Rattle.jdwp_apart.specs.Watch.{Watch, asks, later, start, lived_after, lived_at, reads_composite, reads_reply, rest, surely_gives, surely_stops, invokes, returns_from}
use Rattle.jdwp_watch.specs.declared.bound.Bound.{Bound}
use Rattle.jdwp_watch.specs.declared.invocation.Invocation.{Invocation}
use Rattle.jdwp_watch.specs.declared.invocation.Invocation.TheVariants.{ByThread, ByAll}
use Rattle.jdwp_watch.specs.declared.standing.Knows.{Knows}
use Rattle.jdwp_watch.specs.declared.standing.Standing.{Standing}
use Rattle.jdwp_watch.specs.declared.standing.Telling.{Telling}
use Rattle.jdwp_watch.specs.declared.standing.Change.{Change}
use Rattle.jdwp_watch.specs.declared.standing.Change.TheVariants.{Keep, Replied, Reported, Invoked, Returned}
use Rattle.jdwp_watch.specs.declared.told.Told.{Told}
use Rattle.jdwp_watch.specs.Standings.{bound_of, changed, counted_at, first_standing, is_raised, is_stopped, knows_of, lowered, named_by, raised, raised_after, recounted, replied, reported}
use Rattle.jdwp_watch.specs.Tables.{Table, at, change_for, is_of}
use Rattle.jdwp_watch.specs.Tellings.{nothing, stops_in, told_in}
use Rattle.jdwp_watch.specs.Watching.{IsKept, Watching, invocation_of, nobody, others_by, others_of, resumed_by, watch_of}
use Rattle.jdwp_watch.proofs.Exact.{after-exact, lowered-exact, more-exact, named-exact, raised-exact, recounted-exact, shown-exact, surely}
use Rattle.jdwp_watch.proofs.Tells.{AreTold, found-thread, stops-told, telling_at, tells}

-- ---- views that say the same

pub same_watch : (v w : Watch) → v.one_by_one ≡ w.one_by_one → v.answered ≡ w.answered → v.pending ≡ w.pending → ((t : ℕ) → v.invoked t ≡ w.invoked t) → v.past ≡ w.past → ((t : ℕ) → v.told t ≡ w.told t)
    → ((t : ℕ) → v.recounted t ≡ w.recounted t) → ((t : ℕ) → v.knows t ≡ w.knows t) → v ≡ w
same_watch v w a b c d e f g h = λ i. record {
  one_by_one = a i;
  answered = b i;
  pending = c i;
  invoked = λ t. d t i;
  past = e i;
  told = λ t. f t i;
  recounted = λ t. g t i;
  knows = λ t. h t i;
}

-- ---- replies

none-less : (n : ℕ) → nat_lt n 0 ≡ false
none-less n = grind (arith, nat_tests)

-- of what nothing is told stays as it is
pub kept-replied : (ticket : ℕ) (s : Standing) → s ≡ replied ticket nothing s
kept-replied ticket s =
    let new : Bound = record { value = 0; base = ticket } in
    ap (λ (b : Bound). let r : Standing = record { told = s.told; recounted = b; knows = s.knows; invoked = s.invoked } in r) (sym (ap (λ (w : Bool). if w then new else s.recounted) (none-less s.recounted.value)))

pub replied-for : (is : Bool) (ticket : ℕ) (own : Telling) (others : Option Telling) (s : Standing)
    → changed (if is then Replied ticket own else others_of ticket others) s ≡ replied ticket (if is then own else unwrap_or others nothing) s
replied-for true ticket own others s = refl
replied-for false ticket own None s = kept-replied ticket s
replied-for false ticket own (Some d) s = refl

-- by what the reply surely raises
given : (r : Reply) (t ticket : ℕ) (k : definition.Knows) (d : Telling) → AreTold (action_of r.command) r.answer t d → surely (d.shows || lived_at k ticket) d.raises ≡ surely_gives k ticket r t
given r t ticket k d h =
    ap (λ (b : Bool). if b || lived_at k ticket then messages.one_if d.raises else 0) (sym h.shows) ∙ ap (λ (n : ℕ). if shows r t || lived_at k ticket then n else 0) (sym h.gives)

replied-bound : (r : Reply) (t ticket : ℕ) (k : Knows) (d : Telling) (b : Bound) → AreTold (action_of r.command) r.answer t d → b.value < 2 ^ 64 - 1
    → bound_of (lowered ticket d.lowers (raised (is_raised ticket d k) b)) ≡ definition.answered_to ticket (surely_gives (knows_of k) ticket r t) r t (bound_of b)
replied-bound r t ticket k d b h lt =
    lowered-exact ticket d.lowers (raised (is_raised ticket d k) b)
    ∙ (ap (definition.lowered ticket (messages.one_if d.lowers)) (raised-exact d.raises (d.shows || lived_at (knows_of k) ticket) b lt)
    ∙ (ap (λ (n : ℕ). definition.lowered ticket n (record { value = b.value + surely (d.shows || lived_at (knows_of k) ticket) d.raises; base = b.base })) (sym h.takes)
    ∙ ap (λ (n : ℕ). definition.lowered ticket (takes r t) (record { value = b.value + n; base = b.base })) (given r t ticket (knows_of k) d h)))

replied-recounted : (r : Reply) (t ticket : ℕ) (k : Knows) (d : Telling) (b : Bound) → AreTold (action_of r.command) r.answer t d → b.value < 2 ^ 64 - 1
    → bound_of (recounted ticket d.count (lowered ticket d.lowers (raised (is_raised ticket d k) b))) ≡ definition.recount ticket (counted r t) (definition.answered_to ticket (surely_gives (knows_of k) ticket r t) r t (bound_of b))
replied-recounted r t ticket k d b h lt =
    recounted-exact ticket d.count (lowered ticket d.lowers (raised (is_raised ticket d k) b))
    ∙ (ap (definition.recount ticket d.count) (replied-bound r t ticket k d b h lt) ∙ ap (λ (n : ℕ). definition.recount ticket n (definition.answered_to ticket (surely_gives (knows_of k) ticket r t) r t (bound_of b))) (sym h.counted))

replied-knows : (r : Reply) (t ticket : ℕ) (k : Knows) (d : Telling) → AreTold (action_of r.command) r.answer t d
    → knows_of (if d.shows then counted_at ticket k else k) ≡ (if shows r t then definition.counted_at ticket (knows_of k) else knows_of k)
replied-knows r t ticket k d h = shown-exact d.shows ticket k ∙ ap (λ (b : Bool). if b then definition.counted_at ticket (knows_of k) else knows_of k) (sym h.shows)

pub answered-watch : (packets most : ℕ) (v w : Watching) (r : Reply) (d : Told) → IsKept packets most v.table → packets ≤ 2 ^ 62 → d ≡ told_in (action_of r.command) r.answer
    → w.one_by_one ≡ v.one_by_one → w.answered ≡ v.answered + 1 → w.pending ≡ rest v.pending → w.past ≡ v.past
    → ((t : ℕ) → at w.table t ≡ changed (change_for d.thread (Replied (v.answered + 1) d.own) (others_of (v.answered + 1) d.others) t) (at v.table t))
    → watch_of w ≡ reads_reply (watch_of v) r
answered-watch packets most v w r d kept few is one answered pending past table =
    let ticket = v.answered + 1 in
    let now = λ (t : ℕ). table t ∙ replied-for (is_of d.thread t) ticket d.own d.others (at v.table t) in
    let told = λ (t : ℕ). subst (λ (x : Told). AreTold (action_of r.command) r.answer t (telling_at x t)) (sym is) (tells (action_of r.command) r.answer t) in
    same_watch (watch_of w) (reads_reply (watch_of v) r) one answered pending
    (λ t. ap (λ (s : Standing). s.invoked) (now t))
    past
    (λ t. ap (λ (s : Standing). bound_of s.told) (now t) ∙ (let within = kept.within t in replied-bound r t ticket (at v.table t).knows (telling_at d t) (at v.table t).told (told t) (omega (arith, within.told))))
    (λ t. ap (λ (s : Standing). bound_of s.recounted) (now t) ∙ (let within = kept.within t in replied-recounted r t ticket (at v.table t).knows (telling_at d t) (at v.table t).recounted (told t) (omega (arith, within.recounted))))
    (λ t. ap (λ (s : Standing). knows_of s.knows) (now t) ∙ replied-knows r t ticket (at v.table t).knows (telling_at d t) (told t))

-- ---- composites

kept-after : (after : ℕ) (b : Bound) → b ≡ raised_after after false b
kept-after after b = elim (nat_le b.base after) as (λ (w : Bool). b ≡ (if w then b else b)) [ true ↦ refl | false ↦ refl ]

kept-reported : (after : ℕ) (s : Standing) → s ≡ reported after false None s
kept-reported after s =
    ap (λ (b : Bound). let x : Standing = record { told = b; recounted = s.recounted; knows = s.knows; invoked = s.invoked } in x) (kept-after after s.told)
    ∙ ap (λ (b : Bound). let x : Standing = record { told = raised_after after false s.told; recounted = b; knows = s.knows; invoked = s.invoked } in x) (kept-after after s.recounted)

-- a thread of the composite's own is named
abbrev named_if : Bool → ℕ → Option ℕ
named_if is asked = if is then Some asked else None

reported-for : (is : Bool) (after asked : ℕ) (own others : Bool) (s : Standing)
    → changed (if is then Reported after own (Some asked) else others_by after others) s ≡ reported after (if is then own else others) (named_if is asked) s
reported-for true after asked own others s = refl
reported-for false after asked own true s = refl
reported-for false after asked own false s = kept-reported after s

named-some : (is : Bool) (asked : ℕ) → is_some (named_if is asked) ≡ is
named-some true asked = refl
named-some false asked = refl

reported-knows : (is : Bool) (asked : ℕ) (k : Knows) → knows_of (named_by (named_if is asked) k) ≡ (if is then definition.named_at asked (knows_of k) else knows_of k)
reported-knows true asked k = named-exact asked k
reported-knows false asked k = refl

reported-bound : (s : Composite) (t after asked : ℕ) (stop : Bool) (k : Knows) (b : Bound) → stops s t ≡ messages.one_if stop → b.value < 2 ^ 64 - 1
    → bound_of (raised_after after (is_stopped after stop (named_if (is_own s t) asked) k) b) ≡ definition.raised_after after (surely_stops (knows_of k) after s t) (bound_of b)
reported-bound s t after asked stop k b h lt =
    after-exact after stop (is_some (named_if (is_own s t) asked) || lived_after (knows_of k) after) b lt
    ∙ (ap (λ (x : Bool). definition.raised_after after (surely (x || lived_after (knows_of k) after) stop) (bound_of b)) (named-some (is_own s t) asked)
    ∙ ap (λ (n : ℕ). definition.raised_after after (if is_own s t || lived_after (knows_of k) after then n else 0) (bound_of b)) (sym h))

pub composite-watch : (packets most : ℕ) (v w : Watching) (s : Composite) → IsKept packets most v.table → packets ≤ 2 ^ 62
    → w.one_by_one ≡ v.one_by_one → w.answered ≡ v.answered → w.pending ≡ v.pending → w.past ≡ later (later v.past s.since) (if v.one_by_one then v.answered else 0)
    → ((t : ℕ) → at w.table t ≡ changed (change_for (stops_in s.meaning).thread (Reported (later v.past s.since) (stops_in s.meaning).own (Some (v.answered + length v.pending))) (others_by (later v.past s.since) (stops_in s.meaning).others) t) (at v.table t))
    → watch_of w ≡ reads_composite (watch_of v) s
composite-watch packets most v w s kept few one answered pending past table =
    let after = later v.past s.since in
    let asked = v.answered + length v.pending in
    let own = (stops_in s.meaning).own in
    let others = (stops_in s.meaning).others in
    let change = λ (t : ℕ). λ (is : Bool). changed (if is then Reported after own (Some asked) else others_by after others) (at v.table t) in
    let now = λ (t : ℕ). table t ∙ (ap (change t) (found-thread (composite_thread s.meaning) t) ∙ reported-for (is_own s t) after asked own others (at v.table t)) in
    same_watch (watch_of w) (reads_composite (watch_of v) s) one answered pending
    (λ t. ap (λ (x : Standing). x.invoked) (now t))
    past
    (λ t. ap (λ (x : Standing). bound_of x.told) (now t) ∙ (let within = kept.within t in reported-bound s t after asked (if is_own s t then own else others) (at v.table t).knows (at v.table t).told (stops-told s t) (omega (arith, within.told))))
    (λ t. ap (λ (x : Standing). bound_of x.recounted) (now t) ∙ (let within = kept.within t in reported-bound s t after asked (if is_own s t then own else others) (at v.table t).knows (at v.table t).recounted (stops-told s t) (omega (arith, within.recounted))))
    (λ t. ap (λ (x : Standing). knows_of x.knows) (now t) ∙ reported-knows (is_own s t) asked (at v.table t).knows)

-- ---- invocations

invoked-by : (is : Bool) (s : Standing) → s.invoked < 2 ^ 64 - 1 → (changed (if is then Invoked else Keep) s).invoked ≡ s.invoked + messages.one_if is
invoked-by true s lt = more-exact s.invoked lt
invoked-by false s lt = sym (add-zero s.invoked)

returned-by : (is : Bool) (s : Standing) → (changed (if is then Returned else Keep) s).invoked ≡ s.invoked - messages.one_if is
returned-by true s = refl
returned-by false s = omega arith

-- what becomes of a thread
abbrev pub change_by : Invocation → Change → ℕ → Change
change_by i change t = let both = resumed_by i change in change_for both.0 change both.1 t

-- bounds and what is known to live stay
pub record Stays (s u : Standing) : Type 0 where
  pub told : u.told ≡ s.told
  pub recounted : u.recounted ≡ s.recounted
  pub knows : u.knows ≡ s.knows

stays-invoked : (is : Bool) (s : Standing) → Stays s (changed (if is then Invoked else Keep) s)
stays-invoked true s = record { told = refl; recounted = refl; knows = refl }
stays-invoked false s = record { told = refl; recounted = refl; knows = refl }

stays-returned : (is : Bool) (s : Standing) → Stays s (changed (if is then Returned else Keep) s)
stays-returned true s = record { told = refl; recounted = refl; knows = refl }
stays-returned false s = record { told = refl; recounted = refl; knows = refl }

invokes-one : (i : Invocation) (t : ℕ) (s : Standing) → s.invoked < 2 ^ 64 - 1 → (changed (change_by i Invoked t) s).invoked ≡ s.invoked + releases (invocation_of i) t
invokes-one (ByThread u) t s lt = invoked-by (u.0 == t) s lt
invokes-one ByAll t s lt = more-exact s.invoked lt

returns-one : (i : Invocation) (t : ℕ) (s : Standing) → (changed (change_by i Returned t) s).invoked ≡ s.invoked - releases (invocation_of i) t
returns-one (ByThread u) t s = returned-by (u.0 == t) s
returns-one ByAll t s = refl

invokes-stays : (i : Invocation) (t : ℕ) (s : Standing) → Stays s (changed (change_by i Invoked t) s)
invokes-stays (ByThread u) t s = stays-invoked (u.0 == t) s
invokes-stays ByAll t s = record { told = refl; recounted = refl; knows = refl }

returns-stays : (i : Invocation) (t : ℕ) (s : Standing) → Stays s (changed (change_by i Returned t) s)
returns-stays (ByThread u) t s = stays-returned (u.0 == t) s
returns-stays ByAll t s = record { told = refl; recounted = refl; knows = refl }

-- nothing but the table changed
pub record OnlyTable (v w : Watching) : Type 0 where
  pub one_by_one : w.one_by_one ≡ v.one_by_one
  pub answered : w.answered ≡ v.answered
  pub pending : w.pending ≡ v.pending
  pub past : w.past ≡ v.past

stays-watch : (v w : Watching) (new : Watch) → OnlyTable v w → new.one_by_one ≡ v.one_by_one → new.answered ≡ v.answered → new.pending ≡ v.pending → new.past ≡ v.past
    → ((t : ℕ) → (at w.table t).invoked ≡ new.invoked t) → ((t : ℕ) → Stays (at v.table t) (at w.table t))
    → ((t : ℕ) → new.told t ≡ bound_of (at v.table t).told) → ((t : ℕ) → new.recounted t ≡ bound_of (at v.table t).recounted) → ((t : ℕ) → new.knows t ≡ knows_of (at v.table t).knows)
    → watch_of w ≡ new
stays-watch v w new only a b c d invoked stays told recounted knows =
    same_watch (watch_of w) new (only.one_by_one ∙ sym a) (only.answered ∙ sym b) (only.pending ∙ sym c) invoked (only.past ∙ sym d)
    (λ t. let s = stays t in ap bound_of s.told ∙ sym (told t))
    (λ t. let s = stays t in ap bound_of s.recounted ∙ sym (recounted t))
    (λ t. let s = stays t in ap knows_of s.knows ∙ sym (knows t))

pub invoked-watch : (packets : ℕ) (v w : Watching) (i : Invocation) → IsKept packets v.answered v.table → packets < 2 ^ 62 → OnlyTable v w
    → ((t : ℕ) → at w.table t ≡ changed (change_by i Invoked t) (at v.table t)) → watch_of w ≡ invokes (watch_of v) (invocation_of i)
invoked-watch packets v w i kept few only table =
    stays-watch v w (invokes (watch_of v) (invocation_of i)) only refl refl refl refl
    (λ t. ap (λ (s : Standing). s.invoked) (table t) ∙ (let within = kept.within t in invokes-one i t (at v.table t) (omega (arith, within.invoked))))
    (λ t. subst (Stays (at v.table t)) (sym (table t)) (invokes-stays i t (at v.table t)))
    (λ t. refl) (λ t. refl) (λ t. refl)

pub returned-watch : (v w : Watching) (i : Invocation) → OnlyTable v w
    → ((t : ℕ) → at w.table t ≡ changed (change_by i Returned t) (at v.table t)) → watch_of w ≡ returns_from (watch_of v) (invocation_of i)
returned-watch v w i only table =
    stays-watch v w (returns_from (watch_of v) (invocation_of i)) only refl refl refl refl
    (λ t. ap (λ (s : Standing). s.invoked) (table t) ∙ returns-one i t (at v.table t))
    (λ t. subst (Stays (at v.table t)) (sym (table t)) (returns-stays i t (at v.table t)))
    (λ t. refl) (λ t. refl) (λ t. refl)

-- ---- at the beginning

abbrev pub no_table : Table
no_table = record { threads = []; others = first_standing }

pub first-watch : (one_by_one : Bool) (table : Table) (pending : List Command) → table ≡ no_table → pending ≡ [] → watch_of (record { one_by_one = one_by_one; answered = 0; pending = pending; past = 0; table = table }) ≡ start one_by_one nobody
first-watch one_by_one table pending e p =
    ap (λ (x : Table). watch_of (record { one_by_one = one_by_one; answered = 0; pending = pending; past = 0; table = x })) e
    ∙ ap (λ (cs : List Command). watch_of (record { one_by_one = one_by_one; answered = 0; pending = cs; past = 0; table = no_table })) p

pub first-kept : (table : Table) → table ≡ no_table → IsKept 0 0 table
first-kept table e =
    let small : 0 ≤ 0 + 2 ^ 32 = omega arith in
    let few : 0 ≤ 2 ^ 62 = omega arith in
    let none : 0 ≤ 0 = omega arith in
    subst (IsKept 0 0) (sym e) (record { few = few; answers = none; within = λ t. record { told = small; recounted = small; invoked = small }; others = record { told = refl; recounted = refl; knows = refl } })

pub asked-watch : (v w : Watching) (c : Command) → w ≡ record v { pending = v.pending ++ c ∷ [] } → watch_of w ≡ asks (watch_of v) c
asked-watch v w c e = ap watch_of e

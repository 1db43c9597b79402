-- what the follower of a link's debugger does at events of the link
use Rattle.std.proofs.Common.{◌≡◌, inl, inr, ℕ, Bool, true, false, List, [], ◌∷◌, length, min, take, Option, Some, None, IsTrue, ◌↔◌, refl, sym, ◌∙◌, ap, subst, arith}
use Rattle.std.proofs.lemmas.List.{take_all, take_min}
use Rattle.std.specs.Option.{option_map}
use Rattle.jdwp_wire.specs.Streams as streams
use Rattle.jdwp_end.specs.Ends.{is_open, room_of}
use Rattle.jdwp_machine.specs.Meanings.{Meaning}
use Rattle.jdwp_debuggee.specs.Settings.{Settings}
use Rattle.jdwp_debuggee.specs.State.{Moment}
use Rattle.jdwp_action.specs.Actions.{Command}
use Rattle.jdwp_attach.specs.OwnCounts.{suspend_count}
use Rattle.jdwp_debugger.specs.declared.asking.Refused.{Refused}
use Rattle.jdwp_debugger.specs.declared.order.Order.{Order}
use Rattle.jdwp_debugger.specs.declared.order.Order.TheVariants.{One, Apart}
use Rattle.jdwp_debugger.specs.Debuggers.{Debugger, attached, has_tickets, lost_debugger, new_debugger_in, with_fed, with_taken}
use Rattle.jdwp_model.specs.Events as events
use Rattle.jdwp_model.specs.Events.{LinkEvent}
use Rattle.jdwp_link.specs.declared.events.Outcome.{Outcome}
use Rattle.jdwp_link.specs.Clauses.{Ran}
use Rattle.jdwp_link.specs.Links.{Link, come_to_debugger, new_link}
use Rattle.jdwp_end.specs.Story.{Story}
use Rattle.jdwp_attach.specs.Telling.{TellsKnown, TellsMirror}
use Rattle.jdwp_pair.specs.declared.ended.PairEnded.{PairEnded}
use Rattle.jdwp_pair.specs.declared.ended.PairEnded.TheVariants as ended
use Rattle.jdwp_pair.specs.Events.{Happens, Leads, AskedCount, MayCount, Standing, piece, refusal_in}
use Rattle.jdwp_pair.specs.Followers.{AsksBoth, AsksBothWhere, AsksToo, AttachesWhere, Followed, Follows, Begins, Rests, Feeds, Turns, Asks, Loses, Attaches, IsNewIn, IsOfTarget, KeepsUp, MayAsk, MayAskAlone, MayAskAloneWhere, MayAskWhere, TurnsToo, TurnsWhere, begun_anew, begun_too, fed_too, fed_where, lost_where, silent}
use Rattle.jdwp_pair.specs.Lines.{FailsToTellKnown, TellsBy}
use Rattle.jdwp_pair.specs.Telling.{FailsToTell}
use Rattle.jdwp_pair.proofs.Leading.{ran-none}
use Rattle.jdwp_pair.specs.Rounds.{ComesToTarget, EndsMoving, MovesOn, PieceToTarget, ReleasesOrSteps, Repeats, NotYet, OneMore, RunsMachine, StepsEach, Over, Steps, StopsCounting, TurnsTarget, Until}

-- ---- at an event

fed-on : {S : Type 0} (m : Meaning S) (n : ℕ) (old new : Link S) (told : List Outcome) (order : Order) (f : Option Debugger) → Ran m (events.ToDebugger n ∷ []) old new told → Followed m order old f → Followed m order new (fed_where n old f)
fed-on m n old new told One None r k = tt
fed-on m n old new told One (Some f) r k = absurd k
fed-on m n old new told Apart None r k = absurd k
fed-on m n old new told Apart (Some f) r k = Feeds n old new told f k r

pub keeps-fed : {S : Type 0} (m : Meaning S) (n : ℕ) (old new : Link S) (told : List Outcome) (f g : Option Debugger) → Ran m (events.ToDebugger n ∷ []) old new told → g ≡ fed_where n old f → KeepsUp m old f new g
keeps-fed m n old new told f g r e = λ order k. subst (λ (o : Option Debugger). Followed m order new o) (sym e) (fed-on m n old new told order f r k)

lost-on : {S : Type 0} (m : Meaning S) (old new : Link S) (told : List Outcome) (order : Order) (f : Option Debugger) → Ran m (events.DebuggerLoses ∷ []) old new told → Followed m order old f → Followed m order new (lost_where f)
lost-on m old new told One None r k = tt
lost-on m old new told One (Some f) r k = absurd k
lost-on m old new told Apart None r k = absurd k
lost-on m old new told Apart (Some f) r k = Loses old new told f k r

pub keeps-lost : {S : Type 0} (m : Meaning S) (old new : Link S) (told : List Outcome) (f g : Option Debugger) → Ran m (events.DebuggerLoses ∷ []) old new told → g ≡ lost_where f → KeepsUp m old f new g
keeps-lost m old new told f g r e = λ order k. subst (λ (o : Option Debugger). Followed m order new o) (sym e) (lost-on m old new told order f r k)

begun-on : {S : Type 0} (m : Meaning S) (old new : Link S) (told : List Outcome) (order : Order) (f : Option Debugger) → Ran m (events.Attach ∷ []) old new told → Followed m order old f
    → Followed m order new (option_map (begun_too (is_open old.debugger.end) (is_open new.debugger.end)) f)
begun-on m old new told One None r k = tt
begun-on m old new told One (Some f) r k = absurd k
begun-on m old new told Apart None r k = absurd k
begun-on m old new told Apart (Some f) r k = Attaches old new told f k r

pub keeps-begun : {S : Type 0} (m : Meaning S) (old new : Link S) (f g : Option Debugger) → Happens m events.Attach old new → AttachesWhere (is_open old.debugger.end) (is_open new.debugger.end) f g → KeepsUp m old f new g
keeps-begun m old new f g (told, r) e = λ order k. subst (λ (o : Option Debugger). Followed m order new o) (sym e) (begun-on m old new told order f r k)

pub keeps-begun-so : {S : Type 0} (m : Meaning S) (old new : Link S) (before behind : Bool) (f g : Option Debugger) → before ≡ is_open old.debugger.end → behind ≡ is_open new.debugger.end
    → Happens m events.Attach old new → AttachesWhere before behind f g → KeepsUp m old f new g
keeps-begun-so m old new before behind f g was is h a =
    keeps-begun m old new f g h
    (subst (λ (b : Bool). AttachesWhere b (is_open new.debugger.end) f g) was
    (subst (λ (b : Bool). AttachesWhere before b f g) is a))

-- it turned as the link's debugger did, or that had nothing to handle
turned-on : {S : Type 0} (m : Meaning S) (old new : Link S) (told : List Outcome) (order : Order) (f g : Option Debugger) → Ran m (events.DebuggerTurn ∷ []) old new told → new.did ≡ true → TurnsWhere f g → Followed m order old f → Followed m order new g
turned-on m old new told One None g r did t k = subst (λ (o : Option Debugger). Followed m One new o) (sym t) tt
turned-on m old new told One (Some f) g r did t k = absurd k
turned-on m old new told Apart None g r did t k = absurd k
turned-on m old new told Apart (Some f) g r did (h, is, t) k =
    subst (λ (o : Option Debugger). Followed m Apart new o) (sym is) (Turns old new told f h k r (subst (λ (b : Bool). TurnsToo b f h) (sym did) t))

pub keeps-turned : {S : Type 0} (m : Meaning S) (old new : Link S) (told : List Outcome) (f g : Option Debugger) → Ran m (events.DebuggerTurn ∷ []) old new told → new.did ≡ true → TurnsWhere f g → KeepsUp m old f new g
keeps-turned m old new told f g r did t = λ order k. turned-on m old new told order f g r did t k

idle-on : {S : Type 0} (m : Meaning S) (old new : Link S) (told : List Outcome) (order : Order) (f : Option Debugger) → Ran m (events.DebuggerTurn ∷ []) old new told → new.did ≡ false → Followed m order old f → Followed m order new f
idle-on m old new told One None r did k = tt
idle-on m old new told One (Some f) r did k = absurd k
idle-on m old new told Apart None r did k = absurd k
idle-on m old new told Apart (Some f) r did k = Turns old new told f f k r (subst (λ (b : Bool). TurnsToo b f f) (sym did) refl)

pub keeps-idle : {S : Type 0} (m : Meaning S) (old new : Link S) (told : List Outcome) (f : Option Debugger) → Ran m (events.DebuggerTurn ∷ []) old new told → new.did ≡ false → KeepsUp m old f new f
keeps-idle m old new told f r did = λ order k. idle-on m old new told order f r did k

-- a command that the link's debugger took
asked-on : {S : Type 0} (m : Meaning S) (c : Command) (old new : Link S) (told : List Outcome) (order : Order) (f g : Option Debugger) → Ran m (events.Ask c ∷ []) old new told → refusal_in told ≡ None → MayAskWhere c f g → Followed m order old f → Followed m order new g
asked-on m c old new told One None g r none a k = subst (λ (o : Option Debugger). Followed m One new o) (sym a) tt
asked-on m c old new told One (Some f) g r none a k = absurd k
asked-on m c old new told Apart None g r none a k = absurd k
asked-on m c old new told Apart (Some f) g r none (h, is, a) k =
    subst (λ (o : Option Debugger). Followed m Apart new o) (sym is) (Asks c old new told f h k r (subst (λ (o : Option Refused). AsksToo o c f h) (sym none) a))

pub keeps-asked : {S : Type 0} (m : Meaning S) (c : Command) (old new : Link S) (told : List Outcome) (f g : Option Debugger) → Ran m (events.Ask c ∷ []) old new told → refusal_in told ≡ None → MayAskWhere c f g → KeepsUp m old f new g
keeps-asked m c old new told f g r none a = λ order k. asked-on m c old new told order f g r none a k

-- one that it refused
refused-on : {S : Type 0} (m : Meaning S) (c : Command) (old new : Link S) (told : List Outcome) (refused : Refused) (order : Order) (f : Option Debugger) → Ran m (events.Ask c ∷ []) old new told → refusal_in told ≡ Some refused → Followed m order old f → Followed m order new f
refused-on m c old new told refused One None r some k = tt
refused-on m c old new told refused One (Some f) r some k = absurd k
refused-on m c old new told refused Apart None r some k = absurd k
refused-on m c old new told refused Apart (Some f) r some k = Asks c old new told f f k r (subst (λ (o : Option Refused). AsksToo o c f f) (sym some) refl)

pub keeps-refused : {S : Type 0} (m : Meaning S) (c : Command) (old new : Link S) (told : List Outcome) (refused : Refused) (f : Option Debugger) → Ran m (events.Ask c ∷ []) old new told → refusal_in told ≡ Some refused → KeepsUp m old f new f
keeps-refused m c old new told refused f r some = λ order k. refused-on m c old new told refused order f r some k

-- ---- at events in which the link's debugger has no part

-- whatever followed it before does
abbrev pub Aside : {S : Type 0} → Meaning S → Link S → Link S → Type 0
Aside m old new = (order : Order) (f : Option Debugger) → Followed m order old f → Followed m order new f

rests-on : {S : Type 0} (m : Meaning S) (e : LinkEvent) (old new : Link S) (told : List Outcome) (order : Order) (f : Option Debugger) → IsOfTarget e → Ran m (e ∷ []) old new told → Followed m order old f → Followed m order new f
rests-on m e old new told One None t r k = tt
rests-on m e old new told One (Some f) t r k = absurd k
rests-on m e old new told Apart None t r k = absurd k
rests-on m e old new told Apart (Some f) t r k = Rests e old new told f k t r

pub aside-one : {S : Type 0} (m : Meaning S) (e : LinkEvent) (old new : Link S) (told : List Outcome) → IsOfTarget e → Ran m (e ∷ []) old new told → Aside m old new
aside-one m e old new told t r = λ order f k. rests-on m e old new told order f t r k

aside-none : {S : Type 0} (m : Meaning S) (l : Link S) → Aside m l l
aside-none m l = λ order f k. k

aside-same : {S : Type 0} (m : Meaning S) (old new : Link S) → new ≡ old → Aside m old new
aside-same m old new e = subst (λ l. Aside m old l) (sym e) (aside-none m old)

aside-both : {S : Type 0} (m : Meaning S) (old mid new : Link S) → Aside m old mid → Aside m mid new → Aside m old new
aside-both m old mid new a b = λ order f k. b order f (a order f k)

repeats-aside : {S : Type 0} (m : Meaning S) (Does : Link S → Bool → Link S → Type 0) (each : (a b : Link S) (did : Bool) → Does a did b → Aside m a b) (old : Link S) (n : ℕ) (new : Link S) → Repeats Does old n new → Aside m old new
repeats-aside m Does each old _ _ NotYet = aside-none m old
repeats-aside m Does each old _ _ (OneMore n mid new r d) = aside-both m old mid new (repeats-aside m Does each old n mid r) (each mid new true d)

until-aside : {S : Type 0} (m : Meaning S) (Does : Link S → Bool → Link S → Type 0) (each : (a b : Link S) (did : Bool) → Does a did b → Aside m a b) (old new : Link S) (did : Bool) → Until Does old did new → Aside m old new
until-aside m Does each old new did u =
    let before = repeats-aside m Does each old u.times u.last u.repeats in
    elim u.ends [
      | inl d ↦ aside-both m old u.last new before (each u.last new false d)
      | inr e ↦ subst (λ l. Aside m old l) (sym e.1) before
    ]

piece-to-target-aside : {S : Type 0} (m : Meaning S) (old new : Link S) (whole : Bool) → PieceToTarget m old whole new → Aside m old new
piece-to-target-aside m old new whole (r, e) = aside-one m (events.ToTarget piece) old new [] tt r

come-to-target-aside : {S : Type 0} (m : Meaning S) (old new : Link S) → ComesToTarget m old new → Aside m old new
come-to-target-aside m old new (some, u) = until-aside m (PieceToTarget m) (λ a b did d. piece-to-target-aside m a b did d) old new some u

turns-target-aside : {S : Type 0} (m : Meaning S) (old new : Link S) (handled : Bool) → TurnsTarget m old handled new → Aside m old new
turns-target-aside m old new handled (fed, comes, r, e) = aside-both m old fed new (come-to-target-aside m old fed comes) (aside-one m events.TargetTurn fed new [] tt r)

target-aside : {S : Type 0} (m : Meaning S) (old new : Link S) (handled : Bool) → Until (TurnsTarget m) old handled new → Aside m old new
target-aside m old new handled u = until-aside m (TurnsTarget m) (λ a b did d. turns-target-aside m a b did d) old new handled u

steps-aside : {S : Type 0} (m : Meaning S) (last : Option ℕ) (old : Link S) (did : Bool) (new : Link S) → StepsEach m last old did new → Aside m old new
steps-aside m _ _ _ _ (Over last l over) = aside-none m l
steps-aside m _ _ _ _ (Steps last old mid new t more next r rest) = aside-both m old mid new (aside-one m (events.Step t) old mid [] tt r) (steps-aside m (Some t) mid more new rest)

releases-or-steps-aside : {S : Type 0} (m : Meaning S) (deferred : List streams.Message) (old new : Link S) (did : Bool) → ReleasesOrSteps m deferred old did new → Aside m old new
releases-or-steps-aside m [] old new did s = steps-aside m None old did new s
releases-or-steps-aside m (oldest ∷ later) old new did (r, e) = aside-one m (events.Release (length later)) old new [] tt r

moves-on-aside : {S : Type 0} (m : Meaning S) (handled : Bool) (old new : Link S) (did : Bool) → MovesOn m handled old did new → Aside m old new
moves-on-aside m true old new did (e, same) = aside-same m old new same
moves-on-aside m false old new did r = releases-or-steps-aside m old.target.deferred old new did r

pub machine-aside : {S : Type 0} (m : Meaning S) (old new : Link S) (did : Bool) → RunsMachine m old did new → Aside m old new
machine-aside m old new did (handled, mid, u, r) = aside-both m old mid new (target-aside m old mid handled u) (moves-on-aside m handled mid new did r)

-- ---- what is told of what is known

pub tells-one : {S : Type 0} (m : Meaning S) (order : Order) (l : Link S) (text : List ℕ) → Followed m order l None → TellsMirror l.debugger.mirror text → TellsBy m order l text
tells-one m One l text k t = t
tells-one m Apart l text k t = absurd k

pub tells-apart : {S : Type 0} (m : Meaning S) (order : Order) (l : Link S) (f : Debugger) (text : List ℕ) → Followed m order l (Some f) → TellsKnown f text → TellsBy m order l text
tells-apart m One l f text k t = absurd k
tells-apart m Apart l f text k t = (f, k, t)

pub known-fails : {S : Type 0} (m : Meaning S) (order : Order) (l : Link S) (how : PairEnded) (text : List ℕ) (before after : Story) → TellsBy m order l text → FailsToTell text how before after → FailsToTellKnown m order l how before after
known-fails m order l ended.NoMemory text before after t e = e
known-fails m order l ended.LostByWrite text before after t e = (text, t, e)
known-fails m order l ended.LostConnection text before after t e = absurd e
known-fails m order l ended.Done text before after t e = absurd e
known-fails m order l (ended.RefusedLine place number) text before after t e = absurd e
known-fails m order l ended.TurnLimit text before after t e = absurd e
known-fails m order l (ended.Standstill waits) text before after t e = absurd e

-- ---- one call after the other

pub keeps-none : {S : Type 0} (m : Meaning S) (l : Link S) (f : Option Debugger) → KeepsUp m l f l f
keeps-none m l f = λ order k. k

pub keeps-both : {S : Type 0} (m : Meaning S) (old mid new : Link S) (f g h : Option Debugger) → KeepsUp m old f mid g → KeepsUp m mid g new h → KeepsUp m old f new h
keeps-both m old mid new f g h a b = λ order k. b order (a order k)

-- a new one, beside a new link whose target defers or not from then on
pub followed-new : {S : Type 0} (m : Meaning S) (order : Order) (settings : Settings) (moment : Moment S) (defer : Bool) (l : Link S) (f : Option Debugger) → IsNewIn order settings.limits f
    → Happens m (events.Defer defer) (new_link settings moment) l → Followed m order l f
followed-new m One settings moment defer l None k h = tt
followed-new m One settings moment defer l (Some f) k h = absurd k
followed-new m Apart settings moment defer l None k h = absurd k
followed-new m Apart settings moment defer l (Some f) e (told, r) =
    subst (λ (g : Debugger). Follows m l g) (sym e) (Rests (events.Defer defer) (new_link settings moment) l told (new_debugger_in Apart settings.limits 1) (Begins settings moment) tt r)

-- ---- counts that are asked

pub count-none : {S : Type 0} (m : Meaning S) (order : Order) (l : Link S) → MayCount m order l l
count-none m One l = refl
count-none m Apart l = inl refl

-- a count was asked of both, where there is a follower
pub count-asked : {S : Type 0} (m : Meaning S) (thread : ℕ) (order : Order) (old : Link S) (f : Option Debugger) (new : Link S) (g : Option Debugger) → Followed m order old f → AsksBothWhere m (suspend_count thread) old f new g → MayCount m order old new
count-asked m thread One old None new g k a = a.0
count-asked m thread One old (Some f) new g k a = absurd k
count-asked m thread Apart old None new g k a = absurd k
count-asked m thread Apart old (Some f) new g k (h, is, (told, r, a)) = inr (thread, (told, r))

pub count-followed : {S : Type 0} (m : Meaning S) (c : Command) (order : Order) (old : Link S) (f : Option Debugger) (new : Link S) (g : Option Debugger) → Followed m order old f → AsksBothWhere m c old f new g → Followed m order new g
count-followed m c One old None new g k a = subst (λ (o : Option Debugger). Followed m One new o) (sym a.1) tt
count-followed m c One old (Some f) new g k a = absurd k
count-followed m c Apart old None new g k a = absurd k
count-followed m c Apart old (Some f) new g k (h, is, (told, r, a)) = subst (λ (o : Option Debugger). Followed m Apart new o) (sym is) (Asks c old new told f h k r a)

pub count-unasked : {S : Type 0} (m : Meaning S) (thread : ℕ) (order : Order) (old : Link S) (f : Option Debugger) (new : Link S) → Followed m order old f → MayAskAloneWhere m (suspend_count thread) f old new → StopsCounting m order old new
count-unasked m thread One old None new k a = absurd a
count-unasked m thread One old (Some f) new k a = absurd k
count-unasked m thread Apart old None new k a = absurd k
count-unasked m thread Apart old (Some f) new k (inl s) = (old, inl refl, s)
count-unasked m thread Apart old (Some f) new k (inr h) = (new, inr (thread, h), ([], ran-none m new))

pub counting-ends : {S : Type 0} (m : Meaning S) (old read : Standing S) (new : Link S) → Leads m old read → StopsCounting m read.order read.link new → EndsMoving m ended.NoMemory old new read.out
counting-ends m old read new l (counted, c, s) = (record read { link = counted }, AskedCount read counted l c, (inl s, refl))

-- ---- what it does by itself

-- a session begins at it: whatever it knew before is lost first, so that one may
pub begins-anew : (f lost new : Debugger) (done : Bool) → lost ≡ lost_debugger f → (IsTrue done ↔ ((is_open lost.end ≡ false) × (has_tickets lost.pending ≡ false))) → (IsTrue done → new ≡ attached lost) → new ≡ begun_anew f
begins-anew f lost new done is when then =
    then (when.1 (ap (λ (d : Debugger). is_open d.end) is, ap (λ (d : Debugger). has_tickets d.pending) is)) ∙ ap (λ (d : Debugger). attached d) is

-- it begins at it where it begins at the link's debugger
pub begins-open : (before behind : Bool) (f : Debugger) → before ≡ true → f ≡ begun_too before behind f
begins-open before behind f e = subst (λ (b : Bool). f ≡ begun_too b behind f) (sym e) refl

pub begins-none : (before behind : Bool) (f : Debugger) → before ≡ false → behind ≡ false → f ≡ begun_too before behind f
begins-none before behind f e none = subst (λ (b : Bool). f ≡ begun_too b behind f) (sym e) (subst (λ (b : Bool). f ≡ begun_too false b f) (sym none) refl)

pub begins-too : (before behind : Bool) (f new : Debugger) → before ≡ false → behind ≡ true → new ≡ begun_anew f → new ≡ begun_too before behind f
begins-too before behind f new e some is = subst (λ (b : Bool). new ≡ begun_too b behind f) (sym e) (subst (λ (b : Bool). new ≡ begun_too false b f) (sym some) is)

-- what it put is let go
pub silenced : (f new : Debugger) (n : ℕ) → n ≡ length f.end.outgoing → new ≡ with_taken (take n f.end.outgoing) f → new ≡ silent f
silenced f new n count is = is ∙ ap (λ (xs : List ℕ). with_taken xs f) (ap (λ (k : ℕ). take k f.end.outgoing) count ∙ take_all (length f.end.outgoing) f.end.outgoing (omega arith))

-- it takes as many of the bytes as it has room for
taken-by : (bytes come : List ℕ) (room taken : ℕ) → bytes ≡ come → taken ≡ min (length bytes) room → take taken bytes ≡ take room come
taken-by bytes come room taken is n =
    let swapped : taken ≡ min room (length bytes) = omega (arith, n) in
    ap (λ (k : ℕ). take k bytes) swapped ∙ (take_min room bytes ∙ ap (λ (xs : List ℕ). take room xs) is)

pub feeds-too : {S : Type 0} (n : ℕ) (l : Link S) (f new : Debugger) (bytes : List ℕ) (taken : ℕ) → bytes ≡ come_to_debugger n l → taken ≡ min (length bytes) (room_of f.end) → new ≡ with_fed (take taken bytes) f → new ≡ fed_too n l f
feeds-too n l f new bytes taken is count e = e ∙ ap (λ (xs : List ℕ). with_fed xs f) (taken-by bytes (come_to_debugger n l) (room_of f.end) taken is count)

pub asks-so : {S : Type 0} (m : Meaning S) (c asked : Command) (old new : Link S) (told : List Outcome) → asked ≡ c → Ran m (events.Ask asked ∷ []) old new told → Ran m (events.Ask c ∷ []) old new told
asks-so m c asked old new told is r = subst (λ (q : Command). Ran m (events.Ask q ∷ []) old new told) is r

-- the link's debugger was asked, and it as well, where that did not refuse
pub asks-both : {S : Type 0} (m : Meaning S) (c asked copy : Command) (old new : Link S) (f g : Debugger) (told seen : List Outcome) → asked ≡ c → copy ≡ asked → seen ≡ told → Ran m (events.Ask asked ∷ []) old new told
    → AsksToo (refusal_in seen) copy f g → AsksBoth m c old f new g
asks-both m c asked copy old new f g told seen is same all r a = (
  told,
  asks-so m c asked old new told is r,
  subst (λ (q : Command). AsksToo (refusal_in told) q f g) (same ∙ is) (subst (λ (os : List Outcome). AsksToo (refusal_in os) copy f g) all a),
)

-- ---- what calls do to it, where there is one

pub some-fed : {S : Type 0} (n : ℕ) (l : Link S) (o : Option Debugger) (f g : Debugger) → o ≡ Some f → g ≡ fed_too n l f → Some g ≡ fed_where n l o
some-fed n l o f g is e = ap (λ (x : Debugger). Some x) e ∙ ap (λ (x : Option Debugger). fed_where n l x) (sym is)

pub some-turned : (o : Option Debugger) (f g : Debugger) → o ≡ Some f → TurnsToo true f g → TurnsWhere o (Some g)
some-turned o f g is t = subst (λ (x : Option Debugger). TurnsWhere x (Some g)) (sym is) (g, refl, t)

pub some-asked : (c : Command) (o : Option Debugger) (f g : Debugger) → o ≡ Some f → MayAsk c f g → MayAskWhere c o (Some g)
some-asked c o f g is a = subst (λ (x : Option Debugger). MayAskWhere c x (Some g)) (sym is) (g, refl, a)

pub none-both : {S : Type 0} (m : Meaning S) (c : Command) (l : Link S) (o : Option Debugger) → o ≡ None → AsksBothWhere m c l o l o
none-both m c l o is = subst (λ (x : Option Debugger). AsksBothWhere m c l x l x) (sym is) (refl, refl)

pub some-both : {S : Type 0} (m : Meaning S) (c : Command) (old new : Link S) (o : Option Debugger) (f g : Debugger) → o ≡ Some f → AsksBoth m c old f new g → AsksBothWhere m c old o new (Some g)
some-both m c old new o f g is a = subst (λ (x : Option Debugger). AsksBothWhere m c old x new (Some g)) (sym is) (g, refl, a)

pub some-alone : {S : Type 0} (m : Meaning S) (c : Command) (old new : Link S) (o : Option Debugger) (f : Debugger) → o ≡ Some f → MayAskAlone m c old new → MayAskAloneWhere m c o old new
some-alone m c old new o f is a = subst (λ (x : Option Debugger). MayAskAloneWhere m c x old new) (sym is) a

-- the lines of a plan, and how a run of it ends
use Rattle.std.proofs.Common.{◌≡◌, ◌≤◌, ◌⊎◌, inl, inr, ℕ, ◌+◌, Bool, true, false, ◌&&◌, List, [], ◌∷◌, ◌++◌, slice_get, Option, Some, None, is_some, Result, Ok, Err, IfErr, ◌||◌, refl, sym, ◌∙◌, ap, subst, arith}
use Rattle.std.specs.Borrow.{Bor}
use Rattle.std.specs.Global.{Vec}
use Rattle.jdwp_machine.specs.Meanings.{Meaning}
use Rattle.jdwp_action.specs.Actions.{Command}
use Rattle.jdwp_debugger.specs.declared.pending.Ticket.{Ticket}
use Rattle.jdwp_debugger.specs.Debuggers.{Asked, Unanswered, at_place, has_tickets, seen_unanswered, unanswered}
use Rattle.jdwp_attach.specs.OwnCounts.{suspend_count}
use Rattle.jdwp_debugger.specs.declared.order.Order.{Order}
use Rattle.jdwp_debugger.specs.declared.order.Order.TheVariants.{One, Apart}
use Rattle.jdwp_model.specs.Events as events
use Rattle.jdwp_model.specs.Events.{LinkEvent}
use Rattle.jdwp_link.specs.declared.events.Outcome.{Outcome}
use Rattle.jdwp_link.specs.Clauses.{Ran}
use Rattle.jdwp_link.specs.Links.{Link}
use Rattle.jdwp_end.specs.Story.{Story}
use Rattle.jdwp_attach.specs.declared.plans.plan_line.PlanLine.{PlanLine}
use Rattle.jdwp_attach.specs.declared.plans.plan_line.PlanLine.TheVariants as line
use Rattle.jdwp_pair.specs.declared.ended.PairEnded.{PairEnded}
use Rattle.jdwp_pair.specs.declared.ended.PairEnded.TheVariants as ended
use Rattle.jdwp_pair.specs.Connections.{is_disconnected}
use Rattle.jdwp_pair.specs.Events.{Happens, Leads, Rests, Moved, Turned, AskedCount, MayCount, MayLose, Moves, Reads, Standing, Stays}
use Rattle.jdwp_pair.specs.Lines.{Asks, AsksFor, CarriesOut, Does, EndsAsking, EndsLine, EndsLosing, EndsLosingTarget, FailsLine, FailsToTellKnown, LosesDebugger, RefusesCommand, RefusesLine, TakesLine, command_by, is_due, is_due_at, next_is_due}
use Rattle.jdwp_pair.specs.PlanRuns.{Ends, EndsBehind, Finishes, LosesBoth, Rounds, NoRound, Another, RunsPlan, beginning, is_finished, unflushed_end}
use Rattle.jdwp_pair.specs.Rounds.{EndsAt, EndsRound, EndsTurn, IsRound}
use Rattle.jdwp_pair.specs.Telling.{FailsToTell, lost_text}
use Rattle.jdwp_pair.proofs.Leading.{debugger-leads, machine-moves, ran-both, ran-none}

-- ---- runs of a plan

-- some events lead from one link to the other
abbrev pub Runs : {S : Type 0} → Meaning S → Link S → Link S → Type 0
Runs m old new = (es : List LinkEvent) × (os : List Outcome) × Ran m es old new os

runs-none : {S : Type 0} (m : Meaning S) (l : Link S) → Runs m l l
runs-none m l = ([], [], ran-none m l)

runs-same : {S : Type 0} (m : Meaning S) (old new : Link S) → new ≡ old → Runs m old new
runs-same m old new e = subst (λ l. Runs m old l) (sym e) (runs-none m old)

runs-both : {S : Type 0} (m : Meaning S) (old mid new : Link S) → Runs m old mid → Runs m mid new → Runs m old new
runs-both m old mid new (es, os, r) (fs, more, g) = (es ++ fs, os ++ more, ran-both m es fs old mid new os more r g)

happens-run : {S : Type 0} (m : Meaning S) (e : LinkEvent) (old new : Link S) → Happens m e old new → Runs m old new
happens-run m e old new (os, r) = (e ∷ [], os, r)

stays-run : {S : Type 0} (m : Meaning S) (old new : Link S) → Stays m old new → Runs m old new
stays-run m old new (os, r) = ([], os, r)

may-lose-run : {S : Type 0} (m : Meaning S) (old new : Link S) → MayLose m old new → Runs m old new
may-lose-run m old new (es, os, all, r) = (es, os, r)

moves-run : {S : Type 0} (m : Meaning S) (old new : Link S) → Moves m old new → Runs m old new
moves-run m old new (es, all, r) = (es, [], r)

reads-run : {S : Type 0} (m : Meaning S) (old : Standing S) (handled : Bool) (new : Standing S) → Reads m old handled new → Runs m old.link new.link
reads-run m old true new (told, r, did, e) = (events.DebuggerTurn ∷ [], told, r)
reads-run m old false new ((told, r), did, e) = (events.DebuggerTurn ∷ [], told, r)

counts-run : {S : Type 0} (m : Meaning S) (order : Order) (old new : Link S) → MayCount m order old new → Runs m old new
counts-run m One old new e = runs-same m old new e
counts-run m Apart old new (inl e) = runs-same m old new e
counts-run m Apart old new (inr (thread, h)) = happens-run m (events.Ask (suspend_count thread)) old new h

leads-run : {S : Type 0} (m : Meaning S) (first new : Standing S) → Leads m first new → Runs m first.link new.link
leads-run m first _ Rests = runs-none m first.link
leads-run m first _ (Moved old new l moves) = runs-both m first.link old.link new (leads-run m first old l) (moves-run m old.link new moves)
leads-run m first _ (Turned old new handled l r) = runs-both m first.link old.link new.link (leads-run m first old l) (reads-run m old handled new r)
leads-run m first _ (AskedCount old new l c) = runs-both m first.link old.link new (leads-run m first old l) (counts-run m old.order old.link new c)

asks-run : {S : Type 0} (m : Meaning S) (c : Option Command) (old new : Link S) → AsksFor m c old new → Runs m old new
asks-run m None old new h = absurd h
asks-run m (Some c) old new (os, r, none) = (events.Ask c ∷ [], os, r)

carries-run : {S : Type 0} (m : Meaning S) (order : Order) (line : PlanLine) (old : Link S) (before : Story) (new : Link S) (after : Story) → CarriesOut m order line old before new after → Runs m old new
carries-run m order (line.Ask set number bytes) old before new after h = asks-run m (command_by old.debugger.sizes set number bytes.items) old new h.0
carries-run m order line.Answers old before new after h = runs-same m old new h.0
carries-run m order (line.Events count) old before new after h = runs-same m old new h.0
carries-run m order line.Mirror old before new after h = runs-same m old new h.0
carries-run m order line.LoseTarget old before new after h = happens-run m events.TargetLoses old new h.0
carries-run m order line.LoseDebugger old before new after (told, r, e) = (events.DebuggerLoses ∷ [], told, r)
carries-run m order line.Attach old before new after h = happens-run m events.Attach old new h.0

takes-run : {S : Type 0} (m : Meaning S) (plan : List PlanLine) (old : Standing S) (taken : Bool) (new : Standing S) → TakesLine m plan old taken new → Runs m old.link new.link
takes-run {S} m plan old true new (due, (line, there, h, e)) = carries-run m old.order line old.link old.out new.link new.out h
takes-run {S} m plan old false new (due, e) = runs-same m old.link new.link (ap (λ (s : Standing S). s.link) e)

round-run : {S : Type 0} (m : Meaning S) (plan : List PlanLine) (old : Standing S) (happened : Bool) (new : Standing S) → IsRound m plan old happened new → Runs m old.link new.link
round-run {S} m plan old happened new r =
    let link-is : new.link ≡ r.last.link = ap (λ (s : Standing S). s.link) r.left in
    let line = takes-run m plan old r.taken r.named r.takes in
    let machine = moves-run m r.named.link r.stepped (machine-moves m r.named.link r.stepped r.moved r.machine) in
    let debugger = leads-run m (record r.named { link = r.stepped }) r.last (debugger-leads m (record r.named { link = r.stepped }) r.last r.handled r.debugger) in
    subst (λ (l : Link S). Runs m old.link l) (sym link-is) (runs-both m old.link r.named.link r.last.link line (runs-both m r.named.link r.stepped r.last.link machine debugger))

rounds-run : {S : Type 0} (m : Meaning S) (plan : List PlanLine) (first : Standing S) (n : ℕ) (now : Standing S) → Rounds m plan first n now → Runs m first.link now.link
rounds-run m plan first _ _ NoRound = runs-none m first.link
rounds-run m plan first _ _ (Another n old new rs r left) = runs-both m first.link old.link new.link (rounds-run m plan first n old rs) (round-run m plan old true new r)

-- ---- ends of a run

refusal-runs : {S : Type 0} (m : Meaning S) (c : Option Command) (number : ℕ) (old new : Link S) → RefusesCommand m c number old new → Runs m old new
refusal-runs m None number old new h = runs-same m old new h.1
refusal-runs m (Some c) number old new (os, refused, r, told, is) = (events.Ask c ∷ [], os, r)

refused-runs : {S : Type 0} (m : Meaning S) (line : PlanLine) (number : ℕ) (old new : Link S) → RefusesLine m line number old new → Runs m old new
refused-runs m (line.Ask set n bytes) number old new h = refusal-runs m (command_by old.debugger.sizes set n bytes.items) number old new h
refused-runs m line.Answers number old new h = absurd h
refused-runs m (line.Events count) number old new h = absurd h
refused-runs m line.Mirror number old new h = absurd h
refused-runs m line.LoseTarget number old new h = absurd h
refused-runs m line.LoseDebugger number old new h = absurd h
refused-runs m line.Attach number old new h = absurd h

asked-runs : {S : Type 0} (m : Meaning S) (c : Option Command) (old new : Link S) → Asks m c old new → Runs m old new
asked-runs m None old new h = absurd h
asked-runs m (Some c) old new h = happens-run m (events.Ask c) old new h

does-run : {S : Type 0} (m : Meaning S) (line : PlanLine) (old new : Link S) → Does m line old new → Runs m old new
does-run m (line.Ask set number bytes) old new h = asked-runs m (command_by old.debugger.sizes set number bytes.items) old new h
does-run m line.Answers old new h = absurd h
does-run m (line.Events count) old new h = absurd h
does-run m line.Mirror old new h = absurd h
does-run m line.LoseTarget old new h = happens-run m events.TargetLoses old new h
does-run m line.LoseDebugger old new h = happens-run m events.DebuggerLoses old new h
does-run m line.Attach old new h = happens-run m events.Attach old new h

fails-line-run : {S : Type 0} (m : Meaning S) (order : Order) (line : PlanLine) (old : Link S) (before : Story) (new : Link S) (after : Story) → FailsLine m order line old before new after → Runs m old new
fails-line-run m order line.Mirror old before new after h = runs-same m old new h.0
fails-line-run m order line.LoseDebugger old before new after (told, r, f) = (events.DebuggerLoses ∷ [], told, r)
fails-line-run m order (line.Ask set number bytes) old before new after h = absurd h
fails-line-run m order line.Answers old before new after h = absurd h
fails-line-run m order (line.Events count) old before new after h = absurd h
fails-line-run m order line.LoseTarget old before new after h = absurd h
fails-line-run m order line.Attach old before new after h = absurd h

ends-line-run : {S : Type 0} (m : Meaning S) (order : Order) (line : PlanLine) (place : ℕ) (how : PairEnded) (old : Link S) (before : Story) (new : Link S) (after : Story) → EndsLine m order line place how old before new after → Runs m old new
ends-line-run m order line place (ended.RefusedLine at number) old before new after (is, h, e) = refused-runs m line number old new h
ends-line-run m order line place ended.NoMemory old before new after (h, e) = may-lose-run m old new h
ends-line-run m order line place ended.LostConnection old before new after (inl h, e) = may-lose-run m old new h
ends-line-run m order line place ended.LostConnection old before new after (inr h, e) = does-run m line old new h
ends-line-run m order line place ended.LostByWrite old before new after h = fails-line-run m order line old before new after h
ends-line-run m order line place ended.Done old before new after h = absurd h
ends-line-run m order line place ended.TurnLimit old before new after h = absurd h
ends-line-run m order line place (ended.Standstill waits) old before new after h = absurd h

ends-turn-run : {S : Type 0} (m : Meaning S) (how : PairEnded) (old : Standing S) (new : Link S) (after : Story) → EndsTurn m how old new after → Runs m old.link new
ends-turn-run m ended.Done old new after (opened, (told, r, shut, e)) = (events.DebuggerTurn ∷ [], told, r)
ends-turn-run m ended.LostByWrite old new after (told, r, f) = (events.DebuggerTurn ∷ [], told, r)
ends-turn-run m ended.NoMemory old new after (inl h, e) = stays-run m old.link new h
ends-turn-run m ended.NoMemory old new after (inr h, e) = happens-run m events.DebuggerTurn old.link new h
ends-turn-run m ended.LostConnection old new after (inl h, e) = stays-run m old.link new h
ends-turn-run m ended.LostConnection old new after (inr h, e) = happens-run m events.DebuggerTurn old.link new h
ends-turn-run m (ended.RefusedLine place number) old new after h = absurd h
ends-turn-run m ended.TurnLimit old new after h = absurd h
ends-turn-run m (ended.Standstill waits) old new after h = absurd h

ends-round-run : {S : Type 0} (m : Meaning S) (plan : List PlanLine) (how : PairEnded) (old : Standing S) (new : Link S) (after : Story) → EndsRound m plan how old new after → Runs m old.link new
ends-round-run m plan how old new after (inl (due, (line, there, h))) = ends-line-run m old.order line (old.carried + 1) how old.link old.out new after h
ends-round-run m plan how old new after (inr (taken, named, takes, (last, l, h))) =
    runs-both m old.link named.link new (takes-run m plan old taken named takes) (runs-both m named.link last.link new (leads-run m named last l) (ends-turn-run m how last new after h))

loses-debugger-run : {S : Type 0} (m : Meaning S) (old : Link S) (before : Story) (new : Link S) (after : Story) → LosesDebugger m old before new after → Runs m old new
loses-debugger-run m old before new after (told, r, e) = (events.DebuggerLoses ∷ [], told, r)

loses-both-run : {S : Type 0} (m : Meaning S) (how : PairEnded) (old : Link S) (before : Story) (new : Link S) (after : Story) → LosesBoth m how old before new after → Runs m old new
loses-both-run m ended.Done old before new after (mid, l, h) = runs-both m old mid new (loses-debugger-run m old before mid after l) (happens-run m events.TargetLoses mid new h)
loses-both-run m ended.NoMemory old before new after (inl (h, e)) = may-lose-run m old new h
loses-both-run m ended.NoMemory old before new after (inr (mid, l, h)) = runs-both m old mid new (loses-debugger-run m old before mid after l) (may-lose-run m mid new h)
loses-both-run m ended.LostConnection old before new after (inl (h, e)) = may-lose-run m old new h
loses-both-run m ended.LostConnection old before new after (inr (mid, l, h)) = runs-both m old mid new (loses-debugger-run m old before mid after l) (may-lose-run m mid new h)
loses-both-run m ended.LostByWrite old before new after (told, r, f) = (events.DebuggerLoses ∷ [], told, r)
loses-both-run m (ended.RefusedLine place number) old before new after h = absurd h
loses-both-run m ended.TurnLimit old before new after h = absurd h
loses-both-run m (ended.Standstill waits) old before new after h = absurd h

finishes-run : {S : Type 0} (m : Meaning S) (plan : List PlanLine) (how : PairEnded) (old : Standing S) (new : Link S) (after : Story) → Finishes m plan how old new after → Runs m old.link new
finishes-run m plan how old new after (last, r, done, l) = runs-both m old.link last.link new (round-run m plan old true last r) (loses-both-run m how last.link last.out new after l)

-- a round that ends the run, or the losses behind one that finished the plan
either-run : {S : Type 0} (m : Meaning S) (plan : List PlanLine) (how : PairEnded) (old : Standing S) (new : Link S) (after : Story) → EndsRound m plan how old new after ⊎ Finishes m plan how old new after → Runs m old.link new
either-run m plan how old new after (inl h) = ends-round-run m plan how old new after h
either-run m plan how old new after (inr h) = finishes-run m plan how old new after h

behind-run : {S : Type 0} (m : Meaning S) (plan : List PlanLine) (limit rounds : ℕ) (how : PairEnded) (old : Standing S) (new : Link S) (after : Story) → EndsBehind m plan limit rounds how old new after → Runs m old.link new
behind-run m plan limit rounds ended.TurnLimit old new after (all, e, same) = runs-same m old.link new e
behind-run m plan limit rounds (ended.Standstill waits) old new after (last, r, e, same, is) = subst (λ l. Runs m old.link l) (sym e) (round-run m plan old false last r)
behind-run m plan limit rounds ended.Done old new after h = either-run m plan ended.Done old new after h
behind-run m plan limit rounds (ended.RefusedLine place number) old new after h = either-run m plan (ended.RefusedLine place number) old new after h
behind-run m plan limit rounds ended.LostByWrite old new after h = either-run m plan ended.LostByWrite old new after h
behind-run m plan limit rounds ended.LostConnection old new after h = either-run m plan ended.LostConnection old new after h
behind-run m plan limit rounds ended.NoMemory old new after h = either-run m plan ended.NoMemory old new after h

-- a session begins, and events follow
pub plan-run : {S : Type 0} (m : Meaning S) (order : Order) (plan : List PlanLine) (limit : ℕ) (how : PairEnded) (old : Link S) (before : Story) (new : Link S) (after : Story) → RunsPlan m order plan limit how old before new after
    → (later : List LinkEvent) × (os : List Outcome) × Ran m (events.Attach ∷ later) old new os
plan-run m order plan limit how old before new after (first, (os, begins), e) =
    let (later, more, r) = runs-both m first e.last.link new (rounds-run m plan (beginning order first before) e.rounds e.last e.reached) (behind-run m plan limit e.rounds how e.last new after e.ends) in
    (later, os ++ more, ran-both m (events.Attach ∷ []) later old first new os more begins r)

-- ---- calls

-- no round ends a run so
no-limit : {S : Type 0} (m : Meaning S) (plan : List PlanLine) (old : Standing S) (new : Link S) (after : Story) → EndsRound m plan ended.TurnLimit old new after → ⊥
no-limit m plan old new after (inl (due, (line, there, h))) = h
no-limit m plan old new after (inr (taken, named, takes, (last, l, h))) = h

no-standstill : {S : Type 0} (m : Meaning S) (plan : List PlanLine) (waits : ℕ) (old : Standing S) (new : Link S) (after : Story) → EndsRound m plan (ended.Standstill waits) old new after → ⊥
no-standstill m plan waits old new after (inl (due, (line, there, h))) = h
no-standstill m plan waits old new after (inr (taken, named, takes, (last, l, h))) = h

pub ends-round : {S : Type 0} (m : Meaning S) (plan : List PlanLine) (limit : ℕ) (how : PairEnded) (first old : Standing S) (n : ℕ) (new : Link S) (after : Story) → n ≤ limit → Rounds m plan first n old → EndsRound m plan how old new after
    → Ends m plan limit how first new after
ends-round m plan limit ended.TurnLimit first old n new after le rs h = absurd (no-limit m plan old new after h)
ends-round m plan limit (ended.Standstill waits) first old n new after le rs h = absurd (no-standstill m plan waits old new after h)
ends-round m plan limit ended.Done first old n new after le rs h = record { rounds = n; within = le; last = old; reached = rs; ends = inl h }
ends-round m plan limit (ended.RefusedLine place number) first old n new after le rs h = record { rounds = n; within = le; last = old; reached = rs; ends = inl h }
ends-round m plan limit ended.LostByWrite first old n new after le rs h = record { rounds = n; within = le; last = old; reached = rs; ends = inl h }
ends-round m plan limit ended.LostConnection first old n new after le rs h = record { rounds = n; within = le; last = old; reached = rs; ends = inl h }
ends-round m plan limit ended.NoMemory first old n new after le rs h = record { rounds = n; within = le; last = old; reached = rs; ends = inl h }

-- the plan is finished
pub ends-finished : {S : Type 0} (m : Meaning S) (plan : List PlanLine) (limit : ℕ) (how : PairEnded) (first old last : Standing S) (n : ℕ) (new : Link S) (after : Story) → n ≤ limit → Rounds m plan first n old → IsRound m plan old true last
    → is_finished plan last ≡ true → LosesBoth m how last.link last.out new after → Ends m plan limit how first new after
ends-finished m plan limit ended.TurnLimit first old last n new after le rs r done l = absurd l
ends-finished m plan limit (ended.Standstill waits) first old last n new after le rs r done l = absurd l
ends-finished m plan limit (ended.RefusedLine place number) first old last n new after le rs r done l = absurd l
ends-finished m plan limit ended.Done first old last n new after le rs r done l = record { rounds = n; within = le; last = old; reached = rs; ends = inr (last, r, done, l) }
ends-finished m plan limit ended.LostByWrite first old last n new after le rs r done l = record { rounds = n; within = le; last = old; reached = rs; ends = inr (last, r, done, l) }
ends-finished m plan limit ended.LostConnection first old last n new after le rs r done l = record { rounds = n; within = le; last = old; reached = rs; ends = inr (last, r, done, l) }
ends-finished m plan limit ended.NoMemory first old last n new after le rs r done l = record { rounds = n; within = le; last = old; reached = rs; ends = inr (last, r, done, l) }

-- before the first round
pub ends-first : {S : Type 0} (m : Meaning S) (order : Order) (plan : List PlanLine) (limit : ℕ) (first : Link S) (before : Story) → Ends m plan limit ended.LostConnection (beginning order first before) first before
ends-first m order plan limit first before = record {
  rounds = 0;
  within = omega arith;
  last = beginning order first before;
  reached = NoRound;
  ends = inl (inr (false, beginning order first before, (refl, refl), (beginning order first before, Rests, (inl ([], ran-none m first), refl))));
}

-- ---- lines

pub next-due : {S : Type 0} (m : Meaning S) (plan : List PlanLine) (s : Standing S) (line : PlanLine) (due : Bool) → s.begun ≡ true → slice_get plan s.carried ≡ Some line → due ≡ is_due m line s.read s.link → next_is_due m plan s ≡ due
next-due m plan s line due begun there is = ap (λ (b : Bool). b && is_due_at m (slice_get plan s.carried) s) begun ∙ (ap (λ (o : Option PlanLine). is_due_at m o s) there ∙ sym is)

and-false : (b : Bool) → (b && false) ≡ false
and-false true = refl
and-false false = refl

pub none-due : {S : Type 0} (m : Meaning S) (plan : List PlanLine) (s : Standing S) → slice_get plan s.carried ≡ None → next_is_due m plan s ≡ false
none-due m plan s none = ap (λ (o : Option PlanLine). s.begun && is_due_at m o s) none ∙ and-false s.begun

pub unbegun-due : {S : Type 0} (m : Meaning S) (plan : List PlanLine) (s : Standing S) → s.begun ≡ false → next_is_due m plan s ≡ false
unbegun-due m plan s none = ap (λ (b : Bool). b && is_due_at m (slice_get plan s.carried) s) none

stays-lose : {S : Type 0} (m : Meaning S) (old new : Link S) → Stays m old new → MayLose m old new
stays-lose m old new (os, r) = ([], os, tt, r)

same-lose : {S : Type 0} (m : Meaning S) (l : Link S) → MayLose m l l
same-lose m l = ([], [], tt, ran-none m l)

pub mirror-ends : {S A : Type 0} (m : Meaning S) (order : Order) (place : ℕ) (r : Result A PairEnded) (l : Link S) (before after : Story) → IfErr r (λ how. FailsToTellKnown m order l how before after)
    → IfErr r (λ how. EndsLine m order line.Mirror place how l before l after)
mirror-ends m order place (Ok done) l before after h = h
mirror-ends m order place (Err ended.NoMemory) l before after h = (same-lose m l, h)
mirror-ends m order place (Err ended.LostByWrite) l before after h = (refl, h)
mirror-ends m order place (Err ended.LostConnection) l before after h = absurd h
mirror-ends m order place (Err (ended.RefusedLine at number)) l before after h = absurd h
mirror-ends m order place (Err ended.Done) l before after h = absurd h
mirror-ends m order place (Err ended.TurnLimit) l before after h = absurd h
mirror-ends m order place (Err (ended.Standstill waits)) l before after h = absurd h

pub losing-target-ends : {S A : Type 0} (m : Meaning S) (order : Order) (place : ℕ) (r : Result A PairEnded) (old new : Link S) (out : Story) → IfErr r (λ how. EndsLosingTarget m how old new) → IfErr r (λ how. EndsLine m order line.LoseTarget place how old out new out)
losing-target-ends m order place (Ok done) old new out h = h
losing-target-ends m order place (Err ended.NoMemory) old new out h = (h, refl)
losing-target-ends m order place (Err ended.LostConnection) old new out h = (inl h, refl)
losing-target-ends m order place (Err ended.LostByWrite) old new out h = absurd h
losing-target-ends m order place (Err (ended.RefusedLine at number)) old new out h = absurd h
losing-target-ends m order place (Err ended.Done) old new out h = absurd h
losing-target-ends m order place (Err ended.TurnLimit) old new out h = absurd h
losing-target-ends m order place (Err (ended.Standstill waits)) old new out h = absurd h

pub losing-debugger-ends : {S A : Type 0} (m : Meaning S) (order : Order) (place : ℕ) (r : Result A PairEnded) (old : Link S) (before : Story) (new : Link S) (after : Story) → IfErr r (λ how. EndsLosing m how old before new after)
    → IfErr r (λ how. EndsLine m order line.LoseDebugger place how old before new after)
losing-debugger-ends m order place (Ok done) old before new after h = h
losing-debugger-ends m order place (Err ended.NoMemory) old before new after h = h
losing-debugger-ends m order place (Err ended.LostConnection) old before new after h = (inl h.0, h.1)
losing-debugger-ends m order place (Err ended.LostByWrite) old before new after h = h
losing-debugger-ends m order place (Err (ended.RefusedLine at number)) old before new after h = absurd h
losing-debugger-ends m order place (Err ended.Done) old before new after h = absurd h
losing-debugger-ends m order place (Err ended.TurnLimit) old before new after h = absurd h
losing-debugger-ends m order place (Err (ended.Standstill waits)) old before new after h = absurd h

stays-or-asks : {S : Type 0} (m : Meaning S) (c : Option Command) (line : PlanLine) (old new : Link S) → (Asks m c old new → Does m line old new) → Stays m old new ⊎ Asks m c old new → MayLose m old new ⊎ Does m line old new
stays-or-asks m c line old new does (inl h) = inl (stays-lose m old new h)
stays-or-asks m c line old new does (inr h) = inr (does h)

pub asking-ends : {S A : Type 0} (m : Meaning S) (order : Order) (set number : ℕ) (bytes : Vec ℕ) (place : ℕ) (r : Result A PairEnded) (old new : Link S) (out : Story)
    → IfErr r (λ how. EndsAsking m (command_by old.debugger.sizes set number bytes.items) place how old new) → IfErr r (λ how. EndsLine m order (line.Ask set number bytes) place how old out new out)
asking-ends m order set number bytes place (Ok done) old new out h = h
asking-ends m order set number bytes place (Err (ended.RefusedLine at refused)) old new out h = (h.0, h.1, refl)
asking-ends m order set number bytes place (Err ended.NoMemory) old new out h = (stays-lose m old new h, refl)
asking-ends m order set number bytes place (Err ended.LostConnection) old new out h =
    (stays-or-asks m (command_by old.debugger.sizes set number bytes.items) (line.Ask set number bytes) old new (λ a. a) h, refl)
asking-ends m order set number bytes place (Err ended.LostByWrite) old new out h = absurd h
asking-ends m order set number bytes place (Err ended.Done) old new out h = absurd h
asking-ends m order set number bytes place (Err ended.TurnLimit) old new out h = absurd h
asking-ends m order set number bytes place (Err (ended.Standstill waits)) old new out h = absurd h

-- ---- losses

-- the event did not happen, or the connection failed behind it
pub target-lost : {S : Type 0} (m : Meaning S) (how : PairEnded) (old new : Link S) → EndsAt m events.TargetLoses how old new → EndsLosingTarget m how old new
target-lost m ended.NoMemory old new h = stays-lose m old new h
target-lost m ended.LostConnection old new (inl h) = stays-lose m old new h
target-lost m ended.LostConnection old new (inr (os, r)) = (events.TargetLoses ∷ [], os, (tt, tt), r)
target-lost m ended.LostByWrite old new h = absurd h
target-lost m (ended.RefusedLine place number) old new h = absurd h
target-lost m ended.Done old new h = absurd h
target-lost m ended.TurnLimit old new h = absurd h
target-lost m (ended.Standstill waits) old new h = absurd h

pub debugger-lost : {S : Type 0} (m : Meaning S) (how : PairEnded) (old new : Link S) (out : Story) → EndsAt m events.DebuggerLoses how old new → EndsLosing m how old out new out
debugger-lost m ended.NoMemory old new out h = (stays-lose m old new h, refl)
debugger-lost m ended.LostConnection old new out (inl h) = (stays-lose m old new h, refl)
debugger-lost m ended.LostConnection old new out (inr (os, r)) = ((events.DebuggerLoses ∷ [], os, (tt, tt), r), refl)
debugger-lost m ended.LostByWrite old new out h = absurd h
debugger-lost m (ended.RefusedLine place number) old new out h = absurd h
debugger-lost m ended.Done old new out h = absurd h
debugger-lost m ended.TurnLimit old new out h = absurd h
debugger-lost m (ended.Standstill waits) old new out h = absurd h

-- the tickets that are lost were not told
pub tickets-untold : {S A : Type 0} (m : Meaning S) (r : Result A PairEnded) (old : Link S) (before : Story) (new : Link S) (after : Story) (told : List Outcome) → Ran m (events.DebuggerLoses ∷ []) old new told
    → IfErr r (λ how. FailsToTell (lost_text told) how before after) → IfErr r (λ how. EndsLosing m how old before new after)
tickets-untold m (Ok done) old before new after told ran h = h
tickets-untold m (Err ended.NoMemory) old before new after told ran e = ((events.DebuggerLoses ∷ [], told, (tt, tt), ran), e)
tickets-untold m (Err ended.LostByWrite) old before new after told ran f = (told, ran, f)
tickets-untold m (Err ended.LostConnection) old before new after told ran h = absurd h
tickets-untold m (Err (ended.RefusedLine place number)) old before new after told ran h = absurd h
tickets-untold m (Err ended.Done) old before new after told ran h = absurd h
tickets-untold m (Err ended.TurnLimit) old before new after told ran h = absurd h
tickets-untold m (Err (ended.Standstill waits)) old before new after told ran h = absurd h

-- the debugger's loss ended the run; and the target's, behind it
pub first-loss : {S : Type 0} (m : Meaning S) (how : PairEnded) (old : Link S) (before : Story) (new : Link S) (after : Story) → EndsLosing m how old before new after → LosesBoth m how old before new after
first-loss m ended.NoMemory old before new after h = inl h
first-loss m ended.LostConnection old before new after h = inl h
first-loss m ended.LostByWrite old before new after h = h
first-loss m (ended.RefusedLine place number) old before new after h = absurd h
first-loss m ended.Done old before new after h = absurd h
first-loss m ended.TurnLimit old before new after h = absurd h
first-loss m (ended.Standstill waits) old before new after h = absurd h

pub second-loss : {S : Type 0} (m : Meaning S) (how : PairEnded) (old mid : Link S) (before : Story) (new : Link S) (after : Story) → LosesDebugger m old before mid after → EndsLosingTarget m how mid new → LosesBoth m how old before new after
second-loss m ended.NoMemory old mid before new after l h = inr (mid, l, h)
second-loss m ended.LostConnection old mid before new after l h = inr (mid, l, h)
second-loss m ended.LostByWrite old mid before new after l h = absurd h
second-loss m (ended.RefusedLine place number) old mid before new after l h = absurd h
second-loss m ended.Done old mid before new after l h = absurd h
second-loss m ended.TurnLimit old mid before new after l h = absurd h
second-loss m (ended.Standstill waits) old mid before new after l h = absurd h

-- a connection that failed is told whatever the flush does
pub still-disconnected : (how : PairEnded) → is_disconnected (unflushed_end how) ≡ is_disconnected how
still-disconnected ended.Done = refl
still-disconnected (ended.RefusedLine place number) = refl
still-disconnected ended.LostByWrite = refl
still-disconnected ended.LostConnection = refl
still-disconnected ended.NoMemory = refl
still-disconnected ended.TurnLimit = refl
still-disconnected (ended.Standstill waits) = refl

-- ---- commands that wait

first-place : (p : Asked) (ticket : Option Ticket) (ps : List Asked) (first : Option Unanswered) → at_place (unanswered (record p { ticket = ticket } ∷ ps)) 0 ≡ first → (is_some (at_place (unanswered ps) 0) ≡ has_tickets ps)
    → is_some first ≡ (is_some ticket || has_tickets ps)
first-place p None ps first is rest = ap is_some (sym is) ∙ rest
first-place p (Some k) ps first is rest = ap is_some (sym is)

first-waits : (ps : List Asked) → is_some (at_place (unanswered ps) 0) ≡ has_tickets ps
first-waits [] = refl
first-waits (p ∷ ps) = first-place p p.ticket ps (at_place (unanswered (p ∷ ps)) 0) refl (first-waits ps)

seen-some : (o : Option (Ticket × Bor Command)) → is_some o ≡ is_some (seen_unanswered o)
seen-some None = refl
seen-some (Some p) = refl

pub first-ticket : (ps : List Asked) (o : Option (Ticket × Bor Command)) → seen_unanswered o ≡ at_place (unanswered ps) 0 → is_some o ≡ has_tickets ps
first-ticket ps o is = seen-some o ∙ (ap is_some is ∙ first-waits ps)

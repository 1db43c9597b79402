-- What calls lead to.
use Rattle.std.proofs.Common.{◌≡◌, ◌∙◌, ℕ, ◌≤◌, ◌+◌, ◌++◌, ◌∷◌, List, [], length, true, Option, Some, None, Result, Ok, inl, inr, refl, sym, ap, subst}
use Rattle.std.specs.Prelude.{map}
use Rattle.std.proofs.lemmas.List.{append-nil, map-append}
use Rattle.jdwp_wire.specs.Streams.{IsFront}
use Rattle.jdwp_end.specs.Ends.{front_of, is_open, room_of}
use Rattle.jdwp_action.specs.Actions.{Command}
use Rattle.jdwp_debugger.specs.declared.faults.DebuggerFault.{DebuggerFault}
use Rattle.jdwp_debugger.specs.declared.order.Order.{Order}
use Rattle.jdwp_debugger.specs.declared.order.Order.TheVariants as order
use Rattle.jdwp_debugger.specs.declared.turning.Read.{Read}
use Rattle.jdwp_debugger.specs.declared.turning.Read.TheVariants as read
use Rattle.jdwp_debugger.specs.Asking.{HasAsked, refusal_of_ask}
use Rattle.jdwp_debugger.specs.Debuggers.{Debugger, with_fed, with_taken}
use Rattle.jdwp_debugger.specs.DebuggerTurns.{Told, TurnsAt, read_meaning}
use Rattle.jdwp_attach.specs.declared.plans.plan_line.PlanLine.{PlanLine}
use Rattle.jdwp_attach.specs.OwnCounts.{AreSteps, AsksDue, Count, Line, Step, due_behind, due_count, due_in, planned}
use Rattle.jdwp_attach.specs.PlanAsks.{asks}
use Rattle.jdwp_attach.specs.PlanWaits.{Awaits, IsThere}
use Rattle.jdwp_attach.specs.Runs.{Reaches, ReachesBy, TellsLine, Begins, Turns, Asks, Feeds, Takes, Passes}
use Rattle.jdwp_attach.specs.Telling.{lines_of}
use Rattle.jdwp_attach.proofs.Turned.{turned-order}

-- ---- steps

planned-map : (lines : List PlanLine) → planned (map Line lines) ≡ lines
planned-map [] = refl
planned-map (line ∷ lines) = ap (λ (x : List PlanLine). line ∷ x) (planned-map lines)

planned-append : (a b : List Step) → planned (a ++ b) ≡ planned a ++ planned b
planned-append [] b = refl
planned-append (Line line ∷ a) b = ap (λ (x : List PlanLine). line ∷ x) (planned-append a b)
planned-append (Count thread ∷ a) b = planned-append a b

-- the lines among them are those that they are along
pub planned-is : (o : Order) (done : List PlanLine) (steps : List Step) → AreSteps o done steps → planned steps ≡ done
planned-is order.One done steps are = ap (λ (x : List Step). planned x) are ∙ planned-map done
planned-is order.Apart done steps are = are

pub are-none : (o : Order) → AreSteps o [] []
are-none order.One = refl
are-none order.Apart = refl

pub are-line : (o : Order) (done : List PlanLine) (steps : List Step) (line : PlanLine) → AreSteps o done steps → AreSteps o (done ++ line ∷ []) (steps ++ Line line ∷ [])
are-line order.One done steps line are = ap (λ (x : List Step). x ++ Line line ∷ []) are ∙ sym (map-append Line done (line ∷ []))
are-line order.Apart done steps line are = planned-append steps (Line line ∷ []) ∙ ap (λ (x : List PlanLine). x ++ line ∷ []) are

-- no line of the plan is among counts
due-planned : (due : Option ℕ) (old new : Debugger) (own : List Step) → AsksDue due old new own → planned own ≡ []
due-planned None old new own (none, same) = ap (λ (x : List Step). planned x) none
due-planned (Some thread) old new own (inl (one, unrefused, h)) = ap (λ (x : List Step). planned x) one
due-planned (Some thread) old new own (inr (none, refused, same)) = ap (λ (x : List Step). planned x) none

are-by : (o : Order) (done : List PlanLine) (steps own : List Step) (told : Told) (mid new : Debugger) → AsksDue (due_in o told mid) mid new own → AreSteps o done steps → AreSteps o done (steps ++ own)
are-by order.One done steps own told mid new h are = ap (λ (x : List Step). steps ++ x) h.0 ∙ append-nil steps ∙ are
are-by order.Apart done steps own told mid new h are =
    planned-append steps own ∙ ap (λ (x : List PlanLine). planned steps ++ x) (due-planned (due_in order.Apart told mid) mid new own h) ∙ append-nil (planned steps) ∙ are

pub are-due : (o : Order) (done : List PlanLine) (steps own : List Step) (told : Told) (mid new : Debugger) → mid.order ≡ o → AsksDue (due_count told mid) mid new own → AreSteps o done steps
    → AreSteps o done (steps ++ own)
are-due o done steps own told mid new is h are = are-by o done steps own told mid new (subst (λ (x : Order). AsksDue (due_in x told mid) mid new own) is h) are

-- ---- along steps

await-steps : (plan done : List PlanLine) (o : Order) (steps : List Step) (d : Debugger) → AreSteps o done steps → Awaits plan done d → Awaits plan (planned steps) d
await-steps plan done o steps d are awaits = subst (λ (x : List PlanLine). Awaits plan x d) (sym (planned-is o done steps are)) awaits

pub reach-turned : (plan done : List PlanLine) (base : Debugger) (steps own : List Step) (text : List ℕ) (old mid new : Debugger) (result : Result Read DebuggerFault) → AreSteps base.order done steps
    → Reaches plan base steps text old → Awaits plan done old → TurnsAt (front_of old.end) old result mid → AsksDue (due_behind result mid) mid new own
    → Reaches plan base (steps ++ own) (text ++ lines_of result mid) new
reach-turned plan done base steps own text old mid new result are r awaits turned asks-it =
    Turns steps own text old mid new result r (await-steps plan done base.order steps old are awaits) turned asks-it

-- a turn of which nothing is told, and behind which nothing is due
pub reach-untold : (plan done : List PlanLine) (base : Debugger) (steps : List Step) (text : List ℕ) (old new : Debugger) (result : Result Read DebuggerFault) → lines_of result new ≡ []
    → due_behind result new ≡ None → AreSteps base.order done steps → Reaches plan base steps text old → Awaits plan done old → TurnsAt (front_of old.end) old result new → Reaches plan base steps text new
reach-untold plan done base steps text old new result none undue are r awaits turned =
    let nothing : AsksDue (due_behind result new) new new [] = subst (λ (x : Option ℕ). AsksDue x new new []) (sym undue) (refl, refl) in
    subst (λ (x : List Step). Reaches plan base x text new) (append-nil steps)
    (subst (λ (x : List ℕ). Reaches plan base (steps ++ []) x new) (append-nil text)
    (subst (λ (x : List ℕ). Reaches plan base (steps ++ []) (text ++ x) new) none (reach-turned plan done base steps [] text old new new result are r awaits turned nothing)))

due-none : (o : Order) (told : Told) (d : Debugger) → ((d : Debugger) → due_in order.Apart told d ≡ None) → due_in o told d ≡ None
due-none order.One told d none = refl
due-none order.Apart told d none = none d

-- nothing is due behind a turn that handled nothing
pub nothing-due : (d : Debugger) → due_behind (Ok read.Nothing) d ≡ None
nothing-due d = due-none d.order _ d (λ d. refl)

-- a turn that handled nothing
pub reach-same : (plan done : List PlanLine) (base : Debugger) (steps : List Step) (text : List ℕ) (old new : Debugger) → AreSteps base.order done steps → Reaches plan base steps text old → Awaits plan done old
    → TurnsAt (front_of old.end) old (Ok read.Nothing) new → new ≡ record old { last = [] } → Reaches plan base steps text (record old { last = [] })
reach-same plan done base steps text old new are r awaits turned same =
    subst (λ (x : Debugger). Reaches plan base steps text x) same (reach-untold plan done base steps text old new (Ok read.Nothing) refl (nothing-due new) are r awaits turned)

pub reach-asked : (plan : List PlanLine) (base : Debugger) (steps : List Step) (text : List ℕ) (old new : Debugger) (command : Command) → Reaches plan base steps text old → is_open old.end ≡ true
    → refusal_of_ask old command ≡ None → HasAsked command old new → Reaches plan base steps text new
reach-asked plan base steps text old new command r opened unrefused asked = Asks steps text old new command r opened unrefused asked

-- behind a turn that handled nothing
pub reach-fed : (plan done : List PlanLine) (base : Debugger) (steps : List Step) (text : List ℕ) (old mid new : Debugger) (bytes : List ℕ) → AreSteps base.order done steps → Reaches plan base steps text old
    → Awaits plan done old → TurnsAt (front_of old.end) old (Ok read.Nothing) mid → length bytes ≤ room_of mid.end → new ≡ with_fed bytes mid → Reaches plan base steps text new
reach-fed plan done base steps text old mid new bytes are r awaits turned fits is =
    subst (λ (x : Debugger). Reaches plan base steps text x) (sym is) (Feeds steps text old mid bytes r (await-steps plan done base.order steps old are awaits) turned fits)

-- all that waited to leave was taken
pub reach-all : (plan : List PlanLine) (base : Debugger) (steps : List Step) (text : List ℕ) (old : Debugger) (bytes : List ℕ) → bytes ≡ old.end.outgoing → Reaches plan base steps text old → Reaches plan base steps text (with_taken bytes old)
reach-all plan base steps text old bytes all r = Takes steps text old bytes r ([], sym all ∙ sym (append-nil bytes))

-- from the beginning
pub hello-reached : (plan : List PlanLine) (d : Debugger) (bytes : List ℕ) → IsFront bytes d.end.outgoing → Reaches plan d [] [] (with_taken bytes d)
hello-reached plan d bytes front = Takes [] [] d bytes Begins front

pub hello-reached-all : (plan : List PlanLine) (d : Debugger) → Reaches plan d [] [] (with_taken d.end.outgoing d)
hello-reached-all plan d = hello-reached plan d d.end.outgoing ([], sym (append-nil d.end.outgoing))

-- a line was passed
pub reach-passed : (plan : List PlanLine) (base : Debugger) (steps : List Step) (text : List ℕ) (d : Debugger) (line : PlanLine) (more : List ℕ) → Reaches plan base steps text d
    → d.tickets ≡ base.tickets + asks (steps ++ Line line ∷ []) → IsThere line d → TellsLine line d more → Reaches plan base (steps ++ Line line ∷ []) (text ++ more) d
reach-passed plan base steps text d line more r tickets there tells = Passes steps text d line more r tickets there tells

-- ---- along lines of the plan

pub along-taken : (plan : List PlanLine) (base : Debugger) (done : List PlanLine) (text : List ℕ) (old : Debugger) (bytes : List ℕ) → ReachesBy plan base done text old → IsFront bytes old.end.outgoing
    → ReachesBy plan base done text (with_taken bytes old)
along-taken plan base done text old bytes (steps, are, r) front = (steps, are, Takes steps text old bytes r front)

pub along-all : (plan : List PlanLine) (base : Debugger) (done : List PlanLine) (text : List ℕ) (old : Debugger) (bytes : List ℕ) → bytes ≡ old.end.outgoing → ReachesBy plan base done text old
    → ReachesBy plan base done text (with_taken bytes old)
along-all plan base done text old bytes all (steps, are, r) = (steps, are, reach-all plan base steps text old bytes all r)

-- the order in which the target sends stays
due-order : (due : Option ℕ) (mid new : Debugger) (own : List Step) → AsksDue due mid new own → new.order ≡ mid.order
due-order None mid new own (none, same) = ap (λ (x : Debugger). x.order) same
due-order (Some thread) mid new own (inl (one, unrefused, h)) = ap (λ (x : Debugger). x.order) h.is
due-order (Some thread) mid new own (inr (none, refused, same)) = ap (λ (x : Debugger). x.order) same

pub reach-order : (plan : List PlanLine) (base : Debugger) (steps : List Step) (text : List ℕ) (d : Debugger) → Reaches plan base steps text d → d.order ≡ base.order
reach-order plan base steps text d Begins = refl
reach-order plan base steps text d (Turns before own told old mid new result r awaits turned asks-it) =
    due-order (due_behind result mid) mid new own asks-it ∙ turned-order old mid result turned ∙ reach-order plan base before told old r
reach-order plan base steps text d (Asks before told old new command r opened unrefused asked) = ap (λ (x : Debugger). x.order) asked.is ∙ reach-order plan base before told old r
reach-order plan base steps text d (Feeds before told old new bytes r awaits turned fits) = turned-order old new (Ok read.Nothing) turned ∙ reach-order plan base before told old r
reach-order plan base steps text d (Takes before told old bytes r front) = reach-order plan base before told old r
reach-order plan base steps text d (Passes before told old line more r tickets there tells) = reach-order plan base before told old r

-- the steps behind a turn
pub are-turned : (plan done : List PlanLine) (base : Debugger) (steps own : List Step) (text : List ℕ) (old mid new : Debugger) (r : Read) → AreSteps base.order done steps → Reaches plan base steps text old
    → TurnsAt (front_of old.end) old (Ok r) mid → AsksDue (due_behind (Ok r) mid) mid new own → AreSteps base.order done (steps ++ own)
are-turned plan done base steps own text old mid new r are reached turned asks-it =
    are-due base.order done steps own (read_meaning r) mid new (turned-order old mid (Ok r) turned ∙ reach-order plan base steps text old reached) asks-it are

pub along-turned : (plan done : List PlanLine) (base : Debugger) (own : List Step) (text : List ℕ) (old mid new : Debugger) (r : Read) → ReachesBy plan base done text old → Awaits plan done old
    → TurnsAt (front_of old.end) old (Ok r) mid → AsksDue (due_behind (Ok r) mid) mid new own → ReachesBy plan base done (text ++ lines_of (Ok r) mid) new
along-turned plan done base own text old mid new r (steps, are, reached) awaits turned asks-it = (
  steps ++ own,
  are-turned plan done base steps own text old mid new r are reached turned asks-it,
  reach-turned plan done base steps own text old mid new (Ok r) are reached awaits turned asks-it,
)

-- events of which something may be told, as the code does them
use Rattle.std.proofs.Common.{◌≡◌, ◌≤◌, ◌<◌, ◌+◌, ℕ, Bool, true, false, ◌||◌, not, Option, Some, None, is_some, List, [], ◌∷◌, ◌++◌, length, map, Ok, Bor, refl, sym, ◌∙◌, ap, subst, arith}
use Rattle.std.proofs.lemmas.List.{append-nil, append_assoc, length-append, map-append}
use Rattle.jdwp_link.specs.Queue.{Queue}
use Rattle.jdwp_wire.specs.Streams.{Fault, More, NextMessage, Whole}
use Rattle.jdwp_end.specs.Ends.{front_of, is_open, is_open_phase, most_outgoing}
use Rattle.jdwp_event.specs.Composites.{CompositeMeaning}
use Rattle.jdwp_machine.specs.Meanings.{Meaning}
use Rattle.jdwp_action.specs.Actions.{Command}
use Rattle.jdwp_debugger.specs.Asking.{HasAsked}
use Rattle.jdwp_debugger.specs.Debuggers.{Asked, Debugger, Unanswered, at_place, has_tickets, is_front, seen_unanswered, tickets_of, unanswered}
use Rattle.jdwp_debugger.specs.declared.pending.Ticket.{Ticket}
use Rattle.jdwp_debugger.specs.Debuggers as debuggers
use Rattle.jdwp_debugger.specs.DebuggerTurns.{TurnsAt}
use Rattle.jdwp_debugger.specs.DebuggerTurns as turns
use Rattle.jdwp_debugger.specs.declared.turning.Read.{Read}
use Rattle.jdwp_debugger.specs.declared.turning.Read.TheVariants as read
use Rattle.jdwp_model.specs.Events
use Rattle.jdwp_model.specs.Events.{LinkEvent}
use Rattle.jdwp_model.specs.World.{is_closed}
use Rattle.jdwp_link.specs.declared.events.Outcome.{Outcome}
use Rattle.jdwp_link.specs.declared.events.Outcome.TheVariants as outcome
use Rattle.jdwp_link.specs.Clauses.{Goes}
use Rattle.jdwp_link.specs.EventParts.{AsksSo, is_left, lost_of, lost_where, outcomes_of, seen_of, settled, settled_bytes, settled_debugger, told_did}
use Rattle.jdwp_link.specs.Insides.{DebuggerKeeps, IsRightLink, TargetKeeps, link_of}
use Rattle.jdwp_link.specs.Laws.{FindsMessages, HoldsOfWorlds, Laws}
use Rattle.jdwp_link.specs.Links.{Link, debugger_lost, way_to_target}
use Rattle.jdwp_link.specs.Told.{told_outcomes}
use Rattle.jdwp_link.proofs.Going.{goes-debugger-loses, goes-told}
use Rattle.jdwp_link.proofs.Keeping.{debugger-lost-right, queue-fits, right-after, small-limits}
use Rattle.jdwp_link.proofs.Losing.{none-lost}
use Rattle.jdwp_link.proofs.Settling.{goes-read, none-left}
use Rattle.jdwp_link.proofs.Turning.{front-closed}

-- an event goes, this is told of it, and the link is right after it
pub record Does {S : Type 0} (m : Meaning S) (e : LinkEvent) (old new : Link S) (os : List Outcome) (to from : ℕ) : Type 0 where
  pub goes : Goes m e old new os
  pub right : IsRightLink m new to from

does-at : {S : Type 0} (m : Meaning S) (e : LinkEvent) (old new : Link S) (os : List Outcome) (to from to_new : ℕ) → to_new ≡ to → Does m e old new os to from → Does m e old new os to_new from
does-at m e old new os to from to_new a d = record { goes = d.goes; right = subst (λ n. IsRightLink m new n from) (sym a) d.right }

-- ---- a command

asked-open : (c : Command) (d after : Debugger) → HasAsked c d after → is_open after.end ≡ true
asked-open c d after h = ap (λ (q : Debugger). is_open q.end) h.is ∙ ap is_open_phase h.established

ask-fits : {S : Type 0} (l : Link S) (c : Command) (o : Outcome) (after : Debugger) (to : ℕ) → length (way_to_target l) ≤ to → AsksSo c l.debugger o after → is_open after.end ≡ false → length (l.to_target ++ after.end.outgoing) ≤ to
ask-fits l c (outcome.Asked ticket) after to fits (none, is, asked) shut = let live : is_open after.end ≡ true = asked-open c l.debugger after asked in absurd (cc)
ask-fits l c (outcome.Refused refused) after to fits (is, same) shut = subst (λ (d : Debugger). length (l.to_target ++ d.end.outgoing) ≤ to) (sym same) fits
ask-fits l c (outcome.Answered ticket answer) after to fits h shut = absurd h
ask-fits l c (outcome.Lost ticket) after to fits h shut = absurd h
ask-fits l c (outcome.Seen composite) after to fits h shut = absurd h

pub ask-done : {S : Type 0} (m : Meaning S) (l : Link S) (c : Command) (o : Outcome) (after : Debugger) (to from : ℕ) → FindsMessages → IsRightLink m l to from → DebuggerKeeps l.debugger → AsksSo c l.debugger o after → TargetKeeps l.target.end → DebuggerKeeps after
    → Does m (Events.Ask c) l (record l { debugger = after; did = false }) (o ∷ []) to from
ask-done m l c o after to from finds right keeps so target debugger =
    let goes = goes-told m l c o after finds keeps so in
    record {
      goes = goes;
      right = right-after m (Events.Ask c) l (record l { debugger = after; did = false }) (o ∷ []) to from right goes refl target debugger
          (λ shut. ask-fits l c o after to right.to_target_fits so shut) (λ lost. queue-fits l.to_debugger l.target.end.outgoing from right.to_debugger_fits);
    }

-- ---- a loss

pub loses-done : {S : Type 0} (m : Meaning S) → HoldsOfWorlds m → (l : Link S) (q q_new : Queue) (d : Debugger) (from : ℕ) → IsRightLink m l q.capacity from → q.bytes ≡ l.to_target
    → d ≡ debuggers.lost_debugger (debuggers.with_taken l.debugger.end.outgoing l.debugger) → q_new ≡ record q { bytes = q.bytes ++ l.debugger.end.outgoing } → TargetKeeps l.target.end → DebuggerKeeps d
    → Does m Events.DebuggerLoses l (link_of l.target d q_new.bytes l.to_debugger false) (lost_of (tickets_of l.debugger.pending)) q_new.capacity from
loses-done {S} m worlds l q q_new d from right a lost kept target debugger =
    let os = lost_of (tickets_of l.debugger.pending) in
    let is : link_of l.target d q_new.bytes l.to_debugger false ≡ record (debugger_lost l) { did = false } =
    ap (λ x. link_of l.target x q_new.bytes l.to_debugger false) lost
    ∙ ap (λ x. link_of l.target (debuggers.lost_debugger (debuggers.with_taken l.debugger.end.outgoing l.debugger)) x l.to_debugger false) (ap (λ (x : Queue). x.bytes) kept ∙ ap (λ b. b ++ l.debugger.end.outgoing) a) in
    let goes = goes-debugger-loses m worlds l in
    does-at m Events.DebuggerLoses l (link_of l.target d q_new.bytes l.to_debugger false) os q.capacity from q_new.capacity (ap (λ (x : Queue). x.capacity) kept)
    (subst (λ x. Does m Events.DebuggerLoses l x os q.capacity from) (sym is)
    (record { goes = goes; right = debugger-lost-right m l os q.capacity from Events.DebuggerLoses right goes target (subst (λ (x : Link S). DebuggerKeeps x.debugger) is debugger) }))

-- ---- a turn

settled-is : {S : Type 0} (l : Link S) (b : Bool) (after d : Debugger) (bytes : List ℕ) (did : Bool) → d ≡ settled_debugger b after → bytes ≡ settled_bytes b after l.to_target
    → link_of l.target d bytes l.to_debugger did ≡ settled b (record l { debugger = after; did = did })
settled-is l true after d bytes did e f = ap (λ x. link_of l.target x bytes l.to_debugger did) e ∙ ap (λ x. link_of l.target (debuggers.lost_debugger (debuggers.with_taken after.end.outgoing after)) x l.to_debugger did) f
settled-is l false after d bytes did e f = ap (λ x. link_of l.target x bytes l.to_debugger did) e ∙ ap (λ x. link_of l.target after x l.to_debugger did) f

settled-fits : (b : Bool) (after d : Debugger) (bytes kept : List ℕ) (to : ℕ) → d ≡ settled_debugger b after → bytes ≡ settled_bytes b after kept → length (kept ++ after.end.outgoing) ≤ to → length (bytes ++ d.end.outgoing) ≤ to
settled-fits true after d bytes kept to e f fits =
    let is : bytes ++ d.end.outgoing ≡ kept ++ after.end.outgoing = ap (λ (x : Debugger). bytes ++ x.end.outgoing) e ∙ (append-nil bytes ∙ f) in
    subst (λ b. length b ≤ to) (sym is) fits
settled-fits false after d bytes kept to e f fits =
    let is : bytes ++ d.end.outgoing ≡ kept ++ after.end.outgoing = ap (λ (x : Debugger). bytes ++ x.end.outgoing) e ∙ ap (λ b. b ++ after.end.outgoing) f in
    subst (λ b. length b ≤ to) (sym is) fits

settled-limits : {S : Type 0} (b : Bool) (l : Link S) → (settled b l).debugger.end.limits ≡ (settled b l).target.settings.limits → l.debugger.end.limits ≡ l.target.settings.limits
settled-limits true l e = e
settled-limits false l e = e

turn-fits : {S : Type 0} (m : Meaning S) (l : Link S) (r : Read) (after : Debugger) (to from : ℕ) (b : Bool) → is_open l.debugger.end ≡ b → IsRightLink m l to from → TurnsAt (front_of l.debugger.end) l.debugger (Ok r) after → DebuggerKeeps after
    → after.end.limits ≡ l.target.settings.limits → length (l.to_target ++ after.end.outgoing) ≤ to
turn-fits m l r after to from true o right so keeps same =
    let s = right.is_link.stands in
    let unshut : is_closed right.is_link.world.debugger ≡ false = ap not (ap is_open_phase (sym s.parts.debugger.phase) ∙ o) in
    let way : length (l.to_target ++ after.end.outgoing) ≡ length after.end.outgoing = ap (λ b. length (b ++ after.end.outgoing)) (s.parts.to.kept unshut) in
    let most : length after.end.outgoing ≤ most_outgoing after.end.limits = keeps.most in
    let limits = ap most_outgoing same in
    let room = right.to_target_room in
    omega arith
turn-fits m l r after to from false o right so keeps same =
    let (told, is) = subst (λ f. TurnsAt f l.debugger (Ok r) after) (front-closed l.debugger.end l.debugger.end.phase refl (ap not o)) so in
    subst (λ (d : Debugger). length (l.to_target ++ d.end.outgoing) ≤ to) (sym is) right.to_target_fits

-- there is room for what waits to leave
pub read-fits : {S : Type 0} (m : Meaning S) → HoldsOfWorlds m → (l : Link S) (r : Read) (after : Debugger) (to from : ℕ) → Laws m → IsRightLink m l to from → DebuggerKeeps l.debugger → TurnsAt (front_of l.debugger.end) l.debugger (Ok r) after → DebuggerKeeps after
    → length (l.to_target ++ after.end.outgoing) ≤ to
read-fits m worlds l r after to from laws right keeps so after-keeps =
    let goes = goes-read m worlds l r after laws (small-limits m l right.is_link keeps) keeps so in
    turn-fits m l r after to from (is_open l.debugger.end) refl right so after-keeps
    (settled-limits (is_left after) (record l { debugger = after; did = told_did (turns.read_meaning r) }) (goes.stands right.is_link.world right.is_link.stands).parts.debugger.limits)

pub room-to-keep : (kept outgoing : List ℕ) (to : ℕ) → length (kept ++ outgoing) ≤ to → length kept + length outgoing ≤ to
room-to-keep kept outgoing to h = let e = length-append kept outgoing in omega arith

pub read-done : {S : Type 0} (m : Meaning S) → HoldsOfWorlds m → (l : Link S) (r : Read) (after d : Debugger) (q q_new : Queue) (did : Bool) (from : ℕ) → Laws m → IsRightLink m l q.capacity from → q.bytes ≡ l.to_target → DebuggerKeeps l.debugger
    → TurnsAt (front_of l.debugger.end) l.debugger (Ok r) after → DebuggerKeeps after → did ≡ told_did (turns.read_meaning r)
    → d ≡ settled_debugger (is_left after) after → q_new ≡ record q { bytes = settled_bytes (is_left after) after q.bytes } → TargetKeeps l.target.end → DebuggerKeeps d
    → Does m Events.DebuggerTurn l (link_of l.target d q_new.bytes l.to_debugger did) (told_outcomes (outcomes_of (turns.read_meaning r)) ++ lost_where (is_left after) after) q_new.capacity from
read-done {S} m worlds l r after d q q_new did from laws right a keeps so after-keeps told-is lost kept target debugger =
    let os = told_outcomes (outcomes_of (turns.read_meaning r)) ++ lost_where (is_left after) after in
    let new : Link S = link_of l.target d q_new.bytes l.to_debugger did in
    let bytes : q_new.bytes ≡ settled_bytes (is_left after) after l.to_target = ap (λ (x : Queue). x.bytes) kept ∙ ap (settled_bytes (is_left after) after) a in
    let is : new ≡ settled (is_left after) (record l { debugger = after; did = told_did (turns.read_meaning r) }) =
    ap (λ b. link_of l.target d q_new.bytes l.to_debugger b) told-is ∙ settled-is l (is_left after) after d q_new.bytes (told_did (turns.read_meaning r)) lost bytes in
    let goes : Goes m Events.DebuggerTurn l new os = subst (λ n. Goes m Events.DebuggerTurn l n os) (sym is) (goes-read m worlds l r after laws (small-limits m l right.is_link keeps) keeps so) in
    let fits = read-fits m worlds l r after q.capacity from laws right keeps so after-keeps in
    does-at m Events.DebuggerTurn l new os q.capacity from q_new.capacity (ap (λ (x : Queue). x.capacity) kept)
    (record {
      goes = goes;
      right = right-after m Events.DebuggerTurn l new os q.capacity from right goes refl target debugger
          (λ shut. settled-fits (is_left after) after d q_new.bytes l.to_target q.capacity lost bytes fits) (λ gone. queue-fits l.to_debugger l.target.end.outgoing from right.to_debugger_fits);
    })

is-more : (f : NextMessage) → is_front f ≡ false → f ≡ More
is-more (Whole message used) h = absurd (cc)
is-more (Fault fault) h = absurd (cc)
is-more More h = refl

-- a turn at which there is nothing to handle
pub waits-done : {S : Type 0} (m : Meaning S) → HoldsOfWorlds m → (l : Link S) (after : Debugger) (to from : ℕ) → Laws m → IsRightLink m l to from → DebuggerKeeps l.debugger → is_front (front_of l.debugger.end) ≡ false
    → TurnsAt (front_of l.debugger.end) l.debugger (Ok read.Nothing) after → TargetKeeps l.target.end → DebuggerKeeps after → Does m Events.DebuggerTurn l (record l { debugger = after; did = false }) [] to from
waits-done {S} m worlds l after to from laws right keeps none so target debugger =
    let (told, is) = subst (λ f. TurnsAt f l.debugger (Ok read.Nothing) after) (is-more (front_of l.debugger.end) none) so in
    let s = right.is_link.stands in
    let left : is_left after ≡ false = ap is_left is ∙ none-left m l.target.settings (m.sizes l.target.moment.machine) l right.is_link.world (is_closed right.is_link.world.debugger) s.parts refl in
    let goes : Goes m Events.DebuggerTurn l (record l { debugger = after; did = false }) [] =
    subst (λ b. Goes m Events.DebuggerTurn l (settled b (record l { debugger = after; did = false })) (lost_where b after)) left (goes-read m worlds l read.Nothing after laws (small-limits m l right.is_link keeps) keeps so) in
    record {
      goes = goes;
      right = right-after m Events.DebuggerTurn l (record l { debugger = after; did = false }) [] to from right goes refl target debugger
          (λ shut. subst (λ (d : Debugger). length (l.to_target ++ d.end.outgoing) ≤ to) (sym is) right.to_target_fits) (λ gone. queue-fits l.to_debugger l.target.end.outgoing from right.to_debugger_fits);
    }

-- ---- composites

pub seen-told : (cs : List CompositeMeaning) → seen_of cs ≡ told_outcomes (map Events.Seen cs)
seen-told [] = refl
seen-told (c ∷ cs) = ap (λ os. outcome.Seen c ∷ os) (seen-told cs)

-- ---- what a debugger has

pub nothing-read : (d : Debugger) (r : Read) (after : Debugger) → is_front (front_of d.end) ≡ false → TurnsAt (front_of d.end) d (Ok r) after → TurnsAt (front_of d.end) d (Ok read.Nothing) after
nothing-read d r after none so =
    let more = is-more (front_of d.end) none in
    let (told, is) = subst (λ f. TurnsAt f d (Ok r) after) more so in
    subst (λ f. TurnsAt f d (Ok read.Nothing) after) (sym more) (refl, is)

first-place : (p : Asked) (ticket : Option Ticket) (ps : List Asked) (first : Option Unanswered) → at_place (unanswered (record p { ticket = ticket } ∷ ps)) 0 ≡ first → (is_some (at_place (unanswered ps) 0) ≡ has_tickets ps)
    → is_some first ≡ (is_some ticket || has_tickets ps)
first-place p None ps first is rest = ap is_some (sym is) ∙ rest
first-place p (Some k) ps first is rest = ap is_some (sym is)

first-waits : (ps : List Asked) → is_some (at_place (unanswered ps) 0) ≡ has_tickets ps
first-waits [] = refl
first-waits (p ∷ ps) = first-place p p.ticket ps (at_place (unanswered (p ∷ ps)) 0) refl (first-waits ps)

seen-some : (o : Option (Ticket × Bor Command)) → is_some o ≡ is_some (seen_unanswered o)
seen-some None = refl
seen-some (Some p) = refl

pub first-ticket : (ps : List Asked) (o : Option (Ticket × Bor Command)) → seen_unanswered o ≡ at_place (unanswered ps) 0 → is_some o ≡ has_tickets ps
first-ticket ps o is = seen-some o ∙ (ap is_some is ∙ first-waits ps)

-- ---- composites that are taken out of a list

pub nothing-left : {X : Type 0} (l : List X) → length l ≡ 0 → l ≡ []
nothing-left [] h = refl
nothing-left (x ∷ xs) h = absurd (omega arith)

pub yielded-room : {X : Type 0} (yielded left all : List X) (x : X) (rest : List X) → yielded ++ left ≡ all → left ≡ x ∷ rest → length yielded < length all
yielded-room yielded left all x rest whole steps =
    let e = length-append yielded left in
    let f = ap length whole in
    let g = ap length steps in
    omega arith

pub seen-more : (before now after : List Outcome) (yielded : List CompositeMeaning) (c : CompositeMeaning) → after ≡ now ++ outcome.Seen c ∷ [] → now ≡ before ++ seen_of yielded → after ≡ before ++ seen_of (yielded ++ c ∷ [])
seen-more before now after yielded c one so_far =
    one ∙ (ap (λ os. os ++ outcome.Seen c ∷ []) so_far ∙ (append_assoc before (seen_of yielded) (outcome.Seen c ∷ []) ∙ ap (λ os. before ++ os) (sym (map-append (λ (x : CompositeMeaning). outcome.Seen x) yielded (c ∷ [])))))

lost-room-by : (b : Bool) (pending : List Asked) (tickets : List Ticket) (len cap : ℕ) → has_tickets pending ≡ b → tickets ≡ tickets_of pending → length tickets ≤ 1024 → (has_tickets pending ≡ true → len + 1024 ≤ cap) → 0 < length tickets → len + length tickets ≤ cap
lost-room-by true pending tickets len cap h is few room some = let r = room h in omega arith
lost-room-by false pending tickets len cap h is few room some = let none : length tickets ≡ 0 = ap length (is ∙ none-lost pending h) in absurd (omega arith)

-- there is room to tell the tickets that are lost
pub lost-room : (pending : List Asked) (tickets : List Ticket) (len cap : ℕ) → tickets ≡ tickets_of pending → length tickets ≤ 1024 → (has_tickets pending ≡ true → len + 1024 ≤ cap) → 0 < length tickets → len + length tickets ≤ cap
lost-room pending tickets len cap is few room some = lost-room-by (has_tickets pending) pending tickets len cap refl is few room some

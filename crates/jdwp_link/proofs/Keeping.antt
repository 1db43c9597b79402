-- what every link keeps inside, after each event
use Rattle.std.proofs.Common.{◌≡◌, ◌≤◌, ◌<◌, ◌^◌, ℕ, Bool, true, false, not, cond, List, [], ◌++◌, length, drop, refl, sym, ◌∙◌, ap, subst, arith}
use Rattle.std.proofs.lemmas.List.{append-nil, length-append, length-drop}
use Rattle.jdwp_end.specs.Ends.{is_open, is_open_phase, most_outgoing, room_of}
use Rattle.jdwp_machine.specs.Meanings.{Meaning}
use Rattle.jdwp_target.specs.Targets.{Target}
use Rattle.jdwp_model.specs.Events.{LinkEvent}
use Rattle.jdwp_model.specs.Next.{next}
use Rattle.jdwp_model.specs.World.{is_closed, World}
use Rattle.jdwp_link.specs.declared.events.Outcome.{Outcome}
use Rattle.jdwp_link.specs.Clauses.{Goes, measure_of}
use Rattle.jdwp_link.specs.Insides.{DebuggerKeeps, IsRightLink, TargetKeeps}
use Rattle.jdwp_link.specs.Links.{Link, idle, attached, attaches, may_attach, come_to_debugger, come_to_target, debugger_lost, delivered_to_debugger, delivered_to_target, target_lost, way_to_debugger, way_to_target}
use Rattle.jdwp_link.specs.Stands.{IsLink, StandsFor}
use Rattle.jdwp_link.proofs.Cuts.{at-most, left-after}

-- ---- limits

pub small-limits : {S : Type 0} (m : Meaning S) (l : Link S) → IsLink m l → DebuggerKeeps l.debugger → l.target.settings.limits.packet < 2 ^ 32
small-limits m l link keeps =
    let same = ap (λ n. n.packet) link.stands.parts.debugger.limits in
    let most = keeps.limits.packet_most in
    omega arith

-- ---- after an event

either : (b : Bool) (P : Type 0) → (b ≡ true → P) → (b ≡ false → P) → P
either true P f g = f refl
either false P f g = g refl

open-way : {S : Type 0} (m : Meaning S) (l : Link S) (x : World S) → StandsFor m l x → DebuggerKeeps l.debugger → is_open l.debugger.end ≡ true → length (way_to_target l) ≤ most_outgoing l.target.settings.limits
open-way m l x s keeps o =
    let unshut : is_closed x.debugger ≡ false = ap not (ap is_open_phase (sym s.parts.debugger.phase) ∙ o) in
    let way : length (way_to_target l) ≡ length l.debugger.end.outgoing = ap (λ b. length (b ++ l.debugger.end.outgoing)) (s.parts.to.kept unshut) in
    let same = ap most_outgoing s.parts.debugger.limits in
    let most = keeps.most in
    omega arith

kept-way : {S : Type 0} (m : Meaning S) (l : Link S) (x : World S) → StandsFor m l x → TargetKeeps l.target.end → l.target.end.session.lost ≡ false → length (way_to_debugger l) ≤ most_outgoing l.target.settings.limits
kept-way m l x s keeps o =
    let unlost : x.lost ≡ false = sym s.parts.target.lost ∙ o in
    let way : length (way_to_debugger l) ≡ length l.target.end.outgoing = ap (λ b. length (b ++ l.target.end.outgoing)) (s.parts.from.kept unlost) in
    let same = ap most_outgoing s.parts.target.limits in
    let most = keeps.most in
    omega arith

pub right-after : {S : Type 0} (m : Meaning S) (e : LinkEvent) (old new : Link S) (os : List Outcome) (to from : ℕ) → IsRightLink m old to from → Goes m e old new os → new.target.settings ≡ old.target.settings → TargetKeeps new.target.end → DebuggerKeeps new.debugger
    → (is_open new.debugger.end ≡ false → length (way_to_target new) ≤ to) → (new.target.end.session.lost ≡ true → length new.to_debugger ≤ from) → IsRightLink m new to from
right-after m e old new os to from right g same target debugger shut lost =
    let x = right.is_link.world in
    let s = g.stands x right.is_link.stands in
    let y = (next m old.target.settings (measure_of m old) x e).0 in
    let limits : most_outgoing old.target.settings.limits ≡ most_outgoing new.target.settings.limits = ap (λ u. most_outgoing u.limits) (sym same) in
    record {
      is_link = record { world = y; stands = s };
      to_target_room = right.to_target_room ∙ limits;
      to_debugger_room = right.to_debugger_room ∙ limits;
      to_target_fits = either (is_open new.debugger.end) (length (way_to_target new) ≤ to) (λ o. subst (λ n. length (way_to_target new) ≤ n) (sym (right.to_target_room ∙ limits)) (open-way m new y s debugger o)) shut;
      to_debugger_fits = either new.target.end.session.lost (length (way_to_debugger new) ≤ from)
          (λ o. let none : length (way_to_debugger new) ≡ length new.to_debugger = ap (λ b. length (new.to_debugger ++ b)) (target.emptied o) ∙ ap length (append-nil new.to_debugger) in let few = lost o in omega arith)
          (λ o. subst (λ n. length (way_to_debugger new) ≤ n) (sym (right.to_debugger_room ∙ limits)) (kept-way m new y s target o));
    }

-- what a queue has is under way
pub queue-fits : (queue outgoing : List ℕ) (most : ℕ) → length (queue ++ outgoing) ≤ most → length queue ≤ most
queue-fits queue outgoing most h = let e = length-append queue outgoing in omega arith

-- ---- each of them

attach-shut : {S : Type 0} (l : Link S) (b : Bool) (to : ℕ) → length (way_to_target l) ≤ to → is_open (cond b (attached l) (idle l)).debugger.end ≡ false → length (way_to_target (cond b (attached l) (idle l))) ≤ to
attach-shut l true to h o = absurd (cc)
attach-shut l false to h o = h

attach-lost : {S : Type 0} (l : Link S) (b : Bool) (from : ℕ) → length (way_to_debugger l) ≤ from → (cond b (attached l) (idle l)).target.end.session.lost ≡ true → length (cond b (attached l) (idle l)).to_debugger ≤ from
attach-lost l true from h o = absurd (cc)
attach-lost l false from h o = queue-fits l.to_debugger l.target.end.outgoing from h

attach-settings : {S : Type 0} (l : Link S) (b : Bool) → (cond b (attached l) (idle l)).target.settings ≡ l.target.settings
attach-settings l true = refl
attach-settings l false = refl

pub attach-right : {S : Type 0} (m : Meaning S) (old new : Link S) (to from : ℕ) (e : LinkEvent) → IsRightLink m old to from → new ≡ attaches old → Goes m e old new [] → TargetKeeps new.target.end → DebuggerKeeps new.debugger → IsRightLink m new to from
attach-right m old new to from e right is g target debugger =
    right-after m e old new [] to from right g (ap (λ l. l.target.settings) is ∙ attach-settings old (may_attach old)) target debugger
    (λ o. subst (λ l. length (way_to_target l) ≤ to) (sym is) (attach-shut old (may_attach old) to right.to_target_fits (ap (λ l. is_open l.debugger.end) (sym is) ∙ o)))
    (λ o. subst (λ l. length l.to_debugger ≤ from) (sym is) (attach-lost old (may_attach old) from right.to_debugger_fits (ap (λ l. l.target.end.session.lost) (sym is) ∙ o)))

pub to-target-right : {S : Type 0} (m : Meaning S) (old : Link S) (n to from : ℕ) (e : LinkEvent) → IsRightLink m old to from → Goes m e old (delivered_to_target (come_to_target n old) old) []
    → TargetKeeps (delivered_to_target (come_to_target n old) old).target.end → DebuggerKeeps (delivered_to_target (come_to_target n old) old).debugger → IsRightLink m (delivered_to_target (come_to_target n old) old) to from
to-target-right m old n to from e right g target debugger =
    let le = (at-most n (length (way_to_target old)) (room_of old.target.end)).1 in
    let way = ap length (left-after _ old.to_target old.debugger.end.outgoing le) ∙ length-drop _ (way_to_target old) in
    let fits = right.to_target_fits in
    right-after m e old (delivered_to_target (come_to_target n old) old) [] to from right g refl target debugger
    (λ o. omega (way, fits, arith)) (λ o. queue-fits old.to_debugger old.target.end.outgoing from right.to_debugger_fits)

pub to-debugger-right : {S : Type 0} (m : Meaning S) (old : Link S) (n to from : ℕ) (e : LinkEvent) → IsRightLink m old to from → Goes m e old (delivered_to_debugger (come_to_debugger n old) old) []
    → TargetKeeps (delivered_to_debugger (come_to_debugger n old) old).target.end → DebuggerKeeps (delivered_to_debugger (come_to_debugger n old) old).debugger → IsRightLink m (delivered_to_debugger (come_to_debugger n old) old) to from
to-debugger-right m old n to from e right g target debugger =
    let bytes = come_to_debugger n old in
    let few : length (drop (length bytes) old.to_debugger) ≤ length old.to_debugger = let d = length-drop (length bytes) old.to_debugger in omega arith in
    let fits = queue-fits old.to_debugger old.target.end.outgoing from right.to_debugger_fits in
    right-after m e old (delivered_to_debugger bytes old) [] to from right g refl target debugger (λ o. right.to_target_fits) (λ o. omega (few, fits, arith))

pub target-lost-right : {S : Type 0} (m : Meaning S) (old : Link S) (to from : ℕ) (e : LinkEvent) → IsRightLink m old to from → Goes m e old (target_lost old) [] → TargetKeeps (target_lost old).target.end → DebuggerKeeps old.debugger → IsRightLink m (target_lost old) to from
target-lost-right m old to from e right g target debugger = right-after m e old (target_lost old) [] to from right g refl target debugger (λ o. right.to_target_fits) (λ o. right.to_debugger_fits)

pub debugger-lost-right : {S : Type 0} (m : Meaning S) (old : Link S) (os : List Outcome) (to from : ℕ) (e : LinkEvent) → IsRightLink m old to from → Goes m e old (record (debugger_lost old) { did = false }) os
    → TargetKeeps old.target.end → DebuggerKeeps (debugger_lost old).debugger → IsRightLink m (record (debugger_lost old) { did = false }) to from
debugger-lost-right m old os to from e right g target debugger =
    right-after m e old (record (debugger_lost old) { did = false }) os to from right g refl target debugger
    (λ o. subst (λ b. length b ≤ to) (sym (append-nil (way_to_target old))) right.to_target_fits) (λ o. queue-fits old.to_debugger old.target.end.outgoing from right.to_debugger_fits)

-- the target alone changes
pub target-right : {S : Type 0} (m : Meaning S) (old : Link S) (target : Target S) (did : Bool) (to from : ℕ) (e : LinkEvent) → IsRightLink m old to from → Goes m e old (record old { target = target; did = did }) [] → target.settings ≡ old.target.settings
    → TargetKeeps target.end → DebuggerKeeps old.debugger → IsRightLink m (record old { target = target; did = did }) to from
target-right m old target did to from e right g same keeps debugger =
    right-after m e old (record old { target = target; did = did }) [] to from right g same keeps debugger (λ o. right.to_target_fits) (λ o. queue-fits old.to_debugger old.target.end.outgoing from right.to_debugger_fits)

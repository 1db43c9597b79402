-- the theorems: each act leads on, and what holds of the world holds of the two programs
use Rattle.std.proofs.Common.{ℕ, List, [], ◌∷◌, ◌++◌, refl, arith}
use Rattle.jdwp_wire.specs.Widths.{Widths}
use Rattle.jdwp_machine.specs.Meanings.{Meaning}
use Rattle.jdwp_debuggee.specs.Settings.{Settings}
use Rattle.jdwp_target.specs.Turns.{is_frozen}
use Rattle.jdwp_model.specs.Given.{TellsWhatWasGiven}
use Rattle.jdwp_model.specs.Tickets.{SettlesOnce}
use Rattle.jdwp_model.specs.World.{World, opening}
use Rattle.jdwp_link.specs.Laws.{HoldsOfWorlds, Laws}
use Rattle.jdwp_link.specs.Stands.{Parts}
use Rattle.jdwp_across.specs.Headline.{HoldsAcross, MayRelyOn, MayStart, SuspendsWhatIsHeld}
use Rattle.jdwp_across.specs.Merges.{Agrees, Merged, More, Start}
use Rattle.jdwp_across.specs.Programs.{Act, ComesToDebugger, ComesToTarget, Connects, DebuggerAsks, DebuggerLoses, DebuggerNumbers, DebuggerTurns, Does, LeavesDebugger, LeavesTarget, Programs, TargetDefers, TargetLoses, TargetReleases, TargetSteps, TargetTurns, new_programs}
use Rattle.jdwp_across.specs.Standing.{joined}
use Rattle.jdwp_across.proofs.DebuggerActs.{asks-debugger, comes-to-debugger, leaves-debugger, loses-at-debugger, numbers-debugger, turns-debugger}
use Rattle.jdwp_across.proofs.Holding.{LinkStands, counts-at-most, holds-suspended, mirrors-seen, stays-true}
use Rattle.jdwp_across.proofs.Keeping.{act-keeps, new-keeps}
use Rattle.jdwp_across.proofs.Onward.{SettlesFrom, TellsFrom, opening-onward, opening-settles, opening-tells}
use Rattle.jdwp_across.proofs.Reached.{known-across}
use Rattle.jdwp_across.proofs.Refusals.{debugger-fails, target-fails}
use Rattle.jdwp_across.proofs.Settling.{settles-once, tells-given}
use Rattle.jdwp_across.proofs.Standing.{Standing, Stands}
use Rattle.jdwp_across.proofs.TargetActs.{comes-to-target, connects, defers-target, leaves-target, loses-at-target, releases-target, steps-target, turns-target}

-- ---- before the first session

opening-parts : {S : Type 0} (m : Meaning S) (settings : Settings) (s : S) (id : ℕ) → Parts m settings (m.sizes s) (joined (new_programs m settings s id).target (new_programs m settings s id).debugger) (opening m s)
opening-parts m settings s id = record {
  target = record { same_settings = refl; limits = refl; sizes = refl; now = refl; phase = refl; lost = refl; deferring = refl };
  debugger = record {
    order = refl;
    limits = refl;
    phase = refl;
    tickets = refl;
    mirror = record { counts = λ t. refl; held = λ t. refl; requests = refl };
    opened = λ o. absurd (cc);
    none_waits = λ c. refl;
  };
  to = record { wires = []; calls = refl; sent = tt; cut = record { number = omega arith; there = λ o. refl; left = refl }; kept = λ o. refl };
  deferred = record { wires = []; commands = refl; messages = refl; sent = tt };
  from = record { wires = []; packets = refl; sent = tt; cut = record { number = omega arith; there = λ o. refl; left = refl }; kept = λ o. refl; awaits = λ o. absurd (cc) };
}

pub opening-stands : {S : Type 0} (m : Meaning S) → HoldsOfWorlds m → (settings : Settings) (s : S) (id : ℕ) → MayStart m settings s id → Standing m settings (m.sizes s) (opening m s) [] (new_programs m settings s id)
opening-stands m worlds settings s id start = record {
  onward = opening-onward m worlds settings s start.begins;
  world = opening m s;
  stands = record { reached = record { is = refl; tells = refl }; parts = opening-parts m settings s id };
  keeps = new-keeps settings.limits id start.limits start.id_fits;
  agrees = record { to_target = ([], refl); to_debugger = ([], refl) };
}

-- ---- an act

pub leads-on : {S : Type 0} (m : Meaning S) (settings : Settings) (w : Widths) (first : World S) (acts : List Act) (act : Act) (old new : Programs S) → Laws m → Standing m settings w first acts old → Agrees new → Does m act old new → Stands m settings w first (acts ++ act ∷ []) new
leads-on m settings w first acts Connects old new laws b then (shut, unheard, lives, is) = connects m settings w first acts old new laws b shut unheard lives is
leads-on m settings w first acts (ComesToTarget bytes) old new laws b then is = comes-to-target m settings w first acts old new bytes b then is
leads-on m settings w first acts (LeavesTarget bytes) old new laws b then is = leaves-target m settings w first acts old new bytes b is
leads-on m settings w first acts (TargetTurns turn) old new laws b then (so, encoded, sends, same) = turns-target m settings w first acts old new turn laws b so encoded sends same
leads-on m settings w first acts (TargetReleases place turn) old new laws b then (so, encoded, sends, same) = releases-target m settings w first acts old new place turn laws b so encoded sends same
leads-on m settings w first acts (TargetSteps t stepped) old new laws b then (so, encoded, sends, same) = steps-target m settings w first acts old new t stepped (is_frozen m t old.target) refl laws b so encoded sends same
leads-on m settings w first acts (TargetDefers deferring) old new laws b then is = defers-target m settings w first acts old new deferring b is
leads-on m settings w first acts TargetLoses old new laws b then is = loses-at-target m settings w first acts old new b is
leads-on m settings w first acts (ComesToDebugger bytes) old new laws b then is = comes-to-debugger m settings w first acts old new bytes b then is
leads-on m settings w first acts (LeavesDebugger bytes) old new laws b then is = leaves-debugger m settings w first acts old new bytes b is
leads-on m settings w first acts (DebuggerAsks c ticket) old new laws b then (free-to-ask, given, asked, same) = asks-debugger m settings w first acts old new c ticket laws b free-to-ask given asked same
leads-on m settings w first acts (DebuggerNumbers id) old new laws b then (small, is) = numbers-debugger m settings w first acts old new id b is
leads-on m settings w first acts (DebuggerTurns r lost) old new laws b then (after, so, gone, is) = turns-debugger m settings w first acts old new r lost after laws b so gone is
leads-on m settings w first acts (DebuggerLoses lost) old new laws b then (gone, is) = loses-at-debugger m settings w first acts old new lost laws b gone is

-- ---- every merge

pub standing : {S : Type 0} (m : Meaning S) (settings : Settings) (w : Widths) (first : World S) (began : Programs S) (acts : List Act) (v : Programs S) → Laws m → Standing m settings w first [] began → Merged m began acts v
    → Standing m settings w first acts v
standing m settings w first began acts v laws b Start = b
standing m settings w first began acts v laws b (More before act old new merged does agrees) =
    let h = standing m settings w first began before old laws b merged in
    let after = leads-on m settings w first before act old new laws h agrees does in
    record { onward = h.onward; world = after.world; stands = after.stands; keeps = act-keeps m act old new does h.keeps; agrees = agrees }

-- what holds where both stand
pub relies-on : {S : Type 0} (m : Meaning S) → Laws m → (settings : Settings) (first : World S) (acts : List Act) (v : Programs S) → SettlesFrom m settings first → TellsFrom m settings first → Standing m settings (m.sizes first.now.machine) first acts v
    → MayRelyOn m settings first acts v
relies-on m laws settings first acts v once given h =
    let w = m.sizes first.now.machine in
    let x = h.world in
    let l = joined v.target v.debugger in
    let r = h.stands.reached in
    let stands : LinkStands m settings w first acts l x = record { onward = h.onward; reached = r; parts = h.stands.parts; own = h.keeps.own } in
    record {
      world = x;
      stands = h.stands;
      mirror = mirrors-seen m settings w first acts l x stands;
      held = holds-suspended m laws.worlds settings w first acts l x stands;
      at_most = counts-at-most m laws.worlds settings w first acts l x stands;
      stays = stays-true m laws.worlds settings w first acts l x stands;
      settles = λ k. settles-once m settings w first acts l x k once (known-across m laws.worlds settings w first acts x h.onward r) r h.stands.parts;
      tells = λ p. tells-given m settings w first acts x p given r;
      reads = record {
        target = λ f after so. target-fails m settings w first acts v f after laws h so;
        debugger = λ f after so. debugger-fails m settings w first acts v f after laws h so;
      };
    }

pub holds-across : {S : Type 0} (m : Meaning S) → Laws m → SettlesOnce m → TellsWhatWasGiven m → HoldsAcross m
holds-across m laws once given settings s id acts v start merged =
    relies-on m laws settings (opening m s) acts v (opening-settles m once settings s start.begins) (opening-tells m given settings s)
    (standing m settings (m.sizes s) (opening m s) (new_programs m settings s id) acts v laws (opening-stands m laws.worlds settings s id start) merged)

pub suspends-what-is-held : {S : Type 0} (m : Meaning S) → HoldsAcross m → SuspendsWhatIsHeld m
suspends-what-is-held m holds settings s id acts target debugger t start merged held alive unlost none unresumed =
    (holds settings s id acts (record { target = target; debugger = debugger }) start merged).held.suspended t held (record { alive = alive; not_lost = unlost; no_dispose = none }) unresumed

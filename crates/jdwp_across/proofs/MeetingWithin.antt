-- two programs that had sessions with others before, each within limits of its own, and what runs them
use Rattle.std.proofs.Common.{◌≡◌, ℕ, true, false, List, [], refl, sym, ◌∙◌, ap, subst}
use Rattle.jdwp_wire.specs.Limits.{Limits}
use Rattle.jdwp_wire.specs.Streams.{More as Waits}
use Rattle.jdwp_end.specs.Ends.{End, front_of, is_open}
use Rattle.jdwp_machine.specs.Meanings.{Meaning}
use Rattle.jdwp_debuggee.specs.Settings.{Settings}
use Rattle.jdwp_mirror.specs.KnownThreads.{is_held_in}
use Rattle.jdwp_mirror.specs.Mirrors.{Mirror, empty_mirror}
use Rattle.jdwp_target.specs.Targets.{Target}
use Rattle.jdwp_debugger.specs.Debuggers.{Debugger, attached}
use Rattle.jdwp_model.specs.Rests.{Rests}
use Rattle.jdwp_link.specs.Laws.{Laws}
use Rattle.jdwp_across.specs.Acting.{AreFirst, DebuggerDoes, DebuggerRuns, Move, both, last_of}
use Rattle.jdwp_across.specs.Meeting.{AtDebugger, AtTarget, BeginsAtOne, StandBehind, begun}
use Rattle.jdwp_across.specs.Merges.{Start}
use Rattle.jdwp_across.specs.OtherRuns.{HoldsOfServeAndAttachAfterOthers, HoldsOfTwoRunsAfterOthers, HoldsWithinAfterOthers, MayMeetWithin}
use Rattle.jdwp_across.specs.Others.{beginning}
use Rattle.jdwp_across.specs.OwnLimits.{between, debugger_within, settings_between, target_within}
use Rattle.jdwp_across.specs.Programs.{Act, Programs}
use Rattle.jdwp_across.specs.Running.{RefusesNext}
use Rattle.jdwp_across.specs.RunsHeadline.{AttachesByActs, ServesByActs}
use Rattle.jdwp_across.proofs.Keeping.{attached-keeps}
use Rattle.jdwp_across.proofs.Meeting.{begun-stands, bounds-of}
use Rattle.jdwp_across.proofs.Moving.{leads-last}
use Rattle.jdwp_across.proofs.Nobody.{forgets-shut, same-forgets, unheard-knows-nobody}
use Rattle.jdwp_across.proofs.OtherTargets.{Joined, joined-before}
use Rattle.jdwp_across.proofs.Resting.{beginning-settles, beginning-tells, beginning-whole}
use Rattle.jdwp_across.proofs.Served.{AreBounds, Served, served}
use Rattle.jdwp_across.proofs.Together.{merges-behind, stand}
use Rattle.jdwp_across.proofs.Within.{AreFit, Stays, agrees-twin, are-between, keeps-flowing, keeps-within, relies-within, stands-as, stays-on}

-- ---- within the limits of the session

bounds-within : (settings : Settings) (limits : Limits) → AreBounds settings → AreBounds (settings_between settings limits)
bounds-within settings limits b = record { least = b.least; most = b.most; packet = b.packet }

served-within : {S : Type 0} (m : Meaning S) (settings : Settings) (limits : Limits) (t : Target S) → Served m settings t → Served m (settings_between settings limits) (target_within limits t)
served-within m settings limits t h = record {
  side = record {
    sound = record { state = h.side.sound.state; lives = h.side.sound.lives; at_most = h.side.sound.at_most; below = h.side.sound.below };
    idle = h.side.idle;
    living = h.side.living;
    unlost = h.side.unlost;
    greeted = h.side.greeted;
    unborn = h.side.unborn;
  };
  same_settings = ap (λ q. settings_between q limits) h.same_settings;
  limits = ap (λ q. between q limits) h.limits;
}

joined-within : (settings : Settings) (limits : Limits) (d : Debugger) → AreFit settings limits → Joined limits d → Joined (between settings.limits limits) (debugger_within (between settings.limits limits) d)
joined-within settings limits d fit j = record {
  order = j.order;
  same_limits = refl;
  keeps = keeps-within (between settings.limits limits) d (are-between settings limits fit.target fit.debugger) j.keeps;
  forgets = same-forgets d (debugger_within (between settings.limits limits) d) refl refl j.forgets;
}

-- both as they would be within the limits of the session
abbrev old-within : {S : Type 0} → Settings → Limits → Programs S → Programs S
old-within settings limits old = both (target_within limits old.target) (debugger_within (between settings.limits limits) old.debugger)

-- all that is known of two such programs
record Meets {S : Type 0} (m : Meaning S) (settings : Settings) (limits : Limits) (old : Programs S) : Type 0 where
  bounds : AreBounds settings
  fit : AreFit settings limits
  served : Served m settings old.target
  joined : Joined limits old.debugger
  shut : is_open old.target.end ≡ false
  lives : old.target.moment.state.alive ≡ true

meets : {S : Type 0} (m : Meaning S) → Rests m → (settings : Settings) (limits : Limits) (s : S) (id : ℕ) (old : Programs S) → MayMeetWithin m settings limits s id old → Meets m settings limits old
meets m rests settings limits s id old may =
    let b = bounds-of m settings s id may.start.start in
    record {
      bounds = b;
      fit = record { target = may.start.start.limits; debugger = may.start.limits_fit; packet = may.start.packet };
      served = served m rests settings s id old.target may.start.start b may.served;
      joined = joined-before m limits id old.target old.debugger may.start.limits_fit may.start.start.id_fits may.attached;
      shut = may.target;
      lives = may.alive;
    }

begun-stays : {S : Type 0} (m : Meaning S) → Rests m → (settings : Settings) (limits : Limits) (old : Programs S) → Meets m settings limits old → Stays m settings limits (m.sizes old.target.moment.machine) (beginning old) [] (begun old)
begun-stays m rests settings limits old h =
    let l = between settings.limits limits in
    let other = old-within settings limits old in
    let w = m.sizes old.target.moment.machine in
    let b = begun-stands m rests (settings_between settings limits) (bounds-within settings limits h.bounds) other (served-within m settings limits old.target h.served) (joined-within settings limits old.debugger h.fit h.joined) h.shut h.lives in
    let tw = stands-as m settings limits w (beginning old) [] (begun old) (begun other) (record { target = refl; debugger = refl }) (record { world = b.world; stands = b.stands }) in
    record {
      standing = record {
        onward = b.onward;
        world = tw.world;
        stands = tw.stands;
        keeps = keeps-flowing l (attached old.debugger) (are-between settings limits h.fit.target h.fit.debugger) (attached-keeps old.debugger h.joined.keeps);
        agrees = agrees-twin settings limits (begun old) (record { to_target = b.agrees.to_target; to_debugger = b.agrees.to_debugger });
      };
      keeps = attached-keeps old.debugger h.joined.keeps;
      own = h.joined.same_limits;
    }

-- ---- the theorems

pub holds-within-after : {S : Type 0} (m : Meaning S) → Laws m → Rests m → HoldsWithinAfterOthers m
holds-within-after m laws rests settings limits s id old acts v may taken merged =
    let h = meets m rests settings limits s id old may in
    let b = bounds-within settings limits h.bounds in
    let other = old-within settings limits old in
    let whole = beginning-whole m rests (settings_between settings limits) b other (served-within m settings limits old.target h.served) h.shut h.lives in
    relies-within m laws settings limits (beginning old) acts v h.fit (beginning-settles m rests (settings_between settings limits) b other whole) (beginning-tells m (settings_between settings limits) other)
    (stays-on m settings limits (m.sizes old.target.moment.machine) (beginning old) (begun old) acts v laws h.fit taken (begun-stays m rests settings limits old h) merged)

-- as long as the session began at one of them alone
nobody-ahead : {S : Type 0} (m : Meaning S) (settings : Settings) (limits : Limits) (s : S) (id : ℕ) (old : Programs S) → ((end : End) → end.incoming ≡ [] → front_of end ≡ Waits) → MayMeetWithin m settings limits s id old
    → (programs : Programs S) (ts : List (Move (Target S))) (ds all_ds : List (Move Debugger)) (debugger : Debugger) → DebuggerRuns m (attached old.debugger) all_ds debugger → AreFirst ds all_ds → BeginsAtOne old ts ds programs
    → programs.debugger.mirror ≡ empty_mirror
nobody-ahead m settings limits s id old finds may programs ts ds all_ds debugger runs front (AtTarget ts') =
    let j = joined-before m limits id old.target old.debugger may.start.limits_fit may.start.start.id_fits may.attached in
    forgets-shut old.debugger j.forgets may.debugger
nobody-ahead m settings limits s id old finds may programs ts ds all_ds debugger runs front (AtDebugger ds' none) =
    unheard-knows-nobody m finds old.target (attached old.debugger) debugger ds' front.0 refl refl (subst (λ x. DebuggerRuns m (attached old.debugger) x debugger) front.1 runs) none

pub holds-of-runs-after : {S : Type 0} (m : Meaning S) → ((end : End) → end.incoming ≡ [] → front_of end ≡ Waits) → HoldsWithinAfterOthers m → HoldsOfTwoRunsAfterOthers m
holds-of-runs-after {S} m finds holds settings limits s id old may ts target t_runs ds debugger d_runs =
    let merged = λ (more : List Act) (programs : Programs S) (b : StandBehind old ts ds more programs).
    merges-behind m (begun old) old [] more programs b.of_target ts b.of_debugger ds target debugger Start t_runs d_runs b.target_first b.debugger_first b.meets in
    record {
      merges = merged;
      relies = λ more programs b taken. holds settings limits s id old more programs may taken (merged more programs b);
      holds_nobody = λ programs thread b.
          ap (λ (x : Mirror). is_held_in x.threads thread) (nobody-ahead m settings limits s id old finds may programs b.of_target b.of_debugger ds debugger d_runs b.debugger_first b.begins);
    }

pub holds-together-after : {S : Type 0} (m : Meaning S) → HoldsOfTwoRunsAfterOthers m → ServesByActs m → AttachesByActs m → HoldsOfServeAndAttachAfterOthers m
holds-together-after m holds serves attaches settings limits s id old may rounds how target served served' serving plan turns ended debugger told told' out out' attaching =
    let t = serves rounds _ served how target served' serving in
    let d = attaches plan old.debugger turns told out ended told' out' debugger attaching in
    let all = holds settings limits s id old may t.moves target t.runs d.moves d.last d.runs in
    record {
      target_acts = t;
      debugger_acts = d;
      holds = all;
      unrefused = λ more programs b taken whole refuses.
          let led : programs.debugger ≡ d.last =
          (stand old b.of_target b.of_debugger more programs b.meets).debugger
          ∙ (ap (last_of (attached old.debugger)) whole ∙ sym (leads-last (DebuggerDoes m) (attached old.debugger) d.last d.moves d.runs)) in
          let next : RefusesNext programs.debugger = subst RefusesNext (sym led) refuses in
          next.3 ((all.relies more programs b taken).reads.debugger next.0 next.1 next.2).0;
    }

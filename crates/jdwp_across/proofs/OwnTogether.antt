-- moves of two programs with limits of their own, in one order, are a merge
use Rattle.std.proofs.Common.{◌≡◌, ℕ, List, [], ◌∷◌, ◌++◌, refl, sym, ◌∙◌, ap, subst}
use Rattle.jdwp_wire.specs.Handshake.{handshake_bytes}
use Rattle.jdwp_wire.specs.Limits.{Limits}
use Rattle.jdwp_wire.specs.Streams.{More as Waits}
use Rattle.jdwp_end.specs.Ends.{End, front_of}
use Rattle.jdwp_machine.specs.Meanings.{Meaning}
use Rattle.jdwp_debuggee.specs.Settings.{Settings}
use Rattle.jdwp_mirror.specs.KnownThreads.{is_held_in}
use Rattle.jdwp_mirror.specs.Mirrors.{Mirror, empty_mirror}
use Rattle.jdwp_target.specs.Targets.{Target}
use Rattle.jdwp_debugger.specs.Debuggers.{Debugger, attached}
use Rattle.jdwp_across.specs.Acting.{AreFirst, DebuggerDoes, DebuggerRuns, Move, last_of}
use Rattle.jdwp_across.specs.Meeting.{AtDebugger, AtTarget, BeginsAtOne, StandBehind, begun}
use Rattle.jdwp_across.specs.Merges.{Merged, More}
use Rattle.jdwp_across.specs.OwnLimits.{HoldsWithinOwnLimits, programs_within}
use Rattle.jdwp_across.specs.OwnRuns.{HoldsOfServeAndAttachWithin, HoldsOfTwoRunsWithin, MayConnectWithin}
use Rattle.jdwp_across.specs.Programs.{Act, Connects, Programs}
use Rattle.jdwp_across.specs.Running.{RefusesNext}
use Rattle.jdwp_across.specs.RunsHeadline.{AttachesByActs, ServesByActs}
use Rattle.jdwp_across.proofs.Moving.{leads-last}
use Rattle.jdwp_across.proofs.Nobody.{shut-knows-nobody, unheard-knows-nobody}
use Rattle.jdwp_across.proofs.Together.{merges, stand}

connects : {S : Type 0} (m : Meaning S) (settings : Settings) (limits : Limits) (s : S) (id : ℕ) (acts : List Act) (old : Programs S) → MayConnectWithin m settings limits s id acts old
    → Merged m (programs_within m settings limits s id) (acts ++ Connects ∷ []) (begun old)
connects m settings limits s id acts old h =
    More acts Connects old (begun old) h.merged (h.target, h.debugger, h.alive, refl) (record { to_target = (handshake_bytes, refl); to_debugger = ([], refl) })

nobody : {S : Type 0} (m : Meaning S) (settings : Settings) (limits : Limits) (s : S) (id : ℕ) (acts : List Act) (old : Programs S) → ((end : End) → end.incoming ≡ [] → front_of end ≡ Waits) → MayConnectWithin m settings limits s id acts old
    → (programs : Programs S) (ts : List (Move (Target S))) (ds all_ds : List (Move Debugger)) (debugger : Debugger) → DebuggerRuns m (attached old.debugger) all_ds debugger → AreFirst ds all_ds → BeginsAtOne old ts ds programs
    → programs.debugger.mirror ≡ empty_mirror
nobody m settings limits s id acts old finds may programs ts ds all_ds debugger runs front (AtTarget ts') =
    shut-knows-nobody m (programs_within m settings limits s id) acts old (λ shut. refl) may.merged may.debugger
nobody m settings limits s id acts old finds may programs ts ds all_ds debugger runs front (AtDebugger ds' none) =
    unheard-knows-nobody m finds old.target (attached old.debugger) debugger ds' front.0 refl refl (subst (λ x. DebuggerRuns m (attached old.debugger) x debugger) front.1 runs) none

pub holds-of-runs-within : {S : Type 0} (m : Meaning S) → ((end : End) → end.incoming ≡ [] → front_of end ≡ Waits) → HoldsWithinOwnLimits m → HoldsOfTwoRunsWithin m
holds-of-runs-within {S} m finds holds settings limits s id acts old may ts target t_runs ds debugger d_runs =
    let merged = λ (more : List Act) (programs : Programs S) (b : StandBehind old ts ds more programs).
    merges m (programs_within m settings limits s id) old acts more programs b.of_target ts b.of_debugger ds target debugger (connects m settings limits s id acts old may) t_runs d_runs b.target_first b.debugger_first b.meets in
    record {
      merges = merged;
      relies = λ more programs b fits. holds settings limits s id (acts ++ Connects ∷ more) programs may.start fits (merged more programs b);
      holds_nobody = λ programs thread b.
          ap (λ (x : Mirror). is_held_in x.threads thread) (nobody m settings limits s id acts old finds may programs b.of_target b.of_debugger ds debugger d_runs b.debugger_first b.begins);
    }

pub holds-together-within : {S : Type 0} (m : Meaning S) → HoldsOfTwoRunsWithin m → ServesByActs m → AttachesByActs m → HoldsOfServeAndAttachWithin m
holds-together-within m holds serves attaches settings limits s id acts old may rounds how target served served' serving plan turns ended debugger told told' out out' attaching =
    let t = serves rounds _ served how target served' serving in
    let d = attaches plan old.debugger turns told out ended told' out' debugger attaching in
    let all = holds settings limits s id acts old may t.moves target t.runs d.moves d.last d.runs in
    record {
      target_acts = t;
      debugger_acts = d;
      holds = all;
      unrefused = λ more programs b fits whole refuses.
          let led : programs.debugger ≡ d.last =
          (stand old b.of_target b.of_debugger more programs b.meets).debugger
          ∙ (ap (last_of (attached old.debugger)) whole ∙ sym (leads-last (DebuggerDoes m) (attached old.debugger) d.last d.moves d.runs)) in
          let next : RefusesNext programs.debugger = subst RefusesNext (sym led) refuses in
          next.3 ((all.relies more programs b fits).reads.debugger next.0 next.1 next.2).0;
    }

-- moves of both programs in one order are a merge
use Rattle.std.proofs.Common.{◌≡◌, ℕ, List, [], ◌∷◌, ◌++◌, refl, sym, ◌∙◌, ap, subst}
use Rattle.std.proofs.lemmas.List.{append-nil, append_assoc}
use Rattle.jdwp_wire.specs.Handshake.{handshake_bytes}
use Rattle.jdwp_wire.specs.Streams.{More as Waits}
use Rattle.jdwp_end.specs.Ends.{End, front_of}
use Rattle.jdwp_machine.specs.Meanings.{Meaning}
use Rattle.jdwp_debuggee.specs.Settings.{Settings}
use Rattle.jdwp_mirror.specs.KnownThreads.{is_held_in}
use Rattle.jdwp_mirror.specs.Mirrors.{Mirror, empty_mirror}
use Rattle.jdwp_target.specs.Targets.{Target, opened_target}
use Rattle.jdwp_debugger.specs.Debuggers.{Debugger, attached}
use Rattle.jdwp_across.specs.Headline.{HoldsAcross}
use Rattle.jdwp_across.specs.Merges.{Agrees, Merged, More}
use Rattle.jdwp_across.specs.Programs.{Act, Connects, Does, Programs, new_programs}
use Rattle.jdwp_across.specs.Acting.{AreFirst, DebuggerDoes, DebuggerRuns, Move, TargetDoes, TargetRuns, acts_of, both, last_of}
use Rattle.jdwp_across.specs.RunsHeadline.{AttachesByActs, HoldsOfServeAndAttach, HoldsOfTwoRuns, MayConnect, ServesByActs}
use Rattle.jdwp_across.specs.Running.{RefusesNext}
use Rattle.jdwp_across.specs.Meeting.{AtDebugger, AtTarget, BeginsAtOne, ByDebugger, ByTarget, DebuggerFirst, Meets, NothingCame, StandBehind, TargetFirst, Together, begun}
use Rattle.jdwp_across.proofs.Moving.{last-more, leads-last, leads-next}
use Rattle.jdwp_across.proofs.Nobody.{shut-knows-nobody, unheard-knows-nobody}

-- ---- the session begins

connects : {S : Type 0} (m : Meaning S) (settings : Settings) (s : S) (id : ℕ) (acts : List Act) (old : Programs S) → MayConnect m settings s id acts old
    → Merged m (new_programs m settings s id) (acts ++ Connects ∷ []) (begun old)
connects m settings s id acts old h =
    More acts Connects old (begun old) h.merged (h.target, h.debugger, h.alive, refl) (record { to_target = (handshake_bytes, refl); to_debugger = ([], refl) })

-- ---- a move behind others

-- both stand where the moves of each led
pub record Stand {S : Type 0} (old : Programs S) (ts : List (Move (Target S))) (ds : List (Move Debugger)) (programs : Programs S) : Type 0 where
  pub target : programs.target ≡ last_of (opened_target old.target) ts
  pub debugger : programs.debugger ≡ last_of (attached old.debugger) ds

pub stand : {S : Type 0} (old : Programs S) (ts : List (Move (Target S))) (ds : List (Move Debugger)) (acts : List Act) (programs : Programs S) → Meets old ts ds acts programs → Stand old ts ds programs
stand old ts ds acts programs Together = record { target = refl; debugger = refl }
stand old ts ds acts programs (TargetFirst ts' none) = record { target = refl; debugger = refl }
stand old ts ds acts programs (DebuggerFirst ds' none) = record { target = refl; debugger = refl }
stand old ts ds acts programs (ByTarget ts' ds' acts' move now h agrees) =
    record { target = sym (last-more (opened_target old.target) ts' move); debugger = (stand old ts' ds' acts' now h).debugger }
stand old ts ds acts programs (ByDebugger ts' ds' acts' move now h agrees) =
    record { target = (stand old ts' ds' acts' now h).target; debugger = sym (last-more (attached old.debugger) ds' move) }

-- moves in front of moves that are in front of all
before-front : {E : Type 0} (moves all : List (Move E)) (move : Move E) → AreFirst (moves ++ move ∷ []) all → (rest : List (Move E)) × (all ≡ moves ++ move ∷ rest)
before-front moves all move (rest, is) = (rest, is ∙ append_assoc moves (move ∷ []) rest)

fewer : {E : Type 0} (moves all : List (Move E)) (move : Move E) → AreFirst (moves ++ move ∷ []) all → AreFirst moves all
fewer moves all move (rest, is) = (move ∷ rest, is ∙ append_assoc moves (move ∷ []) rest)

target-next : {S : Type 0} (m : Meaning S) (first last : Target S) (moves all : List (Move (Target S))) (move : Move (Target S)) (old : Target S) → TargetRuns m first all last → AreFirst (moves ++ move ∷ []) all → old ≡ last_of first moves
    → TargetDoes m move.act old move.behind
target-next m first last moves all move old runs front at =
    let split = before-front moves all move front in
    subst (λ x. TargetDoes m move.act x move.behind) (sym at) (leads-next (TargetDoes m) first last moves split.0 move (subst (λ x. TargetRuns m first x last) split.1 runs))

debugger-next : {S : Type 0} (m : Meaning S) (first last : Debugger) (moves all : List (Move Debugger)) (move : Move Debugger) (old : Debugger) → DebuggerRuns m first all last → AreFirst (moves ++ move ∷ []) all → old ≡ last_of first moves
    → DebuggerDoes m move.act old move.behind
debugger-next m first last moves all move old runs front at =
    let split = before-front moves all move front in
    subst (λ x. DebuggerDoes m move.act x move.behind) (sym at) (leads-next (DebuggerDoes m) first last moves split.0 move (subst (λ x. DebuggerRuns m first x last) split.1 runs))

-- ---- all of them

behind : {S : Type 0} (m : Meaning S) (first old new : Programs S) (before acts : List Act) (act : Act) → Merged m first (before ++ acts) old → Does m act old new → Agrees new
    → Merged m first (before ++ (acts ++ act ∷ [])) new
behind m first old new before acts act h does agrees =
    subst (λ x. Merged m first x new) (append_assoc before acts (act ∷ [])) (More (before ++ acts) act old new h does agrees)

behind-none : {S : Type 0} (m : Meaning S) (first : Programs S) (before : List Act) (programs : Programs S) → Merged m first before programs → Merged m first (before ++ []) programs
behind-none m first before programs h = subst (λ x. Merged m first x programs) (sym (append-nil before)) h

-- moves of an end that began first, while nothing comes to it
target-ahead : {S : Type 0} (m : Meaning S) (first : Programs S) (before acts : List Act) (t last : Target S) (d : Debugger) (ts rest : List (Move (Target S))) → d.end.session.fed ≡ []
    → Merged m first (before ++ acts) (both t d) → TargetRuns m t (ts ++ rest) last → NothingCame (λ (x : Target S). x.end) ts → Merged m first (before ++ (acts ++ acts_of ts)) (both (last_of t ts) d)
target-ahead m first before acts t last d [] rest unfed h runs none = subst (λ x. Merged m first (before ++ x) (both t d)) (sym (append-nil acts)) h
target-ahead m first before acts t last d (move ∷ ts) rest unfed h runs none =
    let agrees : Agrees (both move.behind d) = record {
      to_target = (d.end.session.enqueued, sym (ap (λ x. x ++ d.end.session.enqueued) none.0));
      to_debugger = (move.behind.end.session.enqueued, sym (ap (λ x. x ++ move.behind.end.session.enqueued) unfed));
    } in
    let next = behind m first (both t d) (both move.behind d) before acts move.act h (runs.0.1 d) agrees in
    subst (λ x. Merged m first (before ++ x) (both (last_of move.behind ts) d)) (append_assoc acts (move.act ∷ []) (acts_of ts))
    (target-ahead m first before (acts ++ move.act ∷ []) move.behind last d ts rest unfed next runs.1 none.1)

debugger-ahead : {S : Type 0} (m : Meaning S) (first : Programs S) (before acts : List Act) (t : Target S) (d last : Debugger) (ds rest : List (Move Debugger)) → t.end.session.fed ≡ []
    → Merged m first (before ++ acts) (both t d) → DebuggerRuns m d (ds ++ rest) last → NothingCame (λ (x : Debugger). x.end) ds → Merged m first (before ++ (acts ++ acts_of ds)) (both t (last_of d ds))
debugger-ahead m first before acts t d last [] rest unfed h runs none = subst (λ x. Merged m first (before ++ x) (both t d)) (sym (append-nil acts)) h
debugger-ahead m first before acts t d last (move ∷ ds) rest unfed h runs none =
    let agrees : Agrees (both t move.behind) = record {
      to_target = (move.behind.end.session.enqueued, sym (ap (λ x. x ++ move.behind.end.session.enqueued) unfed));
      to_debugger = (t.end.session.enqueued, sym (ap (λ x. x ++ t.end.session.enqueued) none.0));
    } in
    let next = behind m first (both t d) (both t move.behind) before acts move.act h (runs.0.1 t) agrees in
    subst (λ x. Merged m first (before ++ x) (both t (last_of move.behind ds))) (append_assoc acts (move.act ∷ []) (acts_of ds))
    (debugger-ahead m first before (acts ++ move.act ∷ []) t move.behind last ds rest unfed next runs.1 none.1)

pub merges-behind : {S : Type 0} (m : Meaning S) (first old : Programs S) (before acts : List Act) (programs : Programs S) (ts all_ts : List (Move (Target S))) (ds all_ds : List (Move Debugger)) (target : Target S) (debugger : Debugger)
    → Merged m first before (begun old) → TargetRuns m (opened_target old.target) all_ts target → DebuggerRuns m (attached old.debugger) all_ds debugger → AreFirst ts all_ts → AreFirst ds all_ds → Meets old ts ds acts programs
    → Merged m first (before ++ acts) programs
merges-behind m first old before acts programs ts all_ts ds all_ds target debugger start t_runs d_runs t_front d_front Together = behind-none m first before (begun old) start
merges-behind m first old before acts programs ts all_ts ds all_ds target debugger start t_runs d_runs t_front d_front (TargetFirst ts' none) =
    target-ahead m first before [] (opened_target old.target) target (attached old.debugger) ts' t_front.0 refl (behind-none m first before (begun old) start) (subst (λ x. TargetRuns m (opened_target old.target) x target) t_front.1 t_runs) none
merges-behind m first old before acts programs ts all_ts ds all_ds target debugger start t_runs d_runs t_front d_front (DebuggerFirst ds' none) =
    debugger-ahead m first before [] (opened_target old.target) (attached old.debugger) debugger ds' d_front.0 refl (behind-none m first before (begun old) start) (subst (λ x. DebuggerRuns m (attached old.debugger) x debugger) d_front.1 d_runs) none
merges-behind m first old before acts programs ts all_ts ds all_ds target debugger start t_runs d_runs t_front d_front (ByTarget ts' ds' acts' move now h agrees) =
    let so = merges-behind m first old before acts' now ts' all_ts ds' all_ds target debugger start t_runs d_runs (fewer ts' all_ts move t_front) d_front h in
    let does = target-next m (opened_target old.target) target ts' all_ts move now.target t_runs t_front (stand old ts' ds' acts' now h).target in
    behind m first now (both move.behind now.debugger) before acts' move.act so (does.1 now.debugger) agrees
merges-behind m first old before acts programs ts all_ts ds all_ds target debugger start t_runs d_runs t_front d_front (ByDebugger ts' ds' acts' move now h agrees) =
    let so = merges-behind m first old before acts' now ts' all_ts ds' all_ds target debugger start t_runs d_runs t_front (fewer ds' all_ds move d_front) h in
    let does = debugger-next m (attached old.debugger) debugger ds' all_ds move now.debugger d_runs d_front (stand old ts' ds' acts' now h).debugger in
    behind m first now (both now.target move.behind) before acts' move.act so (does.1 now.target) agrees

-- where the session began behind other acts
pub merges : {S : Type 0} (m : Meaning S) (first old : Programs S) (before acts : List Act) (programs : Programs S) (ts all_ts : List (Move (Target S))) (ds all_ds : List (Move Debugger)) (target : Target S) (debugger : Debugger)
    → Merged m first (before ++ Connects ∷ []) (begun old) → TargetRuns m (opened_target old.target) all_ts target → DebuggerRuns m (attached old.debugger) all_ds debugger → AreFirst ts all_ts → AreFirst ds all_ds → Meets old ts ds acts programs
    → Merged m first (before ++ Connects ∷ acts) programs
merges m first old before acts programs ts all_ts ds all_ds target debugger start t_runs d_runs t_front d_front meets =
    subst (λ x. Merged m first x programs) (append_assoc before (Connects ∷ []) acts)
    (merges-behind m first old (before ++ Connects ∷ []) acts programs ts all_ts ds all_ds target debugger start t_runs d_runs t_front d_front meets)

-- ---- the session began at one end alone

nobody : {S : Type 0} (m : Meaning S) (settings : Settings) (s : S) (id : ℕ) (acts : List Act) (old : Programs S) → ((end : End) → end.incoming ≡ [] → front_of end ≡ Waits) → MayConnect m settings s id acts old
    → (programs : Programs S) (ts : List (Move (Target S))) (ds all_ds : List (Move Debugger)) (debugger : Debugger) → DebuggerRuns m (attached old.debugger) all_ds debugger → AreFirst ds all_ds → BeginsAtOne old ts ds programs
    → programs.debugger.mirror ≡ empty_mirror
nobody m settings s id acts old finds may programs ts ds all_ds debugger runs front (AtTarget ts') = shut-knows-nobody m (new_programs m settings s id) acts old (λ shut. refl) may.merged may.debugger
nobody m settings s id acts old finds may programs ts ds all_ds debugger runs front (AtDebugger ds' none) =
    unheard-knows-nobody m finds old.target (attached old.debugger) debugger ds' front.0 refl refl (subst (λ x. DebuggerRuns m (attached old.debugger) x debugger) front.1 runs) none

-- ---- the theorems

pub holds-of-runs : {S : Type 0} (m : Meaning S) → ((end : End) → end.incoming ≡ [] → front_of end ≡ Waits) → HoldsAcross m → HoldsOfTwoRuns m
holds-of-runs {S} m finds holds settings s id acts old may ts target t_runs ds debugger d_runs =
    let merged = λ (more : List Act) (programs : Programs S) (b : StandBehind old ts ds more programs).
    merges m (new_programs m settings s id) old acts more programs b.of_target ts b.of_debugger ds target debugger (connects m settings s id acts old may) t_runs d_runs b.target_first b.debugger_first b.meets in
    let relies = λ (more : List Act) (programs : Programs S) (b : StandBehind old ts ds more programs).
    holds settings s id (acts ++ Connects ∷ more) programs may.start (merged more programs b) in
    record {
      merges = merged;
      relies = relies;
      suspends = λ more programs thread b held alive unlost none unresumed.
          (relies more programs b).held.suspended thread held (record { alive = alive; not_lost = unlost; no_dispose = none }) unresumed;
      holds_nobody = λ programs thread b.
          ap (λ (x : Mirror). is_held_in x.threads thread) (nobody m settings s id acts old finds may programs b.of_target b.of_debugger ds debugger d_runs b.debugger_first b.begins);
    }

pub holds-together : {S : Type 0} (m : Meaning S) → HoldsOfTwoRuns m → ServesByActs m → AttachesByActs m → HoldsOfServeAndAttach m
holds-together m holds serves attaches settings s id acts old may rounds how target served served' serving plan turns ended debugger told told' out out' attaching =
    let t = serves rounds _ served how target served' serving in
    let d = attaches plan old.debugger turns told out ended told' out' debugger attaching in
    let all = holds settings s id acts old may t.moves target t.runs d.moves d.last d.runs in
    record {
      target_acts = t;
      debugger_acts = d;
      holds = all;
      unrefused = λ more programs b whole refuses.
          let led : programs.debugger ≡ d.last =
          (stand old b.of_target b.of_debugger more programs b.meets).debugger
          ∙ (ap (last_of (attached old.debugger)) whole ∙ sym (leads-last (DebuggerDoes m) (attached old.debugger) d.last d.moves d.runs)) in
          let next : RefusesNext programs.debugger = subst RefusesNext (sym led) refuses in
          next.3 ((all.relies more programs b).reads.debugger next.0 next.1 next.2).0;
    }

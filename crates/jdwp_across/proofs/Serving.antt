-- what `serve` does is acts of a target
use Rattle.std.proofs.Common.{◌≡◌, ℕ, ◌≤◌, ◌+◌, ◌-◌, Bool, List, [], ◌∷◌, ◌++◌, length, Option, Some, None, Result, Ok, Err, refl, sym, ◌∙◌, ap, arith}
use Rattle.std.proofs.lemmas.List.{append-nil}
use Rattle.jdwp_wire.specs.declared.frame.FrameFault.{FrameFault}
use Rattle.jdwp_wire.specs.Streams.{Fault, Message, More, NextMessage, Whole}
use Rattle.jdwp_end.specs.Ends.{front_of}
use Rattle.jdwp_machine.specs.Meanings.{Meaning}
use Rattle.jdwp_target.specs.Targets.{Target, lost_target, with_taken}
use Rattle.jdwp_target.specs.Turns.{ReleasesAt, TurnsAt, deferred_at}
use Rattle.jdwp_target.specs.declared.target.TargetFault.{TargetFault}
use Rattle.jdwp_target.specs.declared.target.TargetFault.TheVariants as target_fault
use Rattle.jdwp_end.specs.declared.pipes.ended.Ended.{Ended}
use Rattle.jdwp_end.specs.declared.pipes.ended.Ended.TheVariants as ended
use Rattle.jdwp_end.specs.Story.{FailsFlush, Story, flushed}
use Rattle.jdwp_engine.specs.Rounds as steps
use Rattle.jdwp_engine.specs.Rounds.{StepsEach}
use Rattle.jdwp_engine.specs.Run.{LosesAtRead, LosesAtWrite, ReadsMore, WritesAll}
use Rattle.jdwp_engine.specs.Sessions.{All, CantFlush, CantRead, CantWrite, Closes, Faults, LastRound, Leaves, Moves, NoRound, OneMore, Reads, Releases, Round, Rounds, Runs, Serves, Stays, Steps, Turns, Until, WantsToRelease, WantsToStep, WantsToTurn, Writes, unflushed_target}
use Rattle.jdwp_across.specs.Programs.{Act, ComesToTarget, LeavesTarget, TargetLoses, TargetReleases, TargetSteps, TargetTurns}
use Rattle.jdwp_across.specs.Acting.{Move, TargetDoes, TargetRuns, bytes_of, from_target, to_target}
use Rattle.jdwp_across.specs.Running.{TargetActs}
use Rattle.jdwp_across.proofs.Moving.{bytes-on, leads-all, leads-one}

-- acts that led on, where no write failed
record Went {S : Type 0} (m : Meaning S) (first : Target S) (before : Story) (last : Target S) (after : Story) : Type 0 where
  moves : List (Move (Target S))
  runs : TargetRuns m first moves last
  read : after.read ≡ before.read ++ bytes_of to_target moves
  written : after.written ≡ before.written ++ bytes_of from_target moves
  failed : after.failed_writes ≡ before.failed_writes

-- acts that led to an end, where one may have
record Stopped {S : Type 0} (m : Meaning S) (first : Target S) (before : Story) (last : Target S) (after : Story) : Type 0 where
  acts : TargetActs m first before last after
  failed : before.failed_writes ≤ after.failed_writes

-- ---- one behind the other

went-on : {S : Type 0} (m : Meaning S) (a b c : Target S) (s t u : Story) → Went m a s b t → Went m b t c u → Went m a s c u
went-on m a b c s t u h g = record {
  moves = h.moves ++ g.moves;
  runs = leads-all (TargetDoes m) a b c h.moves g.moves h.runs g.runs;
  read = bytes-on to_target h.moves g.moves s.read t.read u.read h.read g.read;
  written = bytes-on from_target h.moves g.moves s.written t.written u.written h.written g.written;
  failed = g.failed ∙ h.failed;
}

ends-on : {S : Type 0} (m : Meaning S) (a b c : Target S) (s t u : Story) → Went m a s b t → Stopped m b t c u → Stopped m a s c u
ends-on m a b c s t u h g = record {
  acts = record {
    moves = h.moves ++ g.acts.moves;
    runs = leads-all (TargetDoes m) a b c h.moves g.acts.moves h.runs g.acts.runs;
    read = bytes-on to_target h.moves g.acts.moves s.read t.read u.read h.read g.acts.read;
    written = λ f. bytes-on from_target h.moves g.acts.moves s.written t.written u.written h.written (g.acts.written (f ∙ sym h.failed));
  };
  failed = let same = h.failed in let more = g.failed in omega (arith, same, more);
}

ends-went : {S : Type 0} (m : Meaning S) (a b : Target S) (s t : Story) → Went m a s b t → Stopped m a s b t
ends-went m a b s t h = record {
  acts = record { moves = h.moves; runs = h.runs; read = h.read; written = λ f. h.written };
  failed = let same = h.failed in omega (arith, same);
}

-- nothing was done
went-nowhere : {S : Type 0} (m : Meaning S) (a b : Target S) (s t : Story) → b ≡ a → t.read ≡ s.read → t.written ≡ s.written → t.failed_writes ≡ s.failed_writes → Went m a s b t
went-nowhere m a b s t same read written failed =
    record { moves = []; runs = same; read = read ∙ sym (append-nil s.read); written = written ∙ sym (append-nil s.written); failed = failed }

-- one act, at which nothing comes and nothing leaves
went-quietly : {S : Type 0} (m : Meaning S) (a b : Target S) (s t : Story) (act : Act) → TargetDoes m act a b → to_target act ≡ [] → from_target act ≡ [] → t.read ≡ s.read → t.written ≡ s.written → t.failed_writes ≡ s.failed_writes
    → Went m a s b t
went-quietly m a b s t act does none_comes none_leaves read written failed = record {
  moves = record { act = act; behind = b } ∷ [];
  runs = leads-one (TargetDoes m) a b act does;
  read = read ∙ sym (ap (λ x. s.read ++ (x ++ [])) none_comes ∙ append-nil s.read);
  written = written ∙ sym (ap (λ x. s.written ++ (x ++ [])) none_leaves ∙ append-nil s.written);
  failed = failed;
}

-- ---- steps, and what comes before a write or a read

steps-go : {S : Type 0} (m : Meaning S) (last : Option ℕ) (old new : Target S) (came : Result Bool TargetFault) (s : Story) → StepsEach m last old came new → Went m old s new s
steps-go m last old new came s (steps.Over last' target none) = went-nowhere m old old s s refl refl refl refl
steps-go m last old new came s (steps.Wants last' old' new' t fault next wants) = went-nowhere m old new s s wants.3 refl refl refl
steps-go m last old new came s (steps.Steps last' old' mid new' t stepped more next steps back others) =
    went-on m old mid new s s s (went-quietly m old mid s s (TargetSteps t stepped) (refl, λ d. (steps, back.0, back.1, refl)) refl refl refl refl refl) (steps-go m (Some t) mid new more s others)

moves-go : {S : Type 0} (m : Meaning S) (old new : Target S) (s t : Story) (came : Result Bool TargetFault) → Moves m old s came new t → Went m old s new t
moves-go m old new s t came (Turns turn new' some turned back) = went-quietly m old new s s (TargetTurns turn) (refl, λ d. (turned, back.0, back.1, refl)) refl refl refl refl refl
moves-go m old new s t came (Releases turn new' none released back) =
    went-quietly m old new s (flushed s) (TargetReleases (length old.deferred - 1) turn) (refl, λ d. (released.1, back.0, back.1, refl)) refl refl refl refl refl
moves-go m old new s t came (Steps came' new' none idle each) =
    went-on m old old new s (flushed s) (flushed s) (went-nowhere m old old s (flushed s) refl refl refl refl) (steps-go m None old new came (flushed s) each)

-- ---- writes and reads

writes-go : {S : Type 0} (m : Meaning S) (old new : Target S) (s t : Story) → WritesAll old new s t → Went m old s new t
writes-go m old new s t (is, story) =
    let out = old.end.outgoing in
    record {
      moves = record { act = LeavesTarget out; behind = new } ∷ [];
      runs = leads-one (TargetDoes m) old new (LeavesTarget out) (refl, λ d. ap (λ v. record { target = v; debugger = d }) is);
      read = ap (λ (x : Story). x.read) story ∙ sym (append-nil s.read);
      written = ap (λ (x : Story). x.written) story ∙ ap (λ x. s.written ++ x) (sym (append-nil out));
      failed = ap (λ (x : Story). x.failed_writes) story;
    }

reads-go : {S : Type 0} (m : Meaning S) (old new : Target S) (s t : Story) → ReadsMore old new s t → Went m old s new t
reads-go m old new s t (more, is, story) = record {
  moves = record { act = ComesToTarget more; behind = new } ∷ [];
  runs = leads-one (TargetDoes m) old new (ComesToTarget more) (refl, λ d. ap (λ v. record { target = v; debugger = d }) is);
  read = ap (λ (x : Story). x.read) story ∙ ap (λ x. s.read ++ x) (sym (append-nil more));
  written = ap (λ (x : Story). x.written) story ∙ sym (append-nil s.written);
  failed = ap (λ (x : Story). x.failed_writes) story;
}

-- ---- losses

loses : {S : Type 0} (m : Meaning S) (old new : Target S) → new ≡ lost_target old → TargetDoes m TargetLoses old new
loses m old new is = (refl, λ d. ap (λ v. record { target = v; debugger = d }) is)

-- a read failed
cant-read : {S : Type 0} (m : Meaning S) (old new : Target S) (s t : Story) → LosesAtRead old new s t → Went m old s new t
cant-read m old new s t (is, fails) = went-quietly m old new s t TargetLoses (loses m old new is) refl refl fails.read fails.written fails.failed_writes

-- a flush failed
cant-flush : {S : Type 0} (m : Meaning S) (old new : Target S) (s t : Story) → new ≡ lost_target old → FailsFlush s t → Stopped m old s new t
cant-flush m old new s t is fails = record {
  acts = record {
    moves = record { act = TargetLoses; behind = new } ∷ [];
    runs = leads-one (TargetDoes m) old new TargetLoses (loses m old new is);
    read = ap (λ (x : Story). x.read) fails ∙ sym (append-nil s.read);
    written = λ f. ap (λ (x : Story). x.written) fails ∙ sym (append-nil s.written);
  };
  failed = let more = ap (λ (x : Story). x.failed_writes) fails in omega (arith, more);
}

-- a write failed, behind which some bytes have left
cant-write : {S : Type 0} (m : Meaning S) (old new : Target S) (s t : Story) → LosesAtWrite m old new s t → Stopped m old s new t
cant-write m old new s t (fails, (taken, ran, is), rooms) =
    let mid = with_taken taken old in
    record {
      acts = record {
        moves = record { act = LeavesTarget taken; behind = mid } ∷ (record { act = TargetLoses; behind = new } ∷ []);
        runs = ((refl, λ d. refl), leads-one (TargetDoes m) mid new TargetLoses (loses m mid new is));
        read = fails.read ∙ sym (append-nil s.read);
        written = λ f. absurd (let more = fails.failed_writes in omega (arith, more, f));
      };
      failed = let more = fails.failed_writes in omega (arith, more);
    }

-- a fault stands in front
faults-lose : {S : Type 0} (m : Meaning S) (next : NextMessage) (old new : Target S) (fault : FrameFault) → TurnsAt m next old (Err (target_fault.Frame fault)) new → new ≡ lost_target old
faults-lose m (Whole message used) old new fault h = absurd (let e = h.0 in cc)
faults-lose m More old new fault h = absurd (let e = h.0 in cc)
faults-lose m (Fault f) old new fault h = h.1

-- memory was wanting
wants-same : {S : Type 0} (m : Meaning S) (next : NextMessage) (old new : Target S) → TurnsAt m next old (Err target_fault.NoMemory) new → new ≡ old
wants-same m (Whole message used) old new h = h.2
wants-same m More old new h = absurd (let e = h.0 in cc)
wants-same m (Fault f) old new h = absurd (let e = h.0 in cc)

wants-release : {S : Type 0} (m : Meaning S) (place : ℕ) (found : Option (Message × List Message)) (old new : Target S) → ReleasesAt m place found old (Err target_fault.NoMemory) new → new ≡ old
wants-release m place None old new h = absurd (let e = h.0 in cc)
wants-release m place (Some (message, others)) old new h = h.2

-- ---- rounds

round-goes : {S : Type 0} (m : Meaning S) (old new : Target S) (s t : Story) → Round m old s new t → Went m old s new t
round-goes m old new s t (Writes mid now moves opened writes) = went-on m old mid new s now t (moves-go m old mid s now (Ok _) moves) (writes-go m mid new now t writes)
round-goes m old new s t (Reads mid now moves reads) = went-on m old mid new s now t (moves-go m old mid s now (Ok _) moves) (reads-go m mid new now t reads)

rounds-go : {S : Type 0} (m : Meaning S) (base : Target S) (s : Story) (n : ℕ) (new : Target S) (t : Story) → Rounds m base s n new t → Went m base s new t
rounds-go m base s n new t NoRound = went-nowhere m base base s s refl refl refl refl
rounds-go m base s n new t (OneMore before old new' now after rounds round) = went-on m base old new s now t (rounds-go m base s before old now rounds) (round-goes m old new now t round)

ends-so : {S : Type 0} (m : Meaning S) (old new : Target S) (s t : Story) (how : Ended) → LastRound m old s new t how → Stopped m old s new t
ends-so m old new s t how (Closes mid now moves closed writes) =
    ends-went m old new s t (went-on m old mid new s now t (moves-go m old mid s now (Ok _) moves) (writes-go m mid new now t writes))
ends-so m old new s t how (CantWrite came mid now moves some loses-it) = ends-on m old mid new s now t (moves-go m old mid s now came moves) (cant-write m mid new now t loses-it)
ends-so m old new s t how (CantFlush none fails is) = cant-flush m old new s t is fails
ends-so m old new s t how (CantRead mid now moves loses-it) = ends-went m old new s t (went-on m old mid new s now t (moves-go m old mid s now (Ok _) moves) (cant-read m mid new now t loses-it))
ends-so m old new s t how (Faults fault turned same) =
    ends-went m old new s t
    (went-quietly m old new s t TargetLoses (loses m old new (faults-lose m (front_of old.end) old new fault turned)) refl refl (ap (λ (x : Story). x.read) same) (ap (λ (x : Story). x.written) same) (ap (λ (x : Story). x.failed_writes) same))
ends-so m old new s t how (WantsToTurn turned same) =
    ends-went m old new s t (went-nowhere m old new s t (wants-same m (front_of old.end) old new turned) (ap (λ (x : Story). x.read) same) (ap (λ (x : Story). x.written) same) (ap (λ (x : Story). x.failed_writes) same))
ends-so m old new s t how (WantsToRelease none releases same) =
    ends-went m old new s t
    (went-nowhere m old new s t (wants-release m (length old.deferred - 1) (deferred_at (length old.deferred - 1) old) old new releases.1) (ap (λ (x : Story). x.read) same) (ap (λ (x : Story). x.written) same)
    (ap (λ (x : Story). x.failed_writes) same))
ends-so m old new s t how (WantsToStep fault mid now moves writes) = ends-went m old new s t (went-on m old mid new s now t (moves-go m old mid s now (Err fault) moves) (writes-go m mid new now t writes))

runs-end : {S : Type 0} (m : Meaning S) (rounds : ℕ) (base new : Target S) (s t : Story) (how : Ended) → Runs m rounds base s how new t → Stopped m base s new t
runs-end m rounds base new s t how (All new' now all) = ends-went m base new s t (rounds-go m base s rounds new t all)
runs-end m rounds base new s t how (Until n old new' before after how' few all last) = ends-on m base old new s before t (rounds-go m base s n old before all) (ends-so m old new before t how last)

-- ---- the last flush

flushes : {S : Type 0} (m : Meaning S) (base new : Target S) (s t : Story) → Stopped m base s new t → TargetActs m base s new (flushed t)
flushes m base new s t h = record { moves = h.acts.moves; runs = h.acts.runs; read = h.acts.read; written = h.acts.written }

-- it fails, and what was not lost before is lost
fails-more : {S : Type 0} (m : Meaning S) (base new : Target S) (s t u : Story) → Stopped m base s new t → FailsFlush t u → u.failed_writes ≡ s.failed_writes → ⊥
fails-more m base new s t u h fails f =
    let more : u.failed_writes ≡ t.failed_writes + 1 = ap (λ (x : Story). x.failed_writes) fails in
    let least = h.failed in
    omega (arith, more, least, f)

fails-lost : {S : Type 0} (m : Meaning S) (base new : Target S) (s t u : Story) → Stopped m base s new t → FailsFlush t u → TargetActs m base s (lost_target new) u
fails-lost m base new s t u h fails = record {
  moves = h.acts.moves ++ record { act = TargetLoses; behind = lost_target new } ∷ [];
  runs = leads-all (TargetDoes m) base new (lost_target new) h.acts.moves _ h.acts.runs (leads-one (TargetDoes m) new (lost_target new) TargetLoses (loses m new (lost_target new) refl));
  read = bytes-on to_target h.acts.moves (record { act = TargetLoses; behind = lost_target new } ∷ []) s.read t.read u.read h.acts.read (ap (λ (x : Story). x.read) fails ∙ sym (append-nil t.read));
  written = λ f. absurd (fails-more m base new s t u h fails f);
}

fails-kept : {S : Type 0} (m : Meaning S) (base new : Target S) (s t u : Story) → Stopped m base s new t → FailsFlush t u → TargetActs m base s new u
fails-kept m base new s t u h fails = record {
  moves = h.acts.moves;
  runs = h.acts.runs;
  read = ap (λ (x : Story). x.read) fails ∙ h.acts.read;
  written = λ f. absurd (fails-more m base new s t u h fails f);
}

fails-so : {S : Type 0} (m : Meaning S) (base new : Target S) (s t u : Story) (how : Ended) → Stopped m base s new t → FailsFlush t u → TargetActs m base s (unflushed_target how new) u
fails-so m base new s t u ended.Done h fails = fails-lost m base new s t u h fails
fails-so m base new s t u ended.NoMemory h fails = fails-lost m base new s t u h fails
fails-so m base new s t u ended.TurnLimit h fails = fails-lost m base new s t u h fails
fails-so m base new s t u ended.LostByRead h fails = fails-kept m base new s t u h fails
fails-so m base new s t u ended.LostByWrite h fails = fails-kept m base new s t u h fails
fails-so m base new s t u (ended.Refused number) h fails = fails-kept m base new s t u h fails

pub serves-by-acts : {S : Type 0} (m : Meaning S) (rounds : ℕ) (first : Target S) (before : Story) (how : Ended) (last : Target S) (after : Story) → Serves m rounds first before how last after → TargetActs m first before last after
serves-by-acts m rounds first before how last after (Leaves how' new now runs) = flushes m first last before now (runs-end m rounds first last before now how runs)
serves-by-acts m rounds first before how last after (Stays how' new now after' runs fails) = fails-so m first new before now after how' (runs-end m rounds first new before now how' runs) fails

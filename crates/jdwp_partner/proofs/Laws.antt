-- What calls of a target keep.
use Rattle.std.proofs.Common.{◌≡◌, ◌∙◌, ℕ, Bool, true, false, ◌++◌, List, [], Option, Some, None, Result, Ok, Err, refl, ap, sym, append_assoc, subst, take}
use Rattle.std.proofs.lemmas.List.{append-nil}
use Rattle.std.proofs.Math.Seq.{take-nil}
use Rattle.jdwp_end.specs.Ends.{front_of, is_open}
use Rattle.jdwp_end.specs.Story.{Story}
use Rattle.jdwp_engine.specs.Rounds.{StepsEach, Over, Wants, Steps}
use Rattle.jdwp_engine.specs.Steps.{StepsIf}
use Rattle.jdwp_machine.specs.Meanings.{Meaning}
use Rattle.jdwp_partner.specs.declared.standing.Standing.{Standing}
use Rattle.jdwp_partner.specs.declared.standing.Standing.TheVariants.{Goes, Still, AllUsed, Refused, NoMemory}
use Rattle.jdwp_partner.specs.Keeping.{IsMoved, IsStill, Keeps, Stands}
use Rattle.jdwp_partner.specs.Standings.{standing_of}
use Rattle.jdwp_target.specs.declared.target.Stepped.{Stepped}
use Rattle.jdwp_target.specs.declared.target.TargetFault.{TargetFault}
use Rattle.jdwp_target.specs.declared.target.TargetFault.TheVariants as fault
use Rattle.jdwp_target.specs.declared.target.Turn.{Turn}
use Rattle.jdwp_target.specs.Targets.{Target, with_fed, with_taken}
use Rattle.jdwp_target.specs.Turns.{ReleasesAt, StepsAt, StepsWhere, TurnsAt, is_frozen}
use Rattle.jdwp_wire.specs.Streams.{Message, NextMessage, Whole, More, Fault}

-- ---- what is kept

pub same : {S : Type 0} (t : Target S) → Keeps t t
same t = record { settings = refl; began = refl; fed = refl; taken = refl }

pub again : {S : Type 0} {old mid new : Target S} → Keeps old mid → Keeps mid new → Keeps old new
again a b = record {
  settings = b.settings ∙ a.settings;
  began = b.began ∙ a.began;
  fed = b.fed ∙ a.fed;
  taken = b.taken ∙ a.taken;
}

pub is-same : {S : Type 0} (old new : Target S) → new ≡ old → Keeps old new
is-same old new e = rw e (same old)

-- a turn
pub turn-keeps : {S : Type 0} (m : Meaning S) (next : NextMessage) (old new : Target S) (result : Result Turn TargetFault) → TurnsAt m next old result new → Keeps old new
turn-keeps m (Whole message used) old new (Ok turn) h = rw h.1 (record { settings = refl; began = refl; fed = refl; taken = refl })
turn-keeps m (Whole message used) old new (Err fault) h = is-same old new h.2
turn-keeps m More old new result h = is-same old new h.1
turn-keeps m (Fault fault) old new result h = rw h.1 (record { settings = refl; began = refl; fed = refl; taken = refl })

-- a release
pub release-keeps : {S : Type 0} (m : Meaning S) (place : ℕ) (found : Option (Message × List Message)) (old new : Target S) (result : Result Turn TargetFault) → ReleasesAt m place found old result new → Keeps old new
release-keeps m place None old new result h = is-same old new h.1
release-keeps m place (Some (message, others)) old new (Ok turn) h = rw h.1 (record { settings = refl; began = refl; fed = refl; taken = refl })
release-keeps m place (Some (message, others)) old new (Err fault) h = is-same old new h.2

-- steps
step-where : {S : Type 0} (m : Meaning S) (t : ℕ) (old new : Target S) (stepped : Stepped) (b : Bool) → StepsWhere m t old stepped new b → Keeps old new
step-where m t old new stepped true h = is-same old new h.1
step-where m t old new stepped false h = rw h.1 (record { settings = refl; began = refl; fed = refl; taken = refl })

step-keeps : {S : Type 0} (m : Meaning S) (t : ℕ) (old new : Target S) (result : Result Stepped TargetFault) → StepsAt m t old result new → Keeps old new
step-keeps m t old new (Ok stepped) h = step-where m t old new stepped (is_frozen m t old) h
step-keeps m t old new (Err fault) h = is-same old new h.3

pub steps-keep : {S : Type 0} (m : Meaning S) (last : Option ℕ) (old new : Target S) (came : Result Bool TargetFault) → StepsEach m last old came new → Keeps old new
steps-keep m last old new came (Over last' target over) = same old
steps-keep m last old new came (Wants last' old' new' t fault next steps) = step-keeps m t old' new' (Err fault) steps
steps-keep m last old new came (Steps last' old' mid new' t stepped more next steps reads rest) =
    again (step-keeps m t old' mid (Ok stepped) steps) (steps-keep m (Some t) mid new' more rest)

-- ---- how a target stands

-- a call that failed says neither that nothing more can happen nor that all rounds were used
pub stands-of : {S : Type 0} (m : Meaning S) (f : TargetFault) (target : Target S) (rounds : ℕ) → Stands m (standing_of f) rounds target
stands-of m (fault.Frame f) target rounds = tt
stands-of m fault.NoMemory target rounds = tt

-- one at which nothing waits stands as before once nothing is taken
pub stands-taken : {S : Type 0} (m : Meaning S) (standing : Standing) (rounds : ℕ) (old new : Target S) → (old.end.outgoing ≡ [] → new ≡ old) → Stands m standing rounds old → Stands m standing rounds new
stands-taken m Goes rounds old new none h = tt
stands-taken m Still rounds old new none h = rw (none h.idle) h
stands-taken m AllUsed rounds old new none h = h
stands-taken m (Refused number) rounds old new none h = tt
stands-taken m NoMemory rounds old new none h = tt

-- where no thread made a step, nothing changed
pub still-of : {S : Type 0} (m : Meaning S) (old new : Target S) (stepped : Bool) → stepped ≡ false → StepsIf old new stepped → StepsEach m None old (Ok stepped) new
    → old.end.outgoing ≡ [] → front_of old.end ≡ More → old.deferred ≡ [] → IsStill m new
still-of m old new true e kept each idle front deferred = absurd (let f = e in cc)
still-of {S = S} m old new false e unchanged each idle front deferred =
    subst (λ (t : Target S). IsStill m t) (sym unchanged)
    (record { idle = idle; front = front; deferred = deferred; steps = subst (λ (t : Target S). StepsEach m None old (Ok false) t) unchanged each })

-- ---- what moved

pub moved-kept : {S : Type 0} {old new : Target S} {story : Story} → Keeps old new → (is_open new.end ≡ true → is_open old.end ≡ true) → IsMoved old story → IsMoved new story
moved-kept k opened h = record {
  fed = rw k.fed h.fed;
  all = λ now. h.all (opened now) ∙ sym k.fed;
  read = h.read ∙ sym k.taken;
}

pub moved-fed : {S : Type 0} (bytes : List ℕ) (t : Target S) (old new : Story) → is_open t.end ≡ true → new.written ≡ old.written ++ bytes → new.read ≡ old.read → IsMoved t old → IsMoved (with_fed bytes t) new
moved-fed bytes t old new opened written read h =
    let is : new.written ≡ t.end.session.fed ++ bytes = written ∙ ap (λ (x : List ℕ). x ++ bytes) (h.all opened) in
    record {
      fed = ([], is ∙ sym (append-nil (t.end.session.fed ++ bytes)));
      all = λ now. is;
      read = read ∙ h.read;
    }

pub moved-dropped : {S : Type 0} (bytes : List ℕ) (t : Target S) (old new : Story) → is_open t.end ≡ false → new.written ≡ old.written ++ bytes → new.read ≡ old.read → IsMoved t old → IsMoved t new
moved-dropped bytes t old new over written read h = record {
  fed = (h.fed.0 ++ bytes, written ∙ (ap (λ (x : List ℕ). x ++ bytes) h.fed.1 ∙ append_assoc t.end.session.fed h.fed.0 bytes));
  all = λ now. absurd (let e = sym over ∙ now in cc);
  read = read ∙ h.read;
}

pub moved-taken : {S : Type 0} (bytes : List ℕ) (t : Target S) (old new : Story) → new.read ≡ old.read ++ bytes → new.written ≡ old.written → IsMoved t old → IsMoved (with_taken bytes t) new
moved-taken bytes t old new read written h = record {
  fed = (h.fed.0, written ∙ h.fed.1);
  all = λ now. written ∙ h.all now;
  read = read ∙ ap (λ (x : List ℕ). x ++ bytes) h.read;
}

-- nothing is taken where nothing waits
pub taken-none : {S : Type 0} (n : ℕ) (t : Target S) → t.end.outgoing ≡ [] → with_taken (take n t.end.outgoing) t ≡ t
taken-none n t idle =
    let none : take n t.end.outgoing ≡ [] = ap (λ (x : List ℕ). take n x) idle ∙ take-nil n in
    rw (none, append-nil t.end.session.taken) refl

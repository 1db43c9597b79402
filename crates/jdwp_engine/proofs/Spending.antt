-- A round has one turn that takes a message off, or one read, at most.
use Rattle.std.proofs.Common.{◌≡◌, ◌∙◌, ℕ, ◌≤◌, ◌+◌, Bool, true, false, List, Option, Some, None, Result, Ok, Err, ap, refl, arith}
use Rattle.jdwp_wire.specs.Streams.{Message, NextMessage, Whole, More, Fault}
use Rattle.jdwp_end.specs.Ends.{front_of}
use Rattle.jdwp_machine.specs.Meanings.{Meaning}
use Rattle.jdwp_target.specs.declared.target.Stepped.{Stepped}
use Rattle.jdwp_target.specs.declared.target.TargetFault.{TargetFault}
use Rattle.jdwp_target.specs.declared.target.Turn.{Turn}
use Rattle.jdwp_target.specs.Targets.{Target, opened_target}
use Rattle.jdwp_target.specs.Turns.{ReleasesAt, StepsWhere, TurnsAt, is_frozen}
use Rattle.jdwp_end.specs.declared.pipes.ended.Ended.{Ended}
use Rattle.jdwp_end.specs.declared.pipes.ended.Ended.TheVariants.{Done, LostByRead, LostByWrite, Refused, NoMemory, TurnLimit}
use Rattle.jdwp_end.specs.Story.{Story}
use Rattle.jdwp_engine.specs.Rounds.{StepsEach, Over, Wants}
use Rattle.jdwp_engine.specs.Rounds as rounds
use Rattle.jdwp_engine.specs.Sessions.{LastRound, Moves, Round, Rounds, Runs, Serves, Turns, Releases, Steps, Writes, Reads, Closes, CantWrite, CantFlush, CantRead, Faults, WantsToTurn, WantsToRelease, WantsToStep, NoRound, OneMore, All, Until, Leaves, Stays, unflushed_target}

-- turns that handled a message, and reads with room
abbrev turns : {S : Type 0} → Target S → ℕ
turns target = target.end.session.turns

abbrev spent : {S : Type 0} → Target S → Story → ℕ
spent target story = turns target + story.rooms

-- ---- steps handle nothing

where-turns : {S : Type 0} (m : Meaning S) (t : ℕ) (old new : Target S) (stepped : Stepped) (frozen : Bool) → StepsWhere m t old stepped new frozen → turns new ≡ turns old
where-turns {S = S} m t old new stepped true h = ap (λ (x : Target S). turns x) h.1
where-turns {S = S} m t old new stepped false h = ap (λ (x : Target S). turns x) h.1

steps-turns : {S : Type 0} (m : Meaning S) (last : Option ℕ) (old new : Target S) (came : Result Bool TargetFault) → StepsEach m last old came new → turns new ≡ turns old
steps-turns m last old new came (Over last' target over) = refl
steps-turns {S = S} m last old new came (Wants last' old' new' t fault next s) = ap (λ (x : Target S). turns x) s.3
steps-turns m last old new came (rounds.Steps last' old' mid new' t stepped more next s reads rest) =
    steps-turns m _ mid new' more rest ∙ where-turns m t old' mid stepped (is_frozen m t old') s

-- a turn handles one message, or none
turn-turns : {S : Type 0} (m : Meaning S) (next : NextMessage) (old new : Target S) (turn : Turn) → TurnsAt m next old (Ok turn) new → turns new ≤ turns old + 1
turn-turns m (Whole message used) old new turn h = rw h.1 (omega arith)
turn-turns m More old new turn h = rw h.1 (omega arith)
turn-turns m (Fault fault) old new turn h = absurd (let e = h.0 in cc)

stops-turns : {S : Type 0} (m : Meaning S) (next : NextMessage) (old new : Target S) (fault : TargetFault) → TurnsAt m next old (Err fault) new → turns new ≡ turns old
stops-turns {S = S} m (Whole message used) old new fault h = ap (λ (x : Target S). turns x) h.2
stops-turns m More old new fault h = absurd (let e = h.0 in cc)
stops-turns {S = S} m (Fault fault') old new fault h = ap (λ (x : Target S). turns x) h.1

-- a release takes none off
release-turns : {S : Type 0} (m : Meaning S) (place : ℕ) (o : Option (Message × List Message)) (old new : Target S) (turn : Turn) → ReleasesAt m place o old (Ok turn) new → turns new ≡ turns old
release-turns {S = S} m place None old new turn h = ap (λ (x : Target S). turns x) h.1
release-turns {S = S} m place (Some (message, others)) old new turn h = ap (λ (x : Target S). turns x) h.1

unreleased-turns : {S : Type 0} (m : Meaning S) (place : ℕ) (o : Option (Message × List Message)) (old new : Target S) (fault : TargetFault) → ReleasesAt m place o old (Err fault) new → turns new ≡ turns old
unreleased-turns m place None old new fault h = absurd (let e = h.0 in cc)
unreleased-turns {S = S} m place (Some (message, others)) old new fault h = ap (λ (x : Target S). turns x) h.2

-- ---- rounds

moves-spent : {S : Type 0} (m : Meaning S) (old mid : Target S) (before now : Story) (came : Result Bool TargetFault) → Moves m old before came mid now → spent mid now ≤ spent old before + 1
moves-spent m old mid before now came (Turns turn mid' some turned reads) = omega (arith, turn-turns m (front_of old.end) old mid' turn turned)
moves-spent m old mid before now came (Releases turn mid' asks released reads) = omega (arith, release-turns m _ _ old mid' turn released.1)
moves-spent m old mid before now came (Steps came' mid' asks none each) = omega (arith, steps-turns m None old mid' came' each)

-- where nothing was handled
rests-spent : {S : Type 0} (m : Meaning S) (old mid : Target S) (before now : Story) (came : Result Bool TargetFault) → came ≡ Ok false → Moves m old before came mid now → spent mid now ≡ spent old before
rests-spent m old mid before now came rests (Turns turn mid' some turned reads) = absurd (let e = rests in cc)
rests-spent m old mid before now came rests (Releases turn mid' asks released reads) = absurd (let e = rests in cc)
rests-spent m old mid before now came rests (Steps came' mid' asks none each) = omega (arith, steps-turns m None old mid' came' each)

round-spent : {S : Type 0} (m : Meaning S) (old new : Target S) (before after : Story) → Round m old before new after → spent new after ≤ spent old before + 1
round-spent m old new before after (Writes mid now moves opened writes) = rw (writes.0, writes.1) (moves-spent m old mid before now (Ok true) moves)
round-spent m old new before after (Reads mid now moves reads) = rw (reads.1, reads.2) (omega (arith, rests-spent m old mid before now (Ok false) refl moves))

rounds-spent : {S : Type 0} (m : Meaning S) (base : Target S) (start : Story) (new : Target S) (now : Story) (n : ℕ) → Rounds m base start n new now → spent new now ≤ spent base start + n
rounds-spent m base start new now n NoRound = omega arith
rounds-spent m base start new now n (OneMore n' old new' before after more round) = omega (arith, rounds-spent m base start old before n' more, round-spent m old new' before after round)

last-spent : {S : Type 0} (m : Meaning S) (old new : Target S) (before after : Story) (how : Ended) → LastRound m old before new after how → spent new after ≤ spent old before + 1
last-spent m old new before after how (Closes mid now moves shut writes) = rw (writes.0, writes.1) (moves-spent m old mid before now (Ok true) moves)
last-spent m old new before after how (CantWrite came mid now moves some loses) = rw (loses.1.2, loses.2) (moves-spent m old mid before now came moves)
last-spent m old new before after how (CantFlush asks fails is) = rw (is, fails) (omega arith)
last-spent m old new before after how (CantRead mid now moves loses) = rw (loses.0, loses.1.rooms) (omega (arith, rests-spent m old mid before now (Ok false) refl moves))
last-spent m old new before after how (Faults fault turned same) = rw same (omega (arith, stops-turns m (front_of old.end) old new _ turned))
last-spent m old new before after how (WantsToTurn turned same) = rw same (omega (arith, stops-turns m (front_of old.end) old new _ turned))
last-spent m old new before after how (WantsToRelease asks released same) = rw same (omega (arith, unreleased-turns m _ _ old new _ released.1))
last-spent m old new before after how (WantsToStep fault mid now moves writes) = rw (writes.0, writes.1) (moves-spent m old mid before now (Err fault) moves)

-- ---- a session

runs-spent : {S : Type 0} (m : Meaning S) (most : ℕ) (base new : Target S) (start now : Story) (how : Ended) → Runs m most base start how new now → spent new now ≤ spent base start + most
runs-spent m most base new start now how (All new' now' rounds) = rounds-spent m base start new' now' most rounds
runs-spent m most base new start now how (Until n old new' before now' how' less rounds last) =
    omega (arith, less, rounds-spent m base start old before n rounds, last-spent m old new' before now' how' last)

kept-turns : {S : Type 0} (how : Ended) (target : Target S) → turns (unflushed_target how target) ≡ turns target
kept-turns Done target = refl
kept-turns LostByRead target = refl
kept-turns LostByWrite target = refl
kept-turns (Refused number) target = refl
kept-turns NoMemory target = refl
kept-turns TurnLimit target = refl

serves-spent : {S : Type 0} (m : Meaning S) (most : ℕ) (base new : Target S) (start now : Story) (how : Ended) → Serves m most base start how new now → spent new now ≤ spent base start + most
serves-spent m most base new start now how (Leaves how' new' now' runs) = runs-spent m most base new' start now' how' runs
serves-spent m most base new start now how (Stays how' old now' after runs fails) =
    rw fails (omega (arith, kept-turns how' old, runs-spent m most base old start now' how' runs))

-- of a session that begins
pub opened-spent : {S : Type 0} (m : Meaning S) (most : ℕ) (old base new : Target S) (start now : Story) (how : Ended) → base ≡ opened_target old → Serves m most base start how new now
    → new.end.session.turns + now.rooms ≤ most + start.rooms
opened-spent {S = S} m most old base new start now how begins serves =
    let none : turns base ≡ 0 = ap (λ (x : Target S). turns x) begins in
    omega (arith, none, serves-spent m most base new start now how serves)

-- what each end did in a merge are sessions of its own
use Rattle.std.proofs.Common.{ℕ, refl, sym, ap, subst}
use Rattle.jdwp_machine.specs.Meanings.{Meaning}
use Rattle.jdwp_debuggee.specs.Settings.{Settings}
use Rattle.jdwp_wire.specs.Limits.{Limits}
use Rattle.jdwp_across.specs.Acting.{both}
use Rattle.jdwp_across.specs.Merges as merging
use Rattle.jdwp_across.specs.Others.{Accepts, Attaches, DebuggerActed, HasAttached, HasServed, MergesAreSessions, NewDebugger, NewTarget, TargetActed}
use Rattle.jdwp_across.specs.Programs.{Act, ComesToDebugger, ComesToTarget, Connects, DebuggerAsks, DebuggerLoses, DebuggerNumbers, DebuggerTurns, Does, LeavesDebugger, LeavesTarget, Programs, TargetDefers, TargetLoses, TargetReleases, TargetSteps, TargetTurns}

act-served : {S : Type 0} (m : Meaning S) (settings : Settings) (s : S) (act : Act) (old new : Programs S) → Does m act old new → HasServed m settings s old.target → HasServed m settings s new.target
act-served m settings s Connects old new (shut, unheard, lives, is) h = subst (λ v. HasServed m settings s v.target) (sym is) (Accepts old.target h shut lives)
act-served m settings s (ComesToTarget bytes) old new is h = TargetActed (ComesToTarget bytes) old.target new.target h (refl, λ d. ap (λ v. both v.target d) is)
act-served m settings s (LeavesTarget bytes) old new is h = TargetActed (LeavesTarget bytes) old.target new.target h (refl, λ d. ap (λ v. both v.target d) is)
act-served m settings s (TargetTurns turn) old new (so, encoded, sends, same) h = TargetActed (TargetTurns turn) old.target new.target h (refl, λ d. (so, encoded, sends, refl))
act-served m settings s (TargetReleases place turn) old new (so, encoded, sends, same) h = TargetActed (TargetReleases place turn) old.target new.target h (refl, λ d. (so, encoded, sends, refl))
act-served m settings s (TargetSteps t stepped) old new (so, encoded, sends, same) h = TargetActed (TargetSteps t stepped) old.target new.target h (refl, λ d. (so, encoded, sends, refl))
act-served m settings s (TargetDefers deferring) old new is h = TargetActed (TargetDefers deferring) old.target new.target h (refl, λ d. ap (λ v. both v.target d) is)
act-served m settings s TargetLoses old new is h = TargetActed TargetLoses old.target new.target h (refl, λ d. ap (λ v. both v.target d) is)
act-served m settings s (ComesToDebugger bytes) old new is h = subst (λ v. HasServed m settings s v.target) (sym is) h
act-served m settings s (LeavesDebugger bytes) old new is h = subst (λ v. HasServed m settings s v.target) (sym is) h
act-served m settings s (DebuggerAsks c ticket) old new (free, given, asked, same) h = subst (HasServed m settings s) (sym same) h
act-served m settings s (DebuggerNumbers id) old new (small, is) h = subst (λ v. HasServed m settings s v.target) (sym is) h
act-served m settings s (DebuggerTurns r lost) old new (after, so, gone, is) h = subst (λ v. HasServed m settings s v.target) (sym is) h
act-served m settings s (DebuggerLoses lost) old new (gone, is) h = subst (λ v. HasServed m settings s v.target) (sym is) h

act-attached : {S : Type 0} (m : Meaning S) (limits : Limits) (id : ℕ) (act : Act) (old new : Programs S) → Does m act old new → HasAttached m limits id old.debugger → HasAttached m limits id new.debugger
act-attached m limits id Connects old new (shut, unheard, lives, is) h = subst (λ v. HasAttached m limits id v.debugger) (sym is) (Attaches old.debugger h unheard)
act-attached m limits id (ComesToTarget bytes) old new is h = subst (λ v. HasAttached m limits id v.debugger) (sym is) h
act-attached m limits id (LeavesTarget bytes) old new is h = subst (λ v. HasAttached m limits id v.debugger) (sym is) h
act-attached m limits id (TargetTurns turn) old new (so, encoded, sends, same) h = subst (HasAttached m limits id) (sym same) h
act-attached m limits id (TargetReleases place turn) old new (so, encoded, sends, same) h = subst (HasAttached m limits id) (sym same) h
act-attached m limits id (TargetSteps t stepped) old new (so, encoded, sends, same) h = subst (HasAttached m limits id) (sym same) h
act-attached m limits id (TargetDefers deferring) old new is h = subst (λ v. HasAttached m limits id v.debugger) (sym is) h
act-attached m limits id TargetLoses old new is h = subst (λ v. HasAttached m limits id v.debugger) (sym is) h
act-attached m limits id (ComesToDebugger bytes) old new is h = DebuggerActed (ComesToDebugger bytes) old.debugger new.debugger h (refl, λ t. ap (λ v. both t v.debugger) is)
act-attached m limits id (LeavesDebugger bytes) old new is h = DebuggerActed (LeavesDebugger bytes) old.debugger new.debugger h (refl, λ t. ap (λ v. both t v.debugger) is)
act-attached m limits id (DebuggerAsks c ticket) old new (free, given, asked, same) h = DebuggerActed (DebuggerAsks c ticket) old.debugger new.debugger h (refl, λ t. (free, given, asked, refl))
act-attached m limits id (DebuggerNumbers n) old new (small, is) h = DebuggerActed (DebuggerNumbers n) old.debugger new.debugger h (refl, λ t. (small, ap (λ v. both t v.debugger) is))
act-attached m limits id (DebuggerTurns r lost) old new (after, so, gone, is) h = DebuggerActed (DebuggerTurns r lost) old.debugger new.debugger h (refl, λ t. (after, so, gone, ap (λ v. both t v.debugger) is))
act-attached m limits id (DebuggerLoses lost) old new (gone, is) h = DebuggerActed (DebuggerLoses lost) old.debugger new.debugger h (refl, λ t. (gone, ap (λ v. both t v.debugger) is))

pub merges-are-sessions : {S : Type 0} (m : Meaning S) → MergesAreSessions m
merges-are-sessions m settings s id acts v merging.Start = (NewTarget, NewDebugger)
merges-are-sessions m settings s id acts v (merging.More before act old new merged does agrees) =
    let h = merges-are-sessions m settings s id before old merged in
    (act-served m settings s act old new does h.0, act-attached m settings.limits id act old new does h.1)

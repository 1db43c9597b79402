-- A handle that is not live owns nothing, wherever it points.
use Rattle.std.proofs.Common.{◌≡◌, List, [], ◌∷◌, ◌++◌, refl, sym, subst}
use mir.Val.{Val, vbool}
use base.Logic.{SProp, ent, emp, id⊢}
use prog.Wp.{WpFn}
use types.Kit.{‵, raw, ◌⊛◌, ◌$◌, ◌∵◌, !, qed, by, move, keep, drop, split, fsplit3, fjoin, suffices, use0, rewrite}
use types.Run.{false_lit, no_more, and_then, returns, enter}
use types.ByLocal.{alloc_all, pass_all, free_all, look_at, get, sets}
use types.Part.{agg}
use contract.Monad.{fact, fact_i}
use contract.Running.{tables}
use denote.Exit.{yes}
use denote.RattleType.{owns}
use denote.Signature.{types_at, plain}
use denote.RawPtr.{RawPtr, ptr_val, rawptr_Tells}
use denote.Steps.{nothing}
use denote.Param.{layout}
use denote.Triple.Entry.{alive}
use denote.Triple.Walked.{Stays, stay_dropped, walk_of, Goes-dropped}
use Rattle.std.proofs.cell.Inside.{one}
use Rattle.std.proofs.raw_atomic.Walks.{proved_at, leaves}
use Rattle.std.proofs.alloc.Global.TheLaws as heap_laws
use Rattle.std.specs.declared.option.Option.{Option}
use Rattle.std.specs.declared.option.Option.TheVariants.{None}
use mathlib.Core.Bool.{false}
use Rattle.milunovesk_c.proofs.HandleValues.{three, Z, R, ptr_good, handle_good, handle_in}
use Rattle.milunovesk_c.specs.contracts.handle.Handle.none.{ended, clauses}
use Rattle.milunovesk_c.specs.contracts.handle.Handle.none.Key.{name as #self}
use Rattle.milunovesk_c.proofs.handle.Handle.none.Statement.{statement}
use Rattle.milunovesk_c.proofs.handle.Handle.none.Code as code

pub none_spec : {M : Type 1} → statement M
none_spec 𝓤 𝓛 𝓜 𝓡 wired =
    let H = 𝓛.H in let 𝓣 = tables 𝓤 H 𝓜 𝓡 𝓡.env in let c = clauses 𝓛 𝓜.mem 𝓡.returns in let fn = code.function in
    let hs : Stays ended.signature.params ended.kept = (stay_dropped (plain (λ _. RawPtr)) yes, (stay_dropped (plain (λ _. Z)) yes, tt)) in
    proved_at 𝓛 ended hs c 𝓜 𝓡 (Goes-dropped 𝓛 0 (plain (λ _. RawPtr)) yes (λ κs x f. refl), (Goes-dropped 𝓛 0 (plain (λ _. Z)) yes (λ κs x f. refl), tt)) #self fn (code.unfolded 𝓤 H 𝓜 𝓡 wired) (λ z are.
    let κs = z.0.0 in let qs = z.0.1 in let p = z.0.3.0 in let a = z.0.3.1.0 in let Post : Val → SProp 𝓤 = (walk_of 𝓛 ended hs c).post z in let Run : List Val → SProp 𝓤 = λ ws. WpFn 𝓤 H 𝓣.C 𝓣.Λ fn ws Post in
    let h = one (layout Z) z.0.4.1.0 ((heap_laws.the_row_laws.lawful 𝓛).typed a z.0.4.1.0 are.1.0) in let ep = rawptr_Tells p z.0.4.0 are.0 in
    qed 𝓛 ((raw (alive 𝓛 ended.signature κs qs) ⊛ ‵ (owns (types_at ended.signature.params κs) z.0.3 z.0.4)) ∷ raw ((c κs z.0.3).requires z.1) ∷ []) ∵ split ! $ move ! (1 ∷ []) $ fsplit3 ! $ drop ! $
    rewrite ! 0 (λ (us : List Val). ‵ (Z.own_val a us)) h.1 refl $
    suffices ! (Run (ptr_val p ∷ h.0 ∷ [])) (subst (λ (us : List Val). ent 𝓤 (Run (ptr_val p ∷ h.0 ∷ [])) (Run us)) (sym (λ i. ep i ++ (h.1 i ++ []))) (id⊢ 𝓤 (Run (ptr_val p ∷ h.0 ∷ [])))) $
    enter ! 𝓣.C 𝓣.Λ fn (ptr_val p ∷ h.0 ∷ []) Post $ alloc_all ! (λ l. pass_all ! refl (ptr_good p, (h.2, tt)) $
    sets ! (agg ! (and_then ! (false_lit !) (and_then ! (get ! refl) (and_then ! (get ! refl) (no_more !))))) refl (handle_good false p h.0 h.2) $
    nothing ! $ handle_in ! false p h.0 a None $
    let n : Option R.Denot = None in use0 𝓛 (raw (fact 𝓤 (n ≡ None))) (fact_i 𝓤 (n ≡ None) (emp 𝓤) refl) $ nothing ! $ nothing ! $ fjoin ! $ nothing ! $ fjoin ! $
    returns ! (look_at ! 0 refl) $ free_all ! refl $ keep ! (4 ∷ 0 ∷ 2 ∷ 1 ∷ []) $ by ! (leaves 𝓛 ended hs c z (three (vbool false) (ptr_val p) h.0) (record { live = false; at = p; alloc = a; value = None }) (tt, (tt, tt)) (tt, (tt, tt)))))

-- The box is made again by a call of `from_raw`, whose result is passed on.
use Rattle.std.proofs.Common.{◌≡◌, List, [], ◌∷◌, ◌++◌, refl, sym, ap, subst}
use mir.Syntax.{a_type, dcons, dnil}
use mir.Val.{Val, vptr}
use mir.MapTy.{inst_fn}
use base.Logic.{SProp, ent, id⊢}
use base.Fml.{ftrue, flft}
use prog.Wp.{WpFn}
use types.Kit.{‵, raw, ◌⊛◌, some, later, at_ret, ◌$◌, ◌∵◌, !, qed, by, move, keep, drop, split, split3, join, fsplit, fjoin, pick, suffices, use1, await, rewrite, feq_i}
use types.Run.{stop, fld, of_opd, no_more, and_then, first, blocks, exec, returns, enter}
use types.ByLocal.{alloc_all, pass_all, free_all, look_at, get, get_in, sets, lands_last, env}
use types.Part.{sub, whole}
use contract.Monad.{fact}
use contract.BorrowLft.{◌⊑◌}
use contract.Running.{tables}
use denote.Exit.{no}
use denote.RattleType.{RattleType, owns}
use denote.Signature.{types_at, plain}
use denote.RawPtr.{block_ptr}
use denote.Steps.{nothing, only}
use denote.Param.{param, layout, bounded}
use denote.Param.Laws.{param_laws}
use denote.Triple.Clauses.{Lasts, lasts}
use denote.Triple.Spec.{triple_of}
use denote.Triple.Call.{calls_at_last}
use denote.Triple.Table.{framed}
use denote.Triple.Walked.{Stays, stay_dropped, walk_of}
use Rattle.std.proofs.alloc.Calls.{Goes-blank}
use Rattle.std.proofs.alloc.Shapes.{after}
use Rattle.std.proofs.cell.Inside.{Good}
use Rattle.std.proofs.raw_atomic.Walks.{proved_at, leaves}
use Rattle.std_alloc.specs.contracts.boxed.Box.from_raw as made_again
use Rattle.std_alloc.proofs.boxed.Box.from_raw.Met.{met}
use Rattle.std_alloc.proofs.BoxSteps.Form as box
use Rattle.std_alloc.proofs.BoxSteps.Steps.{box_out, box_in}
use Rattle.milunovesk_c.proofs.LooseValues.{pair_of, Loose, pair_fits, opened}
use Rattle.milunovesk_c.specs.contracts.loose.Loose.into_box.{ended, clauses}
use Rattle.milunovesk_c.specs.contracts.loose.Loose.into_box.Key.{name as #self}
use Rattle.milunovesk_c.proofs.loose.Loose.into_box.Statement.{statement}
use Rattle.milunovesk_c.proofs.loose.Loose.into_box.Code as code

pub into_box_spec : {M : Type 1} → statement M
into_box_spec 𝓤 𝓛 𝓜 𝓡 wired T A lawful_T lawful_A g table drop_T drop_A allocates frees_T frees_A =
    -- the function, at these types, and what it is to do
    let H = 𝓛.H in
    let world = tables 𝓤 H 𝓜 𝓡 𝓡.env in
    let types = bounded (a_type ∷ a_type ∷ []) (T, (A, tt)) (dcons table (dcons drop_T (dcons drop_A dnil))) in
    let body = inst_fn types code.function in
    let R : RattleType = param 0 T in
    let Z : RattleType = param 1 A in
    let lawful = param_laws 1 A lawful_A in
    let meant = ended T A g table drop_T drop_A in
    let says = clauses T A g table drop_T drop_A 𝓛 𝓜.mem 𝓡.returns in
    let boxed : box.Bx = record { row = T; laws = lawful_T; al = record { row = A; laws = lawful_A; g = g; d = table; drops = drop_A } } in
    let stays : Stays meant.signature.params meant.kept = (stay_dropped (plain (λ _. Loose R Z lawful g)) no, tt) in
    proved_at 𝓛 meant stays says 𝓜 𝓡 (Goes-blank 𝓛 2 (plain (λ _. Loose R Z lawful g)) no (λ κs x f. tt), tt) (#self types) body (code.unfolded 𝓤 H 𝓜 𝓡 wired (T, (A, tt)) table drop_T drop_A) (λ z are.
    let κs = z.0.0 in
    let shares = z.0.1 in
    let given = z.0.3.0 in
    let a = given.alloc in
    let Post : Val → SProp 𝓤 = (walk_of 𝓛 meant stays says).post z in
    let Runs : List Val → SProp 𝓤 = λ arguments. WpFn 𝓤 H world.C world.Λ body arguments Post in
    let lifetimes = ‵ (flft κs.0 shares.0) ⊛ ‵ (flft κs.1.0 shares.1.0) ⊛ ‵ ftrue in
    let required = raw ((says κs z.0.3).requires z.1) in
    qed 𝓛 ((lifetimes ⊛ ‵ (owns (types_at meant.signature.params κs) z.0.3 z.0.4)) ∷ required ∷ []) ∵
    split ! $ move ! (1 ∷ []) $ fsplit ! $
    -- the struct has the pointer of an owned block
    opened R Z lawful g ! given z.0.4.0 (λ block offset h lies are_words fits.
    let word : Val = pair_of (vptr block offset) h in
    let typed = pair_fits R Z lawful g block offset h fits in
    -- the call is to get the allocator, the pointer and what the block owns
    let call = triple_of 𝓛 (made_again.signature T A g table drop_A) (made_again.spec T A g table drop_A 𝓛 𝓜.mem 𝓡.returns) in
    let passed : call.Ghost = ((κs, shares, tt, (a, (block_ptr block offset, tt)), (h ∷ [], (vptr block offset ∷ [], tt))), given.value) in
    let Back : RattleType = box.B boxed in
    move ! (4 ∷ []) $ use1 𝓛 (raw (fact 𝓤 (κs.0 ⊑ T.lives)) ⊛ raw (fact 𝓤 (κs.1.0 ⊑ A.lives)) ⊛ ‵ ftrue) (id⊢ 𝓤 _) $ split3 ! $ move ! (2 ∷ []) $ drop ! $
    move ! (1 ∷ 2 ∷ []) $ join ! $ move ! (1 ∷ 0 ∷ []) $ join ! $
    move ! (2 ∷ []) $ feq_i ! (List Val) (vptr block offset ∷ []) (vptr block offset ∷ []) refl $ fjoin ! $
    move ! (2 ∷ 0 ∷ []) $ fjoin ! $ move ! (2 ∷ 0 ∷ []) $ join ! $ join ! $
    use1 𝓛 (raw (call.pre passed)) (id⊢ 𝓤 _) $
    suffices ! (Runs (word ∷ [])) (subst (λ (arguments : List Val). ent 𝓤 (Runs (word ∷ [])) (Runs arguments)) (sym (λ i. are_words i ++ [])) (id⊢ 𝓤 (Runs (word ∷ [])))) $
    enter ! world.C world.Λ body (word ∷ []) Post $ alloc_all ! (λ places. pass_all ! refl (typed, tt) $
    let locals = env body.locals places in
    sets ! (of_opd ! (get_in ! (fld ! refl (stop !)) (sub ! 0 refl (whole !)))) refl (tt, tt) $
    sets ! (of_opd ! (get_in ! (fld ! refl (stop !)) (sub ! 1 refl (whole !)))) refl fits $
    first ! $ blocks ! $ sets ! (of_opd ! (get ! refl)) refl fits $
    calls_at_last ! (framed 𝓤 𝓛.H 𝓜 world) call (met 𝓤 𝓛 𝓜 𝓡 (code.calls-std_alloc::boxed::Box::from_raw 𝓡.env wired) T A lawful_T lawful_A g table drop_A allocates frees_A) passed
    (and_then ! (get ! refl) (and_then ! (get ! refl) (no_more !))) (λ u.
    use1 𝓛 (later (some (λ (back : Back.Denot). (lifetimes ⊛ ‵ (Back.own_val back (u ∷ [])))
    ⊛ some (λ (ends : Lasts (made_again.ended T A g table drop_A) κs passed.0.3). ‵ (lasts (made_again.ended T A g table drop_A) κs passed.0.3 ends)
    ⊛ (raw (fact 𝓤 (back.value ≡ given.value)) ⊛ raw (fact 𝓤 (back.alloc ≡ a))))))) (id⊢ 𝓤 (call.post passed u)) $
    await ! tt $ pick ! (λ back. split ! $ move ! (1 ∷ []) $ pick ! (λ _. split3 ! $ drop ! $ move ! (2 ∷ []) $ split ! $ move ! (1 ∷ []) $
    -- what comes back is a box, and is passed on as it is
    box_out boxed ! back (u ∷ []) (λ block' offset' h' lies' are_words' fits'.
    box_in boxed ! back block' offset' back.value lies' refl $
    rewrite ! 0 (λ (words : List Val). ‵ (Back.own_val back words)) (sym are_words') refl $
    let good : Good (layout Back) u = subst (Good (layout Back)) (sym (ap only are_words')) (pair_fits R Z lawful g block' offset' h' fits') in
    lands_last ! refl good $ exec ! world.C world.Λ locals (after 3 body.body) (at_ret locals Post) $ sets ! (of_opd ! (get ! refl)) refl good $
    nothing ! $ nothing ! $ fjoin ! $
    returns ! (look_at ! 0 refl) $ free_all ! refl $ keep ! (2 ∷ 0 ∷ 1 ∷ 3 ∷ []) $
    by ! (leaves 𝓛 meant stays says z u back ((tt, (tt, tt)), tt) (tt, tt)))))))))

-- A box is taken apart by a call of `into_raw_with_allocator`, and what comes back is put into the struct.
use Rattle.std.proofs.Common.{◌≡◌, List, [], ◌∷◌, ◌++◌, refl, sym, ap, ◌∙◌, subst}
use mir.Syntax.{a_type, dcons, dnil}
use mir.Raw.{raw as bare}
use mir.Val.{Val, vptr, vstruct, of_list}
use mir.MapTy.{inst_fn}
use base.Logic.{SProp, ent, emp, never, id⊢, fst∗}
use base.Fml.{ftrue, fsep, flft}
use prog.Wp.{WpFn}
use types.Logic.{sem}
use types.Kit.{‵, raw, ◌⊛◌, some, later, ◌$◌, ◌∵◌, !, qed, by, move, keep, drop, split, split3, join, fsplit, fjoin, fpick, pick, suffices, use0, use1, await, rewrite, feq_l}
use types.Run.{stop, fld, of_opd, no_more, and_then, returns, enter}
use types.ByLocal.{alloc_all, pass_all, free_all, look_at, get, get_in, sets, lands_as}
use types.Part.{agg, sub, whole}
use contract.Monad.{fact, fact_i}
use contract.Running.{tables}
use denote.Exit.{no}
use denote.RattleType.{RattleType, owns}
use denote.Signature.{types_at, plain}
use denote.Builtin.{RawPtr}
use denote.RawPtr.{Ptr, null_ptr, ptr_val, block_ptr, in_a_block}
use denote.Steps.{nothing, only, heard}
use denote.Param.{param, layout, bounded}
use denote.Param.Laws.{param_laws}
use denote.Struct.Tuple.{Tuple}
use denote.Triple.Spec.{triple_of}
use denote.Triple.Call.{calls_at}
use denote.Triple.Table.{framed}
use denote.Triple.Walked.{Stays, stay_dropped, walk_of}
use Rattle.std.proofs.alloc.Calls.{Goes-blank, handle_tells}
use Rattle.std.proofs.raw_atomic.Walks.{proved_at, leaves}
use Rattle.std_alloc.specs.Box.Ownership.{box_owns}
use Rattle.std_alloc.specs.contracts.boxed.Box.into_raw_with_allocator as taken_apart
use Rattle.std_alloc.proofs.boxed.Box.into_raw_with_allocator.Met.{met}
use Rattle.std_alloc.proofs.BoxSteps.Form as box
use Rattle.std_alloc.proofs.BoxSteps.Steps.{box_out, box_in}
use Rattle.milunovesk_c.proofs.LooseValues.{pair_of, pair_fits, closed}
use Rattle.milunovesk_c.specs.contracts.loose.Loose.of.{ended, clauses}
use Rattle.milunovesk_c.specs.contracts.loose.Loose.of.Key.{name as #self}
use Rattle.milunovesk_c.proofs.loose.Loose.of.Statement.{statement}
use Rattle.milunovesk_c.proofs.loose.Loose.of.Code as code

pub of_spec : {M : Type 1} → statement M
of_spec 𝓤 𝓛 𝓜 𝓡 wired T A lawful_T lawful_A g table drop_T drop_A allocates frees_T frees_A =
    -- the function, at these types, and what it is to do
    let H = 𝓛.H in
    let world = tables 𝓤 H 𝓜 𝓡 𝓡.env in
    let types = bounded (a_type ∷ a_type ∷ []) (T, (A, tt)) (dcons table (dcons drop_T (dcons drop_A dnil))) in
    let body = inst_fn types code.function in
    let R : RattleType = param 0 T in
    let Z : RattleType = param 1 A in
    let lawful = param_laws 1 A lawful_A in
    let meant = ended T A g table drop_T drop_A in
    let says = clauses T A g table drop_T drop_A 𝓛 𝓜.mem 𝓡.returns in
    let boxed : box.Bx = record { row = T; laws = lawful_T; al = record { row = A; laws = lawful_A; g = g; d = table; drops = drop_A } } in
    let stays : Stays meant.signature.params meant.kept = (stay_dropped (plain (λ _. box.B boxed)) no, tt) in
    proved_at 𝓛 meant stays says 𝓜 𝓡 (Goes-blank 𝓛 2 (plain (λ _. box.B boxed)) no (λ κs x f. tt), tt) (#self types) body (code.unfolded 𝓤 H 𝓜 𝓡 wired (T, (A, tt)) table drop_T drop_A) (λ z are.
    let κs = z.0.0 in
    let shares = z.0.1 in
    let given = z.0.3.0 in
    let a = given.alloc in
    let Post : Val → SProp 𝓤 = (walk_of 𝓛 meant stays says).post z in
    let Runs : List Val → SProp 𝓤 = λ arguments. WpFn 𝓤 H world.C world.Λ body arguments Post in
    let lifetimes = ‵ (flft κs.0 shares.0) ⊛ ‵ (flft κs.1.0 shares.1.0) ⊛ ‵ ftrue in
    let required = raw ((says κs z.0.3).requires z.1) in
    qed 𝓛 ((lifetimes ⊛ ‵ (owns (types_at meant.signature.params κs) z.0.3 z.0.4)) ∷ required ∷ []) ∵
    split ! $ move ! (1 ∷ []) $ fsplit ! $
    -- the box that is given lies in a block, so its machine value is a pointer to it and the allocator's
    box_out boxed ! given z.0.4.0 (λ block offset h lies are_words fits.
    box_in boxed ! given block offset given.value lies refl $
    let word : Val = box.word boxed h block offset in
    let typed = pair_fits R Z lawful g block offset h fits in
    -- the call is to get the box, and gives a pair
    let call = triple_of 𝓛 (taken_apart.signature T A g table drop_A drop_T) (taken_apart.spec T A g table drop_A drop_T 𝓛 𝓜.mem 𝓡.returns) in
    let passed : call.Ghost = ((κs, shares, tt, (given, tt), (word ∷ [], tt)), tt) in
    let Pair = Tuple (RawPtr ∷ Z ∷ []) in
    fjoin ! $ move ! (1 ∷ 0 ∷ []) $ join ! $ join ! $
    use1 𝓛 (raw (call.pre passed)) (id⊢ 𝓤 _) $
    suffices ! (Runs (word ∷ [])) (subst (λ (arguments : List Val). ent 𝓤 (Runs (word ∷ [])) (Runs arguments)) (sym (λ i. are_words i ++ [])) (id⊢ 𝓤 (Runs (word ∷ [])))) $
    enter ! world.C world.Λ body (word ∷ []) Post $ alloc_all ! (λ places. pass_all ! refl (typed, tt) $
    sets ! (of_opd ! (get ! refl)) refl typed $
    calls_at ! (framed 𝓤 𝓛.H 𝓜 world) call (met 𝓤 𝓛 𝓜 𝓡 (code.calls-std_alloc::boxed::Box::into_raw_with_allocator 𝓡.env wired) T A lawful_T lawful_A g table drop_A drop_T allocates frees_A frees_T) passed
    (and_then ! (get ! refl) (no_more !)) (λ u.
    use1 𝓛 (later (some (λ (back : Ptr × A.Denot). (lifetimes ⊛ ‵ (Pair.own_val back (u ∷ [])))
    ⊛ some (λ (_ : (Unit {0} × (Unit {0} × Unit {0})) × Unit {0}). ‵ (fsep (fsep ftrue (fsep ftrue ftrue)) ftrue)
    ⊛ (raw (fact 𝓤 (back.1 ≡ a)) ⊛ ‵ (box_owns (g.dealloc_token a) R back.0 given.value)))))) (id⊢ 𝓤 _) $
    await ! tt $ pick ! (λ back. split ! $ move ! (1 ∷ []) $ pick ! (λ _. split3 ! $ drop ! $
    -- the allocator of the pair is the box's, and its pointer is that of a block again
    heard ! (back.1 ≡ a) (λ same.
    let owned = λ (p : Ptr). box_owns (g.dealloc_token a) R p given.value in
    let not_null = fst∗ 𝓤 (never 𝓤) (sem 𝓛 (g.dealloc_token a (bare (layout T)) null_ptr)) in
    in_a_block ! back.0 owned not_null (λ block' offset' at_block.
    move ! (1 ∷ []) $ split ! $ move ! (1 ∷ []) $ fpick ! (λ fields. fsplit ! $ feq_l ! (λ of_pair. fsplit ! $ feq_l ! (λ of_pointer. fsplit ! $
    rewrite ! 0 (λ (s : A.Denot). ‵ (A.own_val s fields.1.0)) same refl $
    handle_tells boxed.al ! a fields.1.0 (λ h' of_handle fits'.
    let made = pair_fits R Z lawful g block' offset' h' fits' in
    let pointer_is = of_pointer ∙ ap (λ (p : Ptr). ptr_val p ∷ []) at_block in
    lands_as ! (ap only (of_pair ∙ (λ j. vstruct (of_list (pointer_is j ++ (of_handle j ++ []))) ∷ []))) refl made $
    sets ! (of_opd ! (get_in ! (fld ! refl (stop !)) (sub ! 0 refl (whole !)))) refl (tt, tt) $
    sets ! (of_opd ! (get_in ! (fld ! refl (stop !)) (sub ! 1 refl (whole !)))) refl fits' $
    sets ! (of_opd ! (get ! refl)) refl fits' $
    sets ! (agg ! (and_then ! (get ! refl) (and_then ! (get ! refl) (no_more !)))) refl made $
    -- both go into the struct, which has the value of the box
    move ! (3 ∷ 0 ∷ []) $ closed R Z lawful g ! block' offset' h' a given.value $
    use0 𝓛 (raw (fact 𝓤 (given.value ≡ given.value))) (fact_i 𝓤 (given.value ≡ given.value) (emp 𝓤) refl) $
    nothing ! $ nothing ! $ fjoin ! $
    returns ! (look_at ! 0 refl) $ free_all ! refl $ keep ! (4 ∷ 0 ∷ 2 ∷ 1 ∷ []) $
    by ! (leaves 𝓛 meant stays says z (pair_of (vptr block' offset') h') (record { at = block_ptr block' offset'; alloc = a; value = given.value }) ((tt, (tt, tt)), tt) (tt, tt))))))))))))))

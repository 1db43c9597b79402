-- The machine value of a `Handle`. Assumes `Logic`.
use Rattle.std.proofs.Common.{◌≡◌, List, [], ◌∷◌, ◌++◌, refl, subst, lit<}
use mathlib.Core.Bool.{Bool, true, false, ◌&&◌}
use lib.Dec.{T}
use seplogic.Ra.Ura.{Ura}
use mir.Syntax.{Ty, impl, tnil, dnil, ty_ptr}
use mir.Val.{Val, vbool, vstruct, vcons, vnil, of_list, has_ty}
use base.Fml.{Fml}
use types.Logic.{Logic}
use types.Kit.{Item, Goal, Seq, Step, step, ‵, ◌$◌, move, drop, fsplit, fjoin, fpick, fpack, feq_i, feq_l}
use denote.RattleType.{RattleType, Valss}
use denote.Builtin.{RawPtr, bool}
use denote.RawPtr.{Ptr, block_ptr, null_ptr, ptr_val}
use denote.Steps.{nothing}
use denote.Param.{layout}
use denote.Struct.Struct.{within}
use denote.Struct.Owning.{shape, to}
use Rattle.std.proofs.alloc.Calls.{Al, handle_tells}
use Rattle.std.proofs.cell.Inside.{Good}
use Rattle.std.specs.declared.option.Option.{Option}
use Rattle.std.specs.declared.option.Option.TheVariants.{None, Some}
use Rattle.std.specs.contracts.alloc.Global as heap
use Rattle.std.proofs.alloc.Global.TheLaws as heap_laws
use Rattle.std.specs.contracts.impls.GlobalAllocator.TheImpl.{ghosts}
use Rattle.std_alloc.specs.Box.Ownership.{box_owns}
use Rattle.milunovesk_c.specs.contracts.kept.Kept as low
use Rattle.milunovesk_c.specs.Handles.{holds}
use Rattle.milunovesk_c.specs.contracts.handle.Handle as handle
use Rattle.milunovesk_c.specs.contracts.loose.Loose as loose
use Rattle.milunovesk_c.proofs.LooseValues.{pair_of}

abbrev pub three : Val → Val → Val → Val
three u v w = vstruct (vcons u (vcons v (vcons w vnil)))

abbrev pub Z : RattleType
Z = heap.the_row

abbrev pub R : RattleType
R = low.the_row

abbrev pub Kept : RattleType
Kept = loose.the_row R Z ghosts

abbrev pub Handle : RattleType
Handle = handle.the_row

abbrev al : Al
al = record { row = Z; laws = heap_laws.the_row_laws; g = ghosts; d = impl [] tnil dnil; drops = impl [] tnil dnil }

pub ptr_good : (p : Ptr) → Good ty_ptr (ptr_val p)
ptr_good (block_ptr b o) = (tt, tt)
ptr_good null_ptr = (tt, record { fits = lit< tt })

all_tt : (x y : Bool) → T x → T y → T (x && (y && true))
all_tt true true s t = tt
all_tt true false s t = absurd t
all_tt false y s t = absurd s

pub handle_good : (l : Bool) (p : Ptr) (h : Val) → Good (layout Z) h → Good (layout Handle) (three (vbool l) (ptr_val p) h)
handle_good l p h fits = let g = ptr_good p in (all_tt (has_ty ty_ptr (ptr_val p)) (has_ty (layout Z) h) g.0 fits.0, (tt, (g.1, (fits.1, tt))))

pub kept_good : (p : Ptr) (h : Val) → Good (layout Z) h → Good (layout Kept) (pair_of (ptr_val p) h)
kept_good p h fits = let g = ptr_good p in (all_tt (has_ty ty_ptr (ptr_val p)) (has_ty (layout Z) h) g.0 fits.0, (g.1, (fits.1, tt)))

module _ {M : Type 1} {𝓤 : Ura M} {𝓛 : Logic 𝓤} {K : Type 0} {Γ : List (Item 𝓤)} {G : Goal 𝓤 𝓛.H} where
  pub handle_out : K → (d : Handle.Denot) (vs : List Val)
      → ((h : Val) → vs ≡ three (vbool d.live) (ptr_val d.at) h ∷ [] → Good (layout Z) h → Seq K 𝓛 (‵ (holds (ghosts.dealloc_token d.alloc) R d.live d.at d.value) ∷ ‵ (Z.own_val d.alloc (h ∷ [])) ∷ Γ) G)
      → Seq K 𝓛 (‵ (Handle.own_val d vs) ∷ Γ) G
  handle_out t d vs k =
      fsplit t $ fpick t (λ vss. fsplit t $ feq_l t (λ ev. fsplit t $ feq_l t (λ eb. fsplit t $ feq_l t (λ ep. fsplit t $ handle_tells al t d.alloc vss.1.1.0 (λ h ea fits. move t (1 ∷ []) $ drop t $ move t (1 ∷ []) $
      k h (subst (λ (ws : List Val). vs ≡ vstruct (of_list (vbool d.live ∷ ptr_val d.at ∷ (ws ++ []))) ∷ []) ea
      (subst (λ (ws : List Val). vs ≡ vstruct (of_list (vbool d.live ∷ (ws ++ (vss.1.1.0 ++ [])))) ∷ []) ep
      (subst (λ (ws : List Val). vs ≡ vstruct (of_list (ws ++ (vss.1.0 ++ (vss.1.1.0 ++ [])))) ∷ []) eb ev))) fits)))))

  pub handle_in : K → (l : Bool) (p : Ptr) (h : Val) (a : Z.Denot) (x : Option R.Denot)
      → Step K 𝓛 (‵ (Handle.own_val (record { live = l; at = p; alloc = a; value = x }) (three (vbool l) (ptr_val p) h ∷ [])) ∷ Γ) G (‵ (holds (ghosts.dealloc_token a) R l p x) ∷ ‵ (Z.own_val a (h ∷ [])) ∷ Γ) G
  handle_in t l p h a x = step (λ s. let v : Val = three (vbool l) (ptr_val p) h in
      nothing t $ move t (2 ∷ 0 ∷ []) $ fjoin t $ feq_i t (List Val) (ptr_val p ∷ []) (ptr_val p ∷ []) refl $ fjoin t $ feq_i t (List Val) (vbool l ∷ []) (vbool l ∷ []) refl $ fjoin t $ feq_i t (List Val) (v ∷ []) (v ∷ []) refl $ fjoin t $
      fpack t (Valss (bool ∷ RawPtr ∷ Z ∷ [])) (within (shape handle.the_type) (to handle.the_type (record { live = l; at = p; alloc = a; value = x })) (v ∷ [])) (vbool l ∷ [], (ptr_val p ∷ [], (h ∷ [], tt))) $ fjoin t $ s)

  pub kept_in : K → (p : Ptr) (h : Val) (a : Z.Denot) (x : R.Denot)
      → Step K 𝓛 (‵ (Kept.own_val (record { at = p; alloc = a; value = x }) (pair_of (ptr_val p) h ∷ [])) ∷ Γ) G (‵ (box_owns (ghosts.dealloc_token a) R p x) ∷ ‵ (Z.own_val a (h ∷ [])) ∷ Γ) G
  kept_in t p h a x = step (λ s. let v : Val = pair_of (ptr_val p) h in
      nothing t $ move t (2 ∷ 0 ∷ []) $ fjoin t $ feq_i t (List Val) (ptr_val p ∷ []) (ptr_val p ∷ []) refl $ fjoin t $ feq_i t (List Val) (v ∷ []) (v ∷ []) refl $ fjoin t $
      fpack t (Valss (RawPtr ∷ Z ∷ [])) (within (shape (loose.the_type R Z ghosts)) (p, (a, tt)) (v ∷ [])) (ptr_val p ∷ [], (h ∷ [], tt)) $ fjoin t $ s)

  pub by_kept : K → (τ : Ty → Ptr → Fml) (l : Bool) (p : Ptr) (x : Option R.Denot)
      → (l ≡ false → x ≡ None → Seq K 𝓛 Γ G)
      → ((y : R.Denot) → l ≡ true → x ≡ Some y → Seq K 𝓛 (‵ (box_owns τ R p y) ∷ Γ) G)
      → Seq K 𝓛 (‵ (holds τ R l p x) ∷ Γ) G
  by_kept t τ true p (Some y) none some = some y refl refl
  by_kept t τ false p None none some = drop t $ none refl refl
  by_kept t τ true p None none some = feq_l t (λ e. absurd (subst T e tt))
  by_kept t τ false p (Some y) none some = feq_l t (λ e. absurd (subst T e tt))

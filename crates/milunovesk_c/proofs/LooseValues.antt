-- The machine value of a `Loose`, a struct of a pointer and an allocator, opened and closed again. Assumes `Logic`.
use Rattle.std.proofs.Common.{◌≡◌, ℕ, List, [], ◌∷◌, ◌++◌, refl, subst}
use mathlib.Core.Bool.{true, ◌&&◌}
use lib.Dec.{T}
use seplogic.Ra.Ura.{Ura}
use mir.Syntax.{impl, tnil, dnil}
use mir.Raw.{raw as bare}
use mir.Val.{Val, vptr, vstruct, vcons, vnil, of_list, has_ty, WT}
use base.Logic.{never, fst∗}
use types.Logic.{Logic, sem}
use types.Kit.{Item, Goal, Seq, Step, step, ‵, ◌$◌, move, drop, fsplit, fjoin, fpick, fpack, feq_i, feq_l}
use denote.RattleType.{RattleType, Valss}
use denote.Builtin.{RawPtr}
use denote.Memory.{lone}
use denote.RawPtr.{Ptr, block_ptr, null_ptr, ptr_val, in_a_block}
use denote.Steps.{nothing}
use denote.Param.{layout}
use denote.Param.Laws.{Laws}
use denote.Struct.Struct.{within}
use denote.Struct.Owning.{shape}
use Rattle.std.specs.declared.alloc.Allocator.{Ghosts}
use Rattle.std.proofs.alloc.Calls.{Al, handle_tells}
use Rattle.std.proofs.cell.Inside.{Good}
use Rattle.std_alloc.specs.Box.Ownership.{box_owns}
use Rattle.std_alloc.proofs.ResultValues.{and_tt}
use Rattle.milunovesk_c.specs.contracts.loose.Loose as loose

-- a struct of two fields
abbrev pub pair_of : Val → Val → Val
pair_of first second = vstruct (vcons first (vcons second vnil))

-- for a box of an `R` whose allocator is an `A`, with the ghost members of `A`
module _ (R A : RattleType) (lawful : Laws A) (g : Ghosts A.Denot) where
  abbrev pub Loose : RattleType
  Loose = loose.the_row R A g

  abbrev allocator : Al
  allocator = record { row = A; laws = lawful; g = g; d = impl [] tnil dnil; drops = impl [] tnil dnil }

  -- it has its type where the allocator has
  pub pair_fits : (block offset : ℕ) (h : Val) → Good (layout A) h → T (has_ty (layout A) h && true) × WT (pair_of (vptr block offset) h)
  pair_fits block offset h fits = (and_tt (has_ty (layout A) h) fits.0, (tt, (fits.1, tt)))

  module _ {M : Type 1} {𝓤 : Ura M} {𝓛 : Logic 𝓤} {K : Type 0} {Γ : List (Item 𝓤)} {G : Goal 𝓤 𝓛.H} where
    -- The pointer is that of a block, which is owned with what stands in it. So it is not null.
    pub opened : K → (d : Loose.Denot) (vs : List Val)
        → ((block offset : ℕ) (h : Val) → d.at ≡ block_ptr block offset → vs ≡ pair_of (vptr block offset) h ∷ [] → Good (layout A) h
        → Seq K 𝓛 (‵ (box_owns (g.dealloc_token d.alloc) R (block_ptr block offset) d.value) ∷ ‵ (A.own_val d.alloc (h ∷ [])) ∷ Γ) G)
        → Seq K 𝓛 (‵ (Loose.own_val d vs) ∷ Γ) G
    opened t d vs then =
        let owned = λ (p : Ptr). box_owns (g.dealloc_token d.alloc) R p d.value in
        let not_null = fst∗ 𝓤 (never 𝓤) (sem 𝓛 (g.dealloc_token d.alloc (bare (lone R.mir)) null_ptr)) in
        let struct_of = λ (fields : List Val). vs ≡ vstruct (of_list fields) ∷ [] in
        fsplit t $ fpick t (λ fields. fsplit t $ feq_l t (λ of_struct. fsplit t $ feq_l t (λ of_pointer. fsplit t $
        handle_tells allocator t d.alloc fields.1.0 (λ h of_handle fits. move t (1 ∷ []) $ drop t $ move t (1 ∷ []) $
        in_a_block t d.at owned not_null (λ block offset lies.
        let at_pointer = subst (λ (ps : List Val). struct_of (ps ++ (fields.1.0 ++ []))) of_pointer of_struct in
        let at_handle = subst (λ (hs : List Val). struct_of (ptr_val d.at ∷ (hs ++ []))) of_handle at_pointer in
        then block offset h lies (subst (λ (p : Ptr). struct_of (ptr_val p ∷ h ∷ [])) lies at_handle) fits)))))

    -- From an owned block and the allocator it is one again.
    pub closed : K → (block offset : ℕ) (h : Val) (a : A.Denot) (x : R.Denot)
        → Step K 𝓛 (‵ (Loose.own_val (record { at = block_ptr block offset; alloc = a; value = x }) (pair_of (vptr block offset) h ∷ [])) ∷ Γ) G
        (‵ (box_owns (g.dealloc_token a) R (block_ptr block offset) x) ∷ ‵ (A.own_val a (h ∷ [])) ∷ Γ) G
    closed t block offset h a x = step (λ rest. let pointer : List Val = vptr block offset ∷ [] in let whole : List Val = pair_of (vptr block offset) h ∷ [] in
        nothing t $ move t (2 ∷ 0 ∷ []) $ fjoin t $ feq_i t (List Val) pointer pointer refl $ fjoin t $ feq_i t (List Val) whole whole refl $ fjoin t $
        fpack t (Valss (RawPtr ∷ A ∷ [])) (within (shape (loose.the_type R A g)) (block_ptr block offset, (a, tt)) whole) (pointer, (h ∷ [], tt)) $ fjoin t $ rest)

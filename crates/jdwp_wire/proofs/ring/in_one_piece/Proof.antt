-- The piece that a ring lends is shared for all the time that the ring was lent, and let go of at once: so its last bytes are those that it has, and the ring ends as it was.
use Rattle.std.proofs.Common.{◌≡◌, ◌∙◌, ℕ, List, [], ◌∷◌, length, drop as rest_of, refl, ap, MutBor, take_at}
use Rattle.std.specs.Prelude.{⊤}
use Rattle.std.proofs.raw_atomic.Walks.{proved}
use base.Logic.{id⊢}
use base.Fml.{ftrue, flft, fres}
use mathlib.Core.Option.{none}
use mir.Syntax.{named, w8}
use mir.Val.{Val}
use contract.Monad.{fact}
use contract.Running.{tables}
use types.Kit.{‵, raw, ◌⊛◌, some, later, ◌$◌, ◌∵◌, !, qed, done, move, keep, drop, use1, use2, split, join, fsplit, fjoin, fpack, feq_i, pick, await, rewrite, suffices, frame}
use types.Run.{enter, addr, stop, fld, hop, from, no_more, and_then, returns}
use types.Part.{whole, sub, agg}
use types.ByLocal.{alloc_all, pass_all, free_all, look_at, look_in_at, get, get_in, through, sets, lands_as}
use denote.Builtin.{u8}
use denote.Array.{Array}
use denote.Exit.{no}
use denote.Follow.{follows, such_by, follows_by}
use denote.FollowSlice.{followed_slice}
use denote.Ref.{as_bor, mut_vals, mut_Tells}
use denote.Shadow.{pure_l, pure_i}
use denote.Signature.{plain, mut_ref_to}
use denote.Slice.{MutSlice, finally, mut_slice_at, room, slice_val}
use denote.Steps.{nothing, heard, only}
use denote.Triple.Call.{calls_at}
use denote.Triple.Clauses.{lasts}
use denote.Triple.Spec.{triple_of}
use denote.Triple.Table.{framed}
use denote.Triple.Walked.{Stays, says, stay_dropped, Goes-spent_ref, ends_at}
use borrow.Rule.Slice.Handed.{sl_Share}
use borrow.Table.Copies.{Shares-copy, c_rf}
use borrow.Table.Owned.{ShrSlice}
use borrow.Table.Referent.{f_int, laws_f}
use Rattle.circular_buffer.specs.Buffer.{Buffer}
use Rattle.jdwp_wire.specs.RingLends.{ring_row, with_piece}
use Rattle.jdwp_wire.specs.contracts.ring.in_one_piece as f
use Rattle.jdwp_wire.proofs.ring.in_one_piece.Statement.{statement}
use Rattle.jdwp_wire.proofs.ring.in_one_piece.Code as code
use Rattle.jdwp_wire.specs.contracts.ring.piece_of as g
use Rattle.jdwp_wire.proofs.ring.piece_of.Met.{met}

abbrev stayed : Stays f.ended.signature.params f.ended.kept
stayed = (stay_dropped (mut_ref_to (0 ∷ []) tt (plain (λ _. ring_row))) no, tt)

-- the ring with the bytes that it has written over all of it is the ring
same : (ring : Buffer ℕ) (bytes : List ℕ) → bytes ≡ ring.items → with_piece ring bytes ≡ ring
same ring bytes is =
    ap (λ (l : List ℕ). with_piece ring l) is ∙ ap (λ (l : List ℕ). record { items = l; capacity = ring.capacity }) (take_at ring.items (rest_of (length ring.items) ring.items) (length ring.items) refl)

pub in_one_piece_spec : {M : Type 1} → statement M
unfolding such_by follows_by
in_one_piece_spec 𝓤 𝓛 𝓜 𝓡 wired =
    let c = f.clauses 𝓛 𝓜.mem 𝓡.returns in
    proved 𝓛 f.ended stayed c 𝓜 𝓡 (Goes-spent_ref 𝓛 1 (0 ∷ []) tt (plain (λ _. ring_row)), tt)
    f.Key.name code.function (code.unfolded 𝓤 𝓛.H 𝓜 𝓡 wired)
    (λ κs. (mut_vals, tt)) (λ κs. (mut_Tells (named 0) κs.0 ring_row, tt)) (λ κs qs bounds a _ are.
    let κ = κs.0 in let q = qs.0 in let r = a.0 in
    let G = triple_of 𝓛 g.signature (g.spec 𝓛 𝓜.mem 𝓡.returns) in
    let z : G.Ghost = ((κs, qs, bounds, a, (mut_vals r, tt)), tt) in
    qed 𝓛 (raw (G.pre z) ∷ []) ∵ enter ! _ _ _ _ _ $ alloc_all ! (λ l. pass_all ! refl ((tt, tt), tt) $
    sets ! (addr ! (through ! refl (stop !))) refl (tt, tt) $
    calls_at ! (framed 𝓤 𝓛.H 𝓜 (tables 𝓤 𝓛.H 𝓜 𝓡 𝓡.env)) G (met 𝓤 𝓛 𝓜 𝓡 (code.calls-jdwp_wire::ring::piece_of 𝓡.env wired)) z
    (and_then ! (get ! refl) (no_more !)) (λ v.
    use1 𝓛 (later (some (λ (s : MutBor (List ℕ)). ((‵ (flft κ q) ⊛ ‵ ftrue) ⊛ ‵ ((MutSlice (named 0) κ u8).own_val s (v ∷ []))) ⊛
    some (λ (ws : Unit {0} × Unit {0}). ‵ (lasts g.ended κs a ws) ⊛ (‵ (follows ring_row (Array u8 0) r.ghost_name s.ghost_name (with_piece r.now)) ⊛ raw (fact 𝓤 (s.now ≡ r.now.items))))))) (id⊢ 𝓤 _) $
    await ! tt $ pick ! (λ s. split ! $ split ! $ split ! $
    -- [the token; nothing; the piece; what is said of it]
    move ! (3 ∷ []) $ pick ! (λ ws. split ! $ drop ! $ split ! $ move ! (1 ∷ []) $ heard ! _ (λ is.
    -- [how the ring follows; the token; nothing; the piece]
    move ! (3 ∷ []) $ fsplit ! $ pure_l ! (mut_slice_at u8 s (v ∷ [])) (λ p.
    pure_i ! (room u8 (length s.now)) (tt, tt) p.1 $ fjoin ! $
    -- [the piece; how the ring follows; the token; nothing]
    move ! (0 ∷ 2 ∷ []) $
    use2 𝓛 (later (‵ ((ShrSlice (named 0) κ u8).own_val (as_bor s)) ⊛ (‵ (finally u8 s.ghost_name s.now) ⊛ ‵ (flft κ q))))
    (sl_Share 𝓛 u8 s.ref_ptr.0 s.ref_ptr.1 s.ghost_name s.now (laws_f (f_int w8)) κ q (Shares-copy 𝓛 (c_rf (f_int w8)) κ)) $ await ! tt $
    split ! $ move ! (1 ∷ []) $ split ! $
    -- [the piece's last bytes; the token; the bytes lent; how the ring follows; nothing]
    move ! (3 ∷ 0 ∷ []) $ use2 𝓛 (‵ (fres r.ghost_name (ring_row.coded.code (with_piece r.now s.now)))) (followed_slice 𝓛 ring_row u8 (with_piece r.now) r.ghost_name s.ghost_name s.now) $
    rewrite ! 0 (λ (n : Buffer ℕ). ‵ (fres r.ghost_name (ring_row.coded.code n))) (same r.now s.now is) refl $
    -- [the ring's last value; the token; the bytes lent; nothing]
    lands_as ! (ap only p.0) refl (tt, (tt, (record { fits = p.1.0 }, tt))) $
    sets ! (addr ! (from ! (fld ! refl (hop ! (look_in_at ! 2 (sub ! 0 refl (whole !))) (stop !))))) refl (tt, tt) $
    sets ! (agg ! (and_then ! (get ! refl) (and_then ! (get_in ! (fld ! refl (stop !)) (sub ! 1 refl (whole !))) (no_more !)))) refl (tt, (tt, (record { fits = p.1.0 }, tt))) $
    returns ! (look_at ! 0 refl) $ free_all ! refl $ keep ! (2 ∷ 1 ∷ 0 ∷ []) $
    -- [the bytes lent; the token; the ring's last value]
    suffices ! _ (ends_at 𝓛 f.ended stayed c z (slice_val s.ref_ptr (length s.now)) (as_bor s) (tt, tt) (tt, tt)) $
    fsplit ! $ feq_i ! (List Val) (slice_val s.ref_ptr (length s.now) ∷ []) _ refl $ fjoin ! $ fjoin ! $
    nothing ! $ nothing ! $ fjoin ! $ join ! $ nothing ! $ move ! (2 ∷ 0 ∷ []) $ join ! $ join ! $ frame ! $ says ! is $
    fpack ! ((x : (Buffer ℕ → Buffer ℕ) × Buffer ℕ) × ((w : Buffer ℕ) → ⊤) × (x.1 ≡ r.now)) (λ x. follows_by (Buffer ℕ) (Buffer ℕ) ring_row.coded.code ring_row.coded.code r.ghost_name none x.0.0 x.0.1) ((λ _. r.now, r.now), λ _. tt, refl) $ done !)))))))

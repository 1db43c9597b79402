use Rattle.std.proofs.lemmas.Grind.{common_steps}
use Rattle.std.proofs.Common.{◌∙◌, ◌≡◌, ◌≤◌, ap, sym, refl, arith, ℕ, pos, ◌+◌, List, ◌∷◌, [], ◌++◌, length}
use Rattle.byteorder.specs.Endian.{big_bytes}
use Rattle.byteorder.specs.Numbers.{length-bytes_high_first}
use Rattle.jdwp_wire.specs.Basic.{int_canonical}
use Rattle.jdwp_wire.specs.Frames.{header_bytes}
use Rattle.jdwp_wire.specs.declared.packet.PacketKind.TheVariants as kind
use Rattle.jdwp_end.specs.Ends.{most_outgoing, with_enqueued}
use Rattle.jdwp_layout.specs.CommandNumbers.{EVENT, COMPOSITE}
use Rattle.jdwp_event.specs.Constants.{policy_byte}
use Rattle.jdwp_target.proofs.EnqueueLemmas.{two_enqueued}
use Rattle.jdwp_target.proofs.RightTurns.{room-behind, start-bytes}
use Rattle.jdwp_target.proofs.turning.enqueue_start.Goals as goal

abbrev int_bytes : ℕ → List ℕ
int_bytes n = int_canonical (pos n)

abbrev header : ℕ → ℕ → List ℕ
header id width = header_bytes (record { length = 11 + (10 + width); id = id; kind = kind.Command EVENT COMPOSITE.number })

pub put-requires-3-clause-room : goal.put-requires-3-clause-room
put-requires-3-clause-room c =
    let size : length (big_bytes c.args.sizes.now.object c.args.start.thread.0) ≡ c.args.sizes.now.object = length-bytes_high_first c.args.sizes.now.object c.args.start.thread.0 in
    let most : c.args.sizes.now.object ≤ 8 = omega (arith, c.object.ensures.value, c.object.ensures.within.1) in
    let thread : List ℕ = big_bytes c.args.sizes.now.object c.args.start.thread.0 in
    let bytes : List ℕ = header c.args.start.packet c.from.result ++ ((c.byte.result ∷ []) ++ (int_bytes 1 ++ ((c.byte-2.result ∷ []) ++ int_bytes 0))) in
    let before : c.enqueue_int-2.new.end ≡ with_enqueued bytes c.args.end.now =
    two_enqueued _ _ _ _ _ (header c.args.start.packet c.from.result) ((c.byte.result ∷ []) ++ (int_bytes 1 ++ ((c.byte-2.result ∷ []) ++ int_bytes 0))) refl refl c.enqueue_composite_header.ensures
    (two_enqueued _ _ _ _ _ (c.byte.result ∷ []) (int_bytes 1 ++ ((c.byte-2.result ∷ []) ++ int_bytes 0)) refl refl c.put.ensures.enqueued
    (two_enqueued _ _ _ _ _ (int_bytes 1) ((c.byte-2.result ∷ []) ++ int_bytes 0) refl refl c.enqueue_int.ensures
    (two_enqueued _ _ _ _ _ (c.byte-2.result ∷ []) (int_bytes 0) refl refl c.put-2.ensures.enqueued c.enqueue_int-2.ensures))) in
    let room : length c.args.end.now.outgoing + (21 + length thread) ≤ most_outgoing c.args.end.now.limits = omega (arith, size, most, c.requires.room) in
    room-behind c.args.end.now c.enqueue_int-2.new.end bytes (length thread) 21 before refl room

pub returns : goal.returns
returns c =
    let thread : List ℕ = big_bytes c.args.sizes.now.object c.args.start.thread.0 in
    let policy = policy_byte c.args.start.policy in
    let width = c.from.ensures ∙ c.object.ensures.value in
    let same_header = ap (header c.args.start.packet) width in
    let same_policy = ap (λ (n : ℕ). n ∷ []) c.byte.ensures in
    let same_kind = ap (λ (n : ℕ). n ∷ []) c.byte-2.ensures in
    two_enqueued _ _ _ _ _ (header c.args.start.packet c.args.sizes.now.object) ((policy ∷ []) ++ (int_bytes 1 ++ ((90 ∷ []) ++ (int_bytes 0 ++ thread)))) same_header refl c.enqueue_composite_header.ensures
    (two_enqueued _ _ _ _ _ (policy ∷ []) (int_bytes 1 ++ ((90 ∷ []) ++ (int_bytes 0 ++ thread))) same_policy refl c.put.ensures.enqueued
    (two_enqueued _ _ _ _ _ (int_bytes 1) ((90 ∷ []) ++ (int_bytes 0 ++ thread)) refl refl c.enqueue_int.ensures
    (two_enqueued _ _ _ _ _ (90 ∷ []) (int_bytes 0 ++ thread) same_kind refl c.put-2.ensures.enqueued
    (two_enqueued _ _ _ _ _ (int_bytes 0) thread refl refl c.enqueue_int-2.ensures c.put-3.ensures.enqueued))))
    ∙ ap (λ (x : List ℕ). with_enqueued x c.args.end.now) (sym (start-bytes c.args.sizes.now c.args.start.packet policy c.args.start.thread.0))

pub put-requires : goal.put-requires
put-requires c = grind (arith, common_steps)

pub enqueue_int-requires : goal.enqueue_int-requires
enqueue_int-requires c = grind (arith, common_steps)

pub put-requires-2 : goal.put-requires-2
put-requires-2 c = grind (arith, common_steps)

pub enqueue_int-requires-2 : goal.enqueue_int-requires-2
enqueue_int-requires-2 c = grind (arith, common_steps)

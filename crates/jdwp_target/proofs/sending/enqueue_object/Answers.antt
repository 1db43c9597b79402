use Rattle.std.proofs.Common.{◌≡◌, ◌≤◌, ◌∙◌, ◌-◌, ◌+◌, ℕ, List, take, drop, length, sym, ap, arith}
use Rattle.std.proofs.lemmas.List.{take_all}
use Rattle.std.specs.Int.{bytes_high_first}
use Rattle.byteorder.specs.Numbers.{length-bytes_high_first}
use Rattle.jdwp_wire.specs.Frames.{header_bytes}
use Rattle.jdwp_wire.specs.ErrorCodes.{NONE}
use Rattle.jdwp_wire.specs.declared.packet.PacketKind.TheVariants as kind
use Rattle.jdwp_target.proofs.EnqueueLemmas.{two_enqueued}
use Rattle.byteorder.proofs.Bytes.{drop-bytes_high_first}
use Rattle.jdwp_target.proofs.sending.enqueue_object.Goals as goal

pub returns : goal.returns
returns c =
    let n = c.args.object.0 in
    let w = c.args.sizes.now.object in
    let within = c.object-width.ensures.within in
    let width = c.object-width.ensures.value in
    let to = c.from-2.ensures in
    let x = c.from-2.result in
    let fits : x ≤ 8 = omega (arith, within, to) in
    let all : c.to_be_bytes-bytes.result ≡ bytes_high_first 8 n = c.to_be_bytes-bytes.ensures in
    let last : drop (8 - x) c.to_be_bytes-bytes.result ≡ bytes_high_first x n = ap (λ (l : List ℕ). drop (8 - x) l) all ∙ drop-bytes_high_first 8 x n fits in
    let count : 8 - (8 - x) ≡ x = omega (arith, fits) in
    let cut : take (8 - (8 - x)) (drop (8 - x) c.to_be_bytes-bytes.result) ≡ bytes_high_first w n =
    ap (λ (l : List ℕ). take (8 - (8 - x)) l) last ∙ take_all (8 - (8 - x)) (bytes_high_first x n) (let len = length-bytes_high_first x n in omega (arith, fits, len)) ∙ ap (λ (k : ℕ). bytes_high_first k n) (to ∙ width) in
    let head : ℕ → List ℕ = λ k. header_bytes (record { length = 11 + k; id = c.args.id; kind = kind.Reply NONE }) in
    two_enqueued c.args.end.now c.enqueue_header.new.end c.enqueue.new.self (head c.from.result) _ (head (length (bytes_high_first w n))) (bytes_high_first w n)
    (ap head (c.from.ensures ∙ width ∙ sym (length-bytes_high_first w n))) cut c.enqueue_header.ensures c.enqueue.ensures

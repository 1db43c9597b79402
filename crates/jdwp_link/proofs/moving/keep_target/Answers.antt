use Rattle.std.proofs.Common.{◌≡◌, ◌≤◌, ◌-◌, ◌++◌, ◌∙◌, ap, arith, length, take}
use Rattle.std.proofs.lemmas.List.{length-append, length-take-le}
use Rattle.jdwp_link.specs.Queue.{Queue}
use Rattle.jdwp_target.specs.Targets as targets
use Rattle.jdwp_link.proofs.Pieces.{all-left, all-taken, buffer-front, keep-target-more, keep-target-start, still-waits}
use Rattle.jdwp_link.proofs.moving.keep_target.Goals as goal

pub loop-left-init : goal.loop-left-init
loop-left-init g c = keep-target-start _ c.args.target.now c.args.queue.now c.waiting-left.ensures.count

pub append-requires : goal.append-requires
append-requires g c =
    let l = c.loop-left in
    let out = c.args.target.now.end.outgoing in
    let waits = still-waits l.left c.args.target.now.end l.target.end l.invariant.0 (ap (λ x. x.end) l.invariant.1) in
    let piece : c.take-piece.result ≤ length l.target.end.outgoing = omega (arith, c.take-piece.ensures.count) in
    let front = ap length (ap (take c.take-piece.result) c.take-piece.ensures.bytes ∙ buffer-front c.take-piece.result l.target.end.outgoing _ piece) ∙ length-take-le c.take-piece.result l.target.end.outgoing piece in
    let queue = ap (λ (q : Queue). length q.bytes) l.invariant.2 ∙ length-append c.args.queue.now.bytes (take (length out - l.left) out) in
    let size : length (take (length out - l.left) out) ≡ length out - l.left = length-take-le (length out - l.left) out (omega arith) in
    let room = ap (λ (q : Queue). q.capacity) l.invariant.2 in
    omega (arith, waits, piece, front, queue, size, room, c.requires, l.invariant.0)

pub loop-left-preserved : goal.loop-left-preserved
loop-left-preserved g c =
    let l = c.loop-left in
    let piece : c.take-piece.result ≤ length l.target.end.outgoing = omega (arith, c.take-piece.ensures.count) in
    let front = ap (take c.take-piece.result) c.take-piece.ensures.bytes ∙ buffer-front c.take-piece.result l.target.end.outgoing _ piece in
    keep-target-more l.left c.take-piece.result c.args.target.now l.target c.take-piece.new.self c.args.queue.now l.queue c.append.new.self piece l.invariant.0 l.invariant.1 l.invariant.2 c.take-piece.ensures.taken
    (c.append.ensures ∙ ap (λ b. record l.queue { bytes = l.queue.bytes ++ b }) front)

pub overflow_sub-left : goal.overflow_sub-left
overflow_sub-left g c =
    let l = c.loop-left in
    let waits = still-waits l.left c.args.target.now.end l.target.end l.invariant.0 (ap (λ x. x.end) l.invariant.1) in
    omega (arith, waits, c.take-piece.ensures.count)

pub loop-left-smaller : goal.loop-left-smaller
loop-left-smaller g c =
    let l = c.loop-left in
    let waits = still-waits l.left c.args.target.now.end l.target.end l.invariant.0 (ap (λ x. x.end) l.invariant.1) in
    omega (arith, waits, c.take-piece.ensures.count, c.loop-left-test.true)

pub returns-clause-taken : goal.returns-clause-taken
returns-clause-taken g c =
    let out = c.args.target.now.end.outgoing in
    c.loop-left.invariant.1 ∙ ap (λ b. targets.with_taken b c.args.target.now) (all-left (length out) c.loop-left.left out c.loop-left-test.false ∙ all-taken c.args.target.now.end)

pub returns-clause-kept : goal.returns-clause-kept
returns-clause-kept g c =
    let out = c.args.target.now.end.outgoing in
    c.loop-left.invariant.2 ∙ ap (λ b. record c.args.queue.now { bytes = c.args.queue.now.bytes ++ b }) (all-left (length out) c.loop-left.left out c.loop-left-test.false ∙ all-taken c.args.target.now.end)

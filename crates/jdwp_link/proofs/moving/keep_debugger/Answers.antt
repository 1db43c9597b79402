use Rattle.std.proofs.Common.{◌≡◌, ◌≤◌, ◌-◌, ◌++◌, ◌∙◌, ap, arith, length, take}
use Rattle.std.proofs.lemmas.List.{length-append, length-take-le}
use Rattle.jdwp_link.specs.Queue.{Queue}
use Rattle.jdwp_debugger.specs.Debuggers as debuggers
use Rattle.jdwp_link.proofs.Pieces.{all-left, all-taken, buffer-front, keep-debugger-more, keep-debugger-start, still-waits}
use Rattle.jdwp_link.proofs.moving.keep_debugger.Goals as goal

pub loop-left-init : goal.loop-left-init
loop-left-init c = keep-debugger-start _ c.args.debugger.now c.args.queue.now c.waiting-left.ensures.count

pub append-requires : goal.append-requires
append-requires c =
    let l = c.loop-left in
    let out = c.args.debugger.now.end.outgoing in
    let waits = still-waits l.left c.args.debugger.now.end l.debugger.end l.invariant.0 (ap (λ x. x.end) l.invariant.1) in
    let piece : c.take-piece.result ≤ length l.debugger.end.outgoing = omega (arith, c.take-piece.ensures.count) in
    let front = ap length (ap (take c.take-piece.result) c.take-piece.ensures.bytes ∙ buffer-front c.take-piece.result l.debugger.end.outgoing _ piece) ∙ length-take-le c.take-piece.result l.debugger.end.outgoing piece in
    let queue = ap (λ (q : Queue). length q.bytes) l.invariant.2 ∙ length-append c.args.queue.now.bytes (take (length out - l.left) out) in
    let size : length (take (length out - l.left) out) ≡ length out - l.left = length-take-le (length out - l.left) out (omega arith) in
    let room = ap (λ (q : Queue). q.capacity) l.invariant.2 in
    omega (arith, waits, piece, front, queue, size, room, c.requires, l.invariant.0)

pub loop-left-preserved : goal.loop-left-preserved
loop-left-preserved c =
    let l = c.loop-left in
    let piece : c.take-piece.result ≤ length l.debugger.end.outgoing = omega (arith, c.take-piece.ensures.count) in
    let front = ap (take c.take-piece.result) c.take-piece.ensures.bytes ∙ buffer-front c.take-piece.result l.debugger.end.outgoing _ piece in
    keep-debugger-more l.left c.take-piece.result c.args.debugger.now l.debugger c.take-piece.new.self c.args.queue.now l.queue c.append.new.self piece l.invariant.0 l.invariant.1 l.invariant.2 c.take-piece.ensures.taken
    (c.append.ensures ∙ ap (λ b. record l.queue { bytes = l.queue.bytes ++ b }) front)

pub overflow_sub-left : goal.overflow_sub-left
overflow_sub-left c =
    let l = c.loop-left in
    let waits = still-waits l.left c.args.debugger.now.end l.debugger.end l.invariant.0 (ap (λ x. x.end) l.invariant.1) in
    omega (arith, waits, c.take-piece.ensures.count)

pub loop-left-smaller : goal.loop-left-smaller
loop-left-smaller c =
    let l = c.loop-left in
    let waits = still-waits l.left c.args.debugger.now.end l.debugger.end l.invariant.0 (ap (λ x. x.end) l.invariant.1) in
    omega (arith, waits, c.take-piece.ensures.count, c.loop-left-test.true)

pub returns-clause-taken : goal.returns-clause-taken
returns-clause-taken c =
    let out = c.args.debugger.now.end.outgoing in
    c.loop-left.invariant.1 ∙ ap (λ b. debuggers.with_taken b c.args.debugger.now) (all-left (length out) c.loop-left.left out c.loop-left-test.false ∙ all-taken c.args.debugger.now.end)

pub returns-clause-kept : goal.returns-clause-kept
returns-clause-kept c =
    let out = c.args.debugger.now.end.outgoing in
    c.loop-left.invariant.2 ∙ ap (λ b. record c.args.queue.now { bytes = c.args.queue.now.bytes ++ b }) (all-left (length out) c.loop-left.left out c.loop-left-test.false ∙ all-taken c.args.debugger.now.end)

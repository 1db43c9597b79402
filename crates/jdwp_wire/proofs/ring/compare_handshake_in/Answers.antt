use Rattle.std.proofs.Common.{◌≡◌, ◌∙◌, sym, arith, false, true, eqb, get_or}
use Rattle.std.proofs.lemmas.Bool.Decides.{nat_tests}
use Rattle.jdwp_wire.specs.declared.frame.TheConstants.{HANDSHAKE}
use Rattle.jdwp_wire.proofs.HandshakeSteps.{step_on, runs_out}
use Rattle.jdwp_wire.proofs.ring.compare_handshake_in.Goals as goal

pub returns-then-place-len : goal.returns-then-place-len
returns-then-place-len c =
    sym (runs_out c.loop-place.place HANDSHAKE c.args.ring.now.items (omega arith) (omega (arith, c.len.ensures.len, c.if-place-len.true))) ∙ c.loop-place.invariant

pub returns-then-byte-place : goal.returns-then-byte-place
returns-then-byte-place c =
    let e : eqb (get_or c.args.ring.now.items c.loop-place.place 0) (get_or HANDSHAKE c.loop-place.place 0) ≡ false = grind (arith, nat_tests) in
    let s = step_on c.loop-place.place HANDSHAKE c.args.ring.now.items (omega arith) (omega (arith, c.len.ensures.len, c.if-place-len.false)) in
    sym (rw e at s) ∙ c.loop-place.invariant

pub loop-place-preserved : goal.loop-place-preserved
loop-place-preserved c =
    let e : eqb (get_or c.args.ring.now.items c.loop-place.place 0) (get_or HANDSHAKE c.loop-place.place 0) ≡ true = grind (arith, nat_tests) in
    let s = step_on c.loop-place.place HANDSHAKE c.args.ring.now.items (omega arith) (omega (arith, c.len.ensures.len, c.if-place-len.false)) in
    sym (rw e at s) ∙ c.loop-place.invariant

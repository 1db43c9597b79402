use Rattle.std.proofs.Common.{◌≡◌, ◌∙◌, sym, arith, false, true, eqb, get_or, rules}
use Rattle.std.proofs.lemmas.Bool.Decides.{nat_tests}
use Rattle.jdwp_wire.specs.declared.frame.TheConstants.{HANDSHAKE}
use Rattle.jdwp_wire.proofs.HandshakeSteps.{step_on, runs_out}
use Rattle.std.proofs.lemmas.Grind.{common_steps}
use Rattle.jdwp_wire.proofs.frame.compare_handshake.Goals as goal

pub returns-then-place-bytes : goal.returns-then-place-bytes
returns-then-place-bytes c =
    sym (runs_out c.loop-place.place HANDSHAKE c.args.bytes.now (omega arith) (omega arith)) ∙ c.loop-place.invariant

pub returns-then-bytes-place : goal.returns-then-bytes-place
returns-then-bytes-place c =
    let e : eqb (get_or c.args.bytes.now c.loop-place.place 0) (get_or HANDSHAKE c.loop-place.place 0) ≡ false = grind (arith, nat_tests) in
    let s = step_on c.loop-place.place HANDSHAKE c.args.bytes.now (omega arith) (omega arith) in
    sym (rw e at s) ∙ c.loop-place.invariant

pub loop-place-preserved : goal.loop-place-preserved
loop-place-preserved c =
    let e : eqb (get_or c.args.bytes.now c.loop-place.place 0) (get_or HANDSHAKE c.loop-place.place 0) ≡ true = grind (arith, nat_tests) in
    let s = step_on c.loop-place.place HANDSHAKE c.args.bytes.now (omega arith) (omega arith) in
    sym (rw e at s) ∙ c.loop-place.invariant

pub returns : goal.returns
returns c = grind (arith, common_steps)

pub loop-place-init : goal.loop-place-init
loop-place-init c = search rules

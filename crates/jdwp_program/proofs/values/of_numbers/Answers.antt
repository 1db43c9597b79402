use Rattle.jdwp_program.proofs.Numbers.{made-of, no-number}
use Rattle.jdwp_program.proofs.values.of_numbers.Goals as goal

pub returns-in_err-decimal : goal.returns-in_err-decimal
returns-in_err-decimal c limits =
    ((λ some. absurd cc), (λ are. absurd (no-number _ _ c.decimal.ensures (c.in_err-decimal.was) limits.packet are.packet_is)))

pub returns-in_err-decimal-2 : goal.returns-in_err-decimal-2
returns-in_err-decimal-2 c limits =
    ((λ some. absurd cc), (λ are. absurd (no-number _ _ c.decimal-2.ensures (c.in_err-decimal-2.was) limits.live are.live_is)))

pub returns-in_err-decimal-3 : goal.returns-in_err-decimal-3
returns-in_err-decimal-3 c limits =
    ((λ some. absurd cc), (λ are. absurd (no-number _ _ c.decimal-3.ensures (c.in_err-decimal-3.was) limits.requests are.requests_is)))

pub returns-in_err-decimal-4 : goal.returns-in_err-decimal-4
returns-in_err-decimal-4 c limits =
    ((λ some. absurd cc), (λ are. absurd (no-number _ _ c.decimal-4.ensures (c.in_err-decimal-4.was) limits.pending are.pending_is)))

pub returns : goal.returns
returns c =
    made-of _ _ _ _ _ _ _ _ _ c.in_ok-decimal.ensures c.in_ok-decimal-2.ensures c.in_ok-decimal-3.ensures c.in_ok-decimal-4.ensures c.new.ensures.some c.new.ensures.same

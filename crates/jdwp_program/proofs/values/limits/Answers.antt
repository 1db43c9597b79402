use Rattle.std.proofs.Common.{rules, ◌∷◌, ◌++◌, ap, ◌∙◌}
use Rattle.jdwp_program.specs.Values.{comma}
use Rattle.jdwp_program.proofs.Numbers.{no-comma}
use Rattle.jdwp_program.proofs.values.limits.Goals as goal

pub returns-in_err-packet : goal.returns-in_err-packet
returns-in_err-packet c limits = (
  (λ some. absurd cc),
  (λ said. absurd (c.in_err-packet.ensures.only said.packet _ (said.said, no-comma said.packet _ said.are_numbers.packet_is))),
)

pub returns-in_err-live : goal.returns-in_err-live
returns-in_err-live c limits = (
  (λ some. absurd cc),
  (λ said.
      let first = c.in_ok-packet.ensures.only said.packet _ (said.said, no-comma said.packet _ said.are_numbers.packet_is) in
      absurd (c.in_err-live.ensures.only said.live _ (first.1, no-comma said.live _ said.are_numbers.live_is))),
)

pub returns-in_err-requests : goal.returns-in_err-requests
returns-in_err-requests c limits = (
  (λ some. absurd cc),
  (λ said.
      let first = c.in_ok-packet.ensures.only said.packet _ (said.said, no-comma said.packet _ said.are_numbers.packet_is) in
      let second = c.in_ok-live.ensures.only said.live _ (first.1, no-comma said.live _ said.are_numbers.live_is) in
      absurd (c.in_err-requests.ensures.only said.requests _ (second.1, no-comma said.requests _ said.are_numbers.requests_is))),
)

pub returns : goal.returns
returns c limits = (
  (λ some. record {
    packet = c.in_ok-packet.packet.now;
    live = c.in_ok-live.live.now;
    requests = c.in_ok-requests.requests.now;
    pending = c.in_ok-requests.pending.now;
    said =
        c.in_ok-packet.ensures.some.0
        ∙ ap (λ others. c.in_ok-packet.packet.now ++ (comma ∷ others)) c.in_ok-live.ensures.some.0
        ∙ ap (λ others. c.in_ok-packet.packet.now ++ (comma ∷ (c.in_ok-live.live.now ++ (comma ∷ others)))) c.in_ok-requests.ensures.some.0;
    are_numbers = (c.of_numbers.ensures limits).0 some;
  }),
  (λ said.
      let first = c.in_ok-packet.ensures.only said.packet _ (said.said, no-comma said.packet _ said.are_numbers.packet_is) in
      let second = c.in_ok-live.ensures.only said.live _ (first.1, no-comma said.live _ said.are_numbers.live_is) in
      let third = c.in_ok-requests.ensures.only said.requests _ (second.1, no-comma said.requests _ said.are_numbers.requests_is) in
      (c.of_numbers.ensures limits).1 (search (rules, first, second, third, said))),
)

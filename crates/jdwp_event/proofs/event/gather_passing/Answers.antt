use Rattle.std.proofs.Common.{◌≡◌, ◌∙◌, ◌+◌, ◌<◌, ◌≤◌, [], ◌∷◌, ℕ, List, None, length, get_or, drop, map, true, false, refl, sym, ap, arith, rules}
use Rattle.std.proofs.lemmas.List.{drop_more, drop_all, append-nil}
use Rattle.std.proofs.lemmas.Grind.{common_steps}
use Rattle.std.specs.Prelude.{max, ◌==◌, vec_len}
use Rattle.jdwp_event.specs.Requests.{Request}
use Rattle.jdwp_event.specs.Occurrences.{HappeningMeaning}
use Rattle.jdwp_event.specs.Filters.{passes, passing}
use Rattle.jdwp_event.specs.Composites.{event_for, greatest_policy, composite_by}
use Rattle.jdwp_layout.specs.Meanings.{ScalarMeaning}
use Rattle.jdwp_event.proofs.Picked.{if_err, passed_over, picked, picks_one}
use Rattle.jdwp_event.proofs.event.gather_passing.Goals as goal
use Rattle.jdwp_event.proofs.event.gather_passing.Goals.{then-matches+in_ok-event+in_ok-push, else-matches}

is_zero : (n : ℕ) → (n == 0) ≡ true → n ≡ 0
is_zero n e = grind (arith, common_steps)

-- the requests that are left begin with the one that is tried
left_is : (rs slice : List Request) (i : ℕ) (r : Request) → slice ≡ rs → i < length slice → r ≡ get_or slice i r → drop i rs ≡ r ∷ drop (i + 1) rs
left_is rs slice i r same lt is = rw (← same) (drop_more slice i r lt ∙ ap (λ x. x ∷ drop (i + 1) slice) (sym is))

module _ (h : HappeningMeaning) (policy : ℕ) (r : Request) (rs : List Request) (total : ℕ) (so_far : max policy (greatest_policy (passing h (r ∷ rs))) ≡ total) where
  policy_kept : passes h r ≡ false → max policy (greatest_policy (passing h rs)) ≡ total
  policy_kept fails = rw fails at so_far

  policy_raised : passes h r ≡ true → max (max policy r.asked.policy) (greatest_policy (passing h rs)) ≡ total
  policy_raised holds = let e : max policy (max r.asked.policy (greatest_policy (passing h rs))) ≡ total = rw holds at so_far in omega (arith, e)

module _ (h : HappeningMeaning) (policy : ℕ) (events : List (List ScalarMeaning)) where
  none_by : (passed : List Request) → events ≡ map (event_for h) passed → length events ≡ 0 → None ≡ composite_by h passed
  none_by [] same none = refl
  none_by (r ∷ rs) same none = let n : length events ≡ length (map (event_for h) (r ∷ rs)) = ap length same in absurd (omega (arith, n, none))

-- the loop is at the end of its requests
all_tried : (h : HappeningMeaning) (rs slice : List Request) (i : ℕ) → slice ≡ rs → length slice ≤ i → passing h (drop i rs) ≡ []
all_tried h rs slice i same past = rw (← same) (ap (passing h) (drop_all i slice past))

pub returns-clause-gathers : goal.returns-clause-gathers
returns-clause-gathers c = grind (arith, common_steps)

pub returns-in_err-event-clause-memory : goal.returns-in_err-event-clause-memory
returns-in_err-event-clause-memory c =
    let h = c.args.happening.now in
    let rs = c.args.requests.now in
    let at = left_is rs c.as_slice-request-items.result.now c.loop-request.request-index c.request-item.result c.as_slice-request-items.ensures c.loop-request-test.true c.request-item.is in
    if_err _ c.from_residual.result (picks_one (passes h) (event_for h) c.loop-request.events.items c.request-item.result (drop (c.loop-request.request-index + 1) rs) (passing h rs)
    (sym c.matches.ensures ∙ c.if-matches.true) (rw at at c.loop-request.invariant.events))

pub returns-in_err-push-clause-memory : goal.returns-in_err-push-clause-memory
returns-in_err-push-clause-memory c =
    let h = c.args.happening.now in
    let rs = c.args.requests.now in
    let at = left_is rs c.as_slice-request-items.result.now c.loop-request.request-index c.request-item.result c.as_slice-request-items.ensures c.loop-request-test.true c.request-item.is in
    if_err _ c.from_residual-in_err-push.result (picks_one (passes h) (event_for h) c.loop-request.events.items c.request-item.result (drop (c.loop-request.request-index + 1) rs) (passing h rs)
    (sym c.matches.ensures ∙ c.if-matches.true) (rw at at c.loop-request.invariant.events))

pub loop-request-preserved : goal.loop-request-preserved
loop-request-preserved c =
    let h = c.args.happening.now in
    let rs = c.args.requests.now in
    let r = c.request-item.result in
    let left = drop (c.loop-request.request-index + 1) rs in
    let at = left_is rs c.as_slice-request-items.result.now c.loop-request.request-index r c.as_slice-request-items.ensures c.loop-request-test.true c.request-item.is in
    let policy = rw at at c.loop-request.invariant.policy in
    let events = rw at at c.loop-request.invariant.events in
    elim c.if-matches.branch [
      | then-matches+in_ok-event+in_ok-push w ↦ (
          let holds = sym c.matches.ensures ∙ w.if-matches.true in
          let raised : c.if-matches.policy ≡ max c.loop-request.policy r.asked.policy = search rules in
          record {
            policy = rw raised (policy_raised h c.loop-request.policy r left (greatest_policy (passing h rs)) policy holds);
            events = rw (w.events-is, w.in_ok-push.ensures.items, w.in_ok-event.ensures) (picked (passes h) (event_for h) c.loop-request.events.items r left (passing h rs) holds events);
          })
      | else-matches w ↦ (
          let fails = sym c.matches.ensures ∙ w.if-matches.false in
          record {
            policy = rw w.policy-is (policy_kept h c.loop-request.policy r left (greatest_policy (passing h rs)) policy fails);
            events = rw w.events-is (passed_over (passes h) (event_for h) c.loop-request.events.items r left (passing h rs) fails events);
          })
    ]

pub returns-then-is_empty-clause-gathers : goal.returns-then-is_empty-clause-gathers
returns-then-is_empty-clause-gathers c =
    let h = c.args.happening.now in
    let rs = c.args.requests.now in
    let loop = c.loop-request in
    let none = all_tried h rs c.as_slice-request-items.result.now loop.request-index c.as_slice-request-items.ensures c.loop-request-test.false in
    let ok = loop.events.ok in
    let none_pushed = is_zero (vec_len loop.events) (sym c.is_empty.ensures ∙ c.if-is_empty.true) in
    none_by h loop.policy loop.events.items (passing h rs) (sym (append-nil loop.events.items) ∙ (rw none at loop.invariant.events)) (omega (arith, none_pushed, ok))

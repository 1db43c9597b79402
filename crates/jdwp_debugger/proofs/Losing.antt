-- The commands that wait, one by one: their tickets, and the places of those that have one.
use Rattle.std.proofs.Common.{◌≡◌, ℕ, ◌+◌, suc, false, true, List, [], ◌∷◌, ◌++◌, drop, slice_get, Some, None, is_some, sym, ap, ◌∙◌, refl}
use Rattle.std.proofs.lemmas.List.{append_assoc}
use Rattle.jdwp_debugger.specs.declared.pending.Ticket.{Ticket}
use Rattle.jdwp_debugger.specs.Debuggers.{Asked, at_place, has_tickets, tickets_of, unanswered}
use Rattle.jdwp_debugger.proofs.Entries.{left_over}

module _ (pending : List Asked) (i : ℕ) (p : Asked) (at : slice_get pending i ≡ Some p) where
  left : drop i pending ≡ p ∷ drop (i + 1) pending
  left = left_over pending i p at

  -- the next has a ticket
  pub given : (k : Ticket) (so_far : List Ticket) → p.ticket ≡ Some k → so_far ++ tickets_of (drop i pending) ≡ tickets_of pending → (so_far ++ k ∷ []) ++ tickets_of (drop (i + 1) pending) ≡ tickets_of pending
  given k so_far is whole =
      let first : tickets_of (p ∷ drop (i + 1) pending) ≡ k ∷ tickets_of (drop (i + 1) pending) = rw is refl in
      append_assoc so_far (k ∷ []) (tickets_of (drop (i + 1) pending)) ∙ ap (λ (rest : List Ticket). so_far ++ rest) (sym (ap tickets_of left ∙ first)) ∙ whole

  -- the next has none
  pub without : (so_far : List Ticket) → p.ticket ≡ None → so_far ++ tickets_of (drop i pending) ≡ tickets_of pending → so_far ++ tickets_of (drop (i + 1) pending) ≡ tickets_of pending
  without so_far is whole =
      let first : tickets_of (p ∷ drop (i + 1) pending) ≡ tickets_of (drop (i + 1) pending) = rw is refl in
      ap (λ (rest : List Ticket). so_far ++ rest) (sym (ap tickets_of left ∙ first)) ∙ whole

  pub has_one : is_some p.ticket ≡ true → has_tickets (drop i pending) ≡ true
  has_one is = ap has_tickets left ∙ rw is refl

  pub has_no_more : is_some p.ticket ≡ false → has_tickets (drop (i + 1) pending) ≡ has_tickets (drop i pending)
  has_no_more is = sym (ap has_tickets left ∙ rw is refl)

  -- the first that has a ticket is the next
  pub found_first : (k : Ticket) → p.ticket ≡ Some k → at_place (unanswered (drop i pending)) 0 ≡ Some (record { ticket = k.0; command = p.command })
  found_first k is = ap (λ (ps : List Asked). at_place (unanswered ps) 0) left ∙ rw is refl

  pub found_later : (k : Ticket) (n : ℕ) → p.ticket ≡ Some k → at_place (unanswered (drop (i + 1) pending)) n ≡ at_place (unanswered (drop i pending)) (suc n)
  found_later k n is = sym (ap (λ (ps : List Asked). at_place (unanswered ps) (suc n)) left ∙ rw is refl)

  pub found_behind : (n : ℕ) → p.ticket ≡ None → at_place (unanswered (drop (i + 1) pending)) n ≡ at_place (unanswered (drop i pending)) n
  found_behind n is = sym (ap (λ (ps : List Asked). at_place (unanswered ps) n) left ∙ rw is refl)

-- runs of acts
use Rattle.std.proofs.Common.{◌≡◌, List, [], ◌∷◌, ◌++◌, refl, sym, ◌∙◌, ap, subst, append_assoc}
use Rattle.jdwp_apart.specs.World as apart
use Rattle.jdwp_orders.specs.Acts.{Act, events_of, in_one_order}

abbrev pub acted : apart.World → List Act → apart.World
acted v acts = apart.run v (in_one_order acts)

run-along : (v : apart.World) (xs ys : List apart.Event) → apart.run v (xs ++ ys) ≡ apart.run (apart.run v xs) ys
run-along v [] ys = refl
run-along v (x ∷ xs) ys = run-along (apart.next v x) xs ys

order-along : (xs ys : List Act) → in_one_order (xs ++ ys) ≡ in_one_order xs ++ in_one_order ys
order-along [] ys = refl
order-along (x ∷ xs) ys = ap (λ l. events_of x ++ l) (order-along xs ys) ∙ sym (append_assoc (events_of x) (in_one_order xs) (in_one_order ys))

pub acted_along : (v : apart.World) (xs ys : List Act) → acted v (xs ++ ys) ≡ acted (acted v xs) ys
acted_along v xs ys = ap (apart.run v) (order-along xs ys) ∙ run-along v (in_one_order xs) (in_one_order ys)

-- some acts lead to where P holds
abbrev pub Leads : (apart.World → Type 0) → apart.World → Type 0
Leads P v = (acts : List Act) × P (acted v acts)

pub leads_here : (P : apart.World → Type 0) (v : apart.World) → P v → Leads P v
leads_here P v h = ([], h)

pub leads_on : (P Q : apart.World → Type 0) (v : apart.World) → Leads P v → ((u : apart.World) → P u → Leads Q u) → Leads Q v
leads_on P Q v h f = let g = f (acted v h.0) h.1 in (h.0 ++ g.0, subst Q (sym (acted_along v h.0 g.0)) g.1)

use Rattle.std.proofs.lemmas.Grind.{common_steps}
use Rattle.std.proofs.Common.{◌≡◌, ◌∙◌, ap, refl, sym, ℕ, ◌+◌, ◌<◌, ◌++◌, ◌∷◌, [], take, get_or, length, List, map, Some, None, arith}
use Rattle.std.specs.Global.{Vec}
use Rattle.std.proofs.lemmas.List.{take_more, map-append, append-nil}
use Rattle.std.proofs.lemmas.List.Elements.{filter_map-append}
use Rattle.jdwp_layout.specs.declared.datum.Scalar.{Scalar}
use Rattle.jdwp_layout.specs.Meanings.{ScalarMeaning, entry_meaning, entry_meanings, scalar_meanings}
use Rattle.jdwp_event.specs.declared.modifier.Modifier.{Modifier}
use Rattle.jdwp_event.specs.ModifierMeanings.{modifier_meaning}
use Rattle.jdwp_event.specs.Modifiers.{ModifierMeaning, modifiers_of, modifier_of}
use Rattle.jdwp_mirror.proofs.requests.modifiers_in.Goals as goal
use Rattle.jdwp_mirror.proofs.requests.modifiers_in.Goals.{in-Some+in_ok-push-in-Some, in-None}

modifiers-more : (entries : List (Vec Scalar)) (i : ℕ) (e : Vec Scalar) → i < length entries → e ≡ get_or entries i e
    → modifiers_of (entry_meanings (take (i + 1) entries)) ≡ modifiers_of (entry_meanings (take i entries)) ++ modifiers_of (entry_meaning e ∷ [])
modifiers-more entries i e lt is =
    let front = entry_meanings (take i entries) in
    ap (λ (xs : List (Vec Scalar)). modifiers_of (entry_meanings xs)) (take_more entries i e lt) ∙ ap modifiers_of (map-append entry_meaning (take i entries) (get_or entries i e ∷ [])) ∙
    filter_map-append modifier_of front (entry_meaning (get_or entries i e) ∷ []) ∙ ap (λ (x : Vec Scalar). modifiers_of front ++ modifiers_of (entry_meaning x ∷ [])) (sym is)

one-more : (x : List ScalarMeaning) (m : ModifierMeaning) → Some m ≡ modifier_of x → modifiers_of (x ∷ []) ≡ m ∷ []
one-more x m e = rw (← e) refl

none-more : (x : List ScalarMeaning) → None ≡ modifier_of x → modifiers_of (x ∷ []) ≡ []
none-more x e = rw (← e) refl

pub loop-entry-preserved : goal.loop-entry-preserved
loop-entry-preserved c =
    let entries = c.args.entries.now in
    let i = c.loop-entry.entry-index in
    let e = c.entry-item.result in
    let front = modifiers_of (entry_meanings (take i entries)) in
    let same : entry_meaning c.in_ok-copy.copy ≡ entry_meaning e = c.in_ok-copy.ensures ∙ ap scalar_meanings c.deref.ensures.value in
    let more = modifiers-more entries i e c.loop-entry-test.true c.entry-item.is in
    elim c.match-of_entry.branch [
      | in-Some+in_ok-push-in-Some w ↦
          let m = modifier_meaning w.in-Some.modifier in
          let one = one-more (entry_meaning e) m (w.in-Some.ensures ∙ ap modifier_of same) in
          ap (λ (v : Vec Modifier). map modifier_meaning v.items) w.modifiers-is ∙ ap (λ (ms : List Modifier). map modifier_meaning ms) w.in_ok-push-in-Some.ensures.items ∙
          map-append modifier_meaning c.loop-entry.modifiers.items (w.in-Some.modifier ∷ []) ∙ ap (λ (ms : List ModifierMeaning). ms ++ m ∷ []) c.loop-entry.invariant ∙
          sym (more ∙ ap (λ (ms : List ModifierMeaning). front ++ ms) one)
      | in-None w ↦
          let none = none-more (entry_meaning e) (w.in-None.ensures ∙ ap modifier_of same) in
          ap (λ (v : Vec Modifier). map modifier_meaning v.items) w.modifiers-is ∙ c.loop-entry.invariant ∙ sym (more ∙ ap (λ (ms : List ModifierMeaning). front ++ ms) none ∙ append-nil front)
    ]

pub returns : goal.returns
returns c = grind (arith, common_steps)

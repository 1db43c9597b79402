-- The search finds the widths of the relation.
use Rattle.std.proofs.Common.{◌≡◌, List, [], Option, Some, None, refl, ap, ◌∙◌}
use Rattle.std.specs.Option.{option_flatten}
use Rattle.std.proofs.lemmas.Option.{same_Some}
use Rattle.jdwp_wire.specs.Widths.{Widths}
use Rattle.jdwp_show.specs.declared.capture_fault.CaptureFault.{CaptureFault}
use Rattle.jdwp_show.specs.Items.{Item}
use Rattle.jdwp_show.specs.Rules.{waiting_for, order_fault_of}
use Rattle.jdwp_show.specs.Sessions.{first_answer, told_widths, told_or_ended, widths_answer, widths_of}
use Rattle.jdwp_show.specs.Waiting.{GoesOn, TellsWidths}
use Rattle.jdwp_show.proofs.SessionLaws.{answered_from, none_at, none_after, first_at}

unasked : (fault : Option CaptureFault) (widths : Option Widths) → told_or_ended fault widths ≡ None → (fault ≡ None) × (widths ≡ None)
unasked None None e = (refl, refl)
unasked None (Some w) e = cc
unasked (Some f) widths e = cc

asked : (fault : Option CaptureFault) (told : Option Widths) (widths : Widths) → told_or_ended fault told ≡ Some (Some widths) → (fault ≡ None) × (told ≡ Some widths)
asked None None widths e = cc
asked None (Some w) widths e = (refl, same_Some _ _ e)
asked (Some f) found widths e = absurd (let none = same_Some {A = Option Widths} None (Some widths) e in cc)

goes_on : (before : List Item) (item : Item) → widths_answer before item ≡ None → GoesOn before item
goes_on before item e = let both = unasked (order_fault_of before item) (told_widths (waiting_for before item.found) item.sender item.found) e in record { holds = both.0; tells_none = both.1 }

flat : (o : Option (Option Widths)) (widths : Widths) → option_flatten o ≡ Some widths → o ≡ Some (Some widths)
flat None widths e = cc
flat (Some None) widths e = cc
flat (Some (Some w)) widths e = ap (λ (x : Option Widths). Some x) e

pub widths_from : (items : List Item) (widths : Widths) → widths_of items ≡ Some widths → TellsWidths items widths
widths_from items widths e =
    let a = answered_from widths_answer [] items (Some widths) (flat (first_answer widths_answer items) widths e) in
    let both = asked (order_fault_of a.before a.item) (told_widths (waiting_for a.before a.item.found) a.item.sender a.item.found) widths a.answers in
    record {
      before = a.before;
      item = a.item;
      after = a.after;
      items_are = a.in_items;
      earlier_go_on = λ first other others split. goes_on first other (none_at widths_answer a.before first other others a.none_earlier split);
      holds = both.0;
      tells = both.1;
    }

pub widths_to : (items : List Item) (widths : Widths) → TellsWidths items widths → widths_of items ≡ Some widths
widths_to items widths h =
    let none : first_answer widths_answer h.before ≡ None = none_after widths_answer [] h.before (λ first other others split. let g = h.earlier_go_on first other others split in rw (g.holds, g.tells_none) refl) in
    let here : widths_answer h.before h.item ≡ Some (Some widths) = rw (h.holds, h.tells) refl in
    let first : first_answer widths_answer items ≡ Some (Some widths) = first_at widths_answer items h.before h.item h.after h.items_are ∙ rw (none, here) refl in
    ap (λ (o : Option (Option Widths)). option_flatten o) first

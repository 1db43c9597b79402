-- What was reported is read by the layout of a composite.
use Rattle.std.proofs.Common.{◌≡◌, ℕ, List, [], length, Some, Ok, refl, subst}
use Rattle.std.proofs.lemmas.List.{append-nil}
use Rattle.jdwp_wire.specs.Widths.{Widths}
use Rattle.jdwp_event.specs.CompositeBytes.{EncodesComposite, composite_at}
use Rattle.jdwp_event.specs.CompositeLaws.{composite_codes}
use Rattle.jdwp_event.specs.Composites.{CompositeMeaning}
use Rattle.jdwp_debugger.specs.News.{composite_in}

pub reads-as-reported : (w : Widths) (composite : CompositeMeaning) (code : List ℕ) → EncodesComposite w composite code → composite_in w code ≡ Some composite
reads-as-reported w composite code h =
    let read : composite_at w (length code) code ≡ Ok (composite, []) =
    subst (λ (bytes : List ℕ). composite_at w (length code) bytes ≡ Ok (composite, [])) (append-nil code) ((composite_codes w (length code)).again code composite [] h) in
    rw read refl

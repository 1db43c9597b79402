use Rattle.std.proofs.Common.{◌≡◌, ◌∙◌, ◌++◌, List, ℕ, true, false, inl, inr, sym, ap}
use Rattle.std.specs.Prelude.{is_some}
use Rattle.jdwp_program.specs.Streaming.{is_stopped}
use Rattle.jdwp_program.proofs.LiveLaws.{not_some, whole_front}
use Rattle.jdwp_program.proofs.StreamLaws.{ends_shown, goes_on, hears_on, stops_at}
use Rattle.jdwp_program.proofs.live.show_on.Goals as goal

pub returns-then-stops : goal.returns-then-stops
returns-then-stops g c = λ table text start heard begun.
    let bytes : List ℕ = c.args.bytes.now in
    let more = c.show_more-told.ensures table text heard in
    let stopped : is_stopped c.show_more-told.result ≡ true = sym c.stops.ensures ∙ c.if-stops.true in
    (text ++ bytes, (whole_front (text ++ bytes), stops_at table text bytes _ start _ _ c.show_more-told.result stopped begun more), inr stopped)

pub returns-then-is_some : goal.returns-then-is_some
returns-then-is_some g c = λ table text start heard begun.
    let bytes : List ℕ = c.args.bytes.now in
    let more = c.show_more-told.ensures table text heard in
    let on : is_stopped c.show_more-told.result ≡ false = sym c.stops.ensures ∙ c.if-stops.false in
    let hears = hears_on table text bytes _ _ _ c.show_more-told.result on more in
    let told = goes_on table text bytes _ start _ _ c.show_more-told.result on begun more in
    let known : is_some c.fault.result ≡ true = sym c.is_some.ensures ∙ c.if-is_some.true in (
      text ++ bytes,
      (whole_front (text ++ bytes), ends_shown table (text ++ bytes) start _ _ c.show_rest.result told (c.show_rest.ensures table (text ++ bytes) hears)),
      inl (ap is_some (sym (c.fault.ensures table (text ++ bytes) hears)) ∙ known),
    )

pub returns : goal.returns
returns g c = λ table text start heard begun.
    let bytes : List ℕ = c.args.bytes.now in
    let more = c.show_more-told.ensures table text heard in
    let on : is_stopped c.show_more-told.result ≡ false = sym c.stops.ensures ∙ c.if-stops.false in
    let hears = hears_on table text bytes _ _ _ c.show_more-told.result on more in
    let unknown : is_some c.fault.result ≡ false = sym c.is_some.ensures ∙ c.if-is_some.false in
    (hears, goes_on table text bytes _ start _ _ c.show_more-told.result on begun more, sym (c.fault.ensures table (text ++ bytes) hears) ∙ not_some c.fault.result unknown)

use Rattle.std.proofs.Common.{◌≡◌, ◌∙◌, ◌<◌, ◌++◌, [], ℕ, List, Option, true, false, sym, subst}
use Rattle.std.proofs.KnownBytes.{Consumes-nil}
use Rattle.std.proofs.lemmas.List.{append-nil}
use Rattle.jdwp_program.specs.Captures.{shown_text_under}
use Rattle.jdwp_program.specs.Printing.{AppendsSome}
use Rattle.jdwp_program.specs.Streaming.{ShowsRead, is_stopped}
use Rattle.jdwp_program.proofs.StreamLaws.{goes_on, hears_on, nothing_shown, starves, stopped_early, stops_at}
use Rattle.jdwp_program.proofs.streaming.show_stream.Goals as goal

pub returns-then-stops : goal.returns-then-stops
returns-then-stops g c =
    let begun : List ℕ = c.args.begun.now in
    let start : Option (List ℕ) = g.O.Write.contents c.args.out.now in
    let more = c.show_more-told.ensures c.args.table [] c.under-judge.ensures in
    let stopped : is_stopped c.show_more-told.result ≡ true = sym c.stops.ensures ∙ c.if-stops.true in (
      [],
      Consumes-nil _,
      stopped_early _ c.show_more-told.result stopped,
      subst (λ (l : List ℕ). ShowsRead c.args.table l start (g.O.Write.contents c.show_more-told.new.out) c.show_more-told.result) (sym (append-nil begun))
          (stops_at c.args.table [] begun c.show_more-told.new.judge start start (g.O.Write.contents c.show_more-told.new.out) c.show_more-told.result stopped (nothing_shown c.args.table start) more),
    )

pub returns-in_default : goal.returns-in_default
returns-in_default g c =
    let begun : List ℕ = c.args.begun.now in
    let start : Option (List ℕ) = g.O.Write.contents c.args.out.now in
    let now : Option (List ℕ) = g.O.Write.contents c.show_more-told.new.out in
    let more = c.show_more-told.ensures c.args.table [] c.under-judge.ensures in
    let on : is_stopped c.show_more-told.result ≡ false = sym c.stops.ensures ∙ c.if-stops.false in
    let told = goes_on c.args.table [] begun c.show_more-told.new.judge start start now c.show_more-told.result on (nothing_shown c.args.table start) more in
    ([], Consumes-nil _, tt, subst (λ (l : List ℕ). AppendsSome start now (shown_text_under c.args.table l)) (sym (append-nil begun)) (starves c.args.table begun start now told))

pub returns : goal.returns
returns g c =
    let begun : List ℕ = c.args.begun.now in
    let start : Option (List ℕ) = g.O.Write.contents c.args.out.now in
    let now : Option (List ℕ) = g.O.Write.contents c.show_more-told.new.out in
    let more = c.show_more-told.ensures c.args.table [] c.under-judge.ensures in
    let on : is_stopped c.show_more-told.result ≡ false = sym c.stops.ensures ∙ c.if-stops.false in
    let told = goes_on c.args.table [] begun c.show_more-told.new.judge start start now c.show_more-told.result on (nothing_shown c.args.table start) more in
    let rest = c.show_onward.ensures c.args.table begun (hears_on c.args.table [] begun c.show_more-told.new.judge start now c.show_more-told.result on more) in
    (rest.0, rest.1, rest.2, rest.3 start told)

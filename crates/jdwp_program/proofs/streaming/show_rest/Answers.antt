use Rattle.std.proofs.Common.{◌≡◌, ◌∙◌, ℕ, Option, subst}
use Rattle.std.proofs.KnownBytes.{Keeps-refl}
use Rattle.jdwp_show.specs.declared.capture_fault.CaptureFault.{CaptureFault}
use Rattle.jdwp_program.specs.Streaming.{Prints}
use Rattle.jdwp_program.proofs.StreamLaws.{rest_shown, shown_ends}
use Rattle.jdwp_program.proofs.streaming.show_rest.Goals as goal

pub returns-in_default : goal.returns-in_default
returns-in_default g c = λ table text heard. let e = shown_ends table text in (e.0, e.1, Keeps-refl _)

pub returns-in_default-shown_words : goal.returns-in_default-shown_words
returns-in_default-shown_words g c = λ table text heard. let e = shown_ends table text in (e.0, e.1, Keeps-refl _)

pub returns : goal.returns
returns g c = λ table text heard.
    let lines = c.in-Ok.ensures.lines table text heard in
    let fault = c.in-Ok.ensures.fault table text heard in (
      c.as_str.result.now,
      rest_shown table text _ c.as_str.result.now c.in-Ok.shown.fault lines fault (c.as_str.ensures.value ∙ c.in-Ok-shown_words.ensures),
      subst (λ (o : Option (ℕ × CaptureFault)). Prints o c.as_str.result.now (g.O.Write.contents c.args.out.now) (g.O.Write.contents c.print_text.new.out) c.print_text.result) fault c.print_text.ensures,
    )

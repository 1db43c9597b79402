use Rattle.std.proofs.Common.{◌≡◌}
use Rattle.milunovesk.specs.Show.Verdict.TheVariants as verdict
use Rattle.milunovesk_uses.proofs.capture.first_faulty_line.Goals as goal

-- src/capture.rt:13:1
pub returns-in-Yes-clause-line : goal.returns-in-Yes-clause-line
returns-in-Yes-clause-line c place = (
  (λ some. absurd cc),
  (λ found.
      let no : c.in_ok-check.field-0 ≡ verdict.No place found.0 = (c.in_ok-check.ensures.no place found.0).1 found.1 in
      let yes : c.in_ok-check.field-0 ≡ verdict.Yes = c.in-Yes.is in
      absurd cc),
)

-- src/capture.rt:13:1
pub returns-in-No-clause-line : goal.returns-in-No-clause-line
returns-in-No-clause-line c place = (
  (λ some.
      let told : c.in_ok-check.field-0 ≡ verdict.No c.in-No.line c.in-No._fault = c.in-No.is in
      let is : c.in_ok-check.field-0 ≡ verdict.No place c.in-No._fault = cc in
      (c.in-No._fault, (c.in_ok-check.ensures.no place c.in-No._fault).0 is)),
  (λ found.
      let told : c.in_ok-check.field-0 ≡ verdict.No c.in-No.line c.in-No._fault = c.in-No.is in
      let no : c.in_ok-check.field-0 ≡ verdict.No place found.0 = (c.in_ok-check.ensures.no place found.0).1 found.1 in
      cc),
)

use Rattle.jdwp_files.proofs.paired.pair_lines.Goals as goal

pub returns-clause-ran : goal.returns-clause-ran
returns-clause-ran g c = record {
  ended = c.in_ok-run.run'.ended;
  left = c.in_ok-run.run'.pipe;
  printed = _;
  ran = rw (c.in_ok-partner.ensures, c.new-printed.ensures.story, c.limits-limits.ensures) at c.in_ok-run.ensures.ran;
  is_partner = c.session.ensures;
  are_written = c.write_cases-are_written.result;
  need_not = c.write_cases-are_written.ensures;
  output = c.failure.result;
  told = c.outcome_of-told.result;
  told_of = rw (c.verdict-verdict.ensures, c.limits-limits.ensures) at c.outcome_of-told.ensures;
  outcome_is = rw c.standing-standing.ensures at c.with_standing.ensures;
}

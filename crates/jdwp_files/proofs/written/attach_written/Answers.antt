use Rattle.jdwp_files.proofs.written.attach_written.Goals as goal

pub returns-clause-ran : goal.returns-clause-ran
returns-clause-ran g c = record {
  ended = c.in_ok-run.run'.ended;
  left = c.in_ok-run.run'.pipe;
  printed = _;
  ran = rw c.new-printed.ensures.story at c.in_ok-run.ensures.ran;
  are_written = c.write_cases-are_written.result;
  need_not = c.write_cases-are_written.ensures;
  output = c.failure.result;
  told = rw c.verdict.ensures at c.outcome_of.ensures;
}

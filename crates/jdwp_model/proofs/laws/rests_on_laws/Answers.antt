use Rattle.jdwp_model.proofs.laws.rests_on_laws.Goals as goal

pub returns : goal.returns
returns g c = record {
  lawful = g.met.M.Machine.lawful;
  facts = c.moves_counts_and_requests.ensures;
  machine = c.changes_machine_at_exit_slots_and_strings.ensures;
  sizes = c.answers_id_sizes.ensures;
  policies = c.accepts_the_three_policies.ensures;
  reports = c.reports_one_thread.ensures;
  runs = c.steps_where_it_runs.ensures;
}

use Rattle.jdwp_across.proofs.laws.of_sessions.Goals as goal

pub returns : goal.returns
returns g c = record {
  finds = record {
    handshake = c.finds_first_message.ensures.handshake;
    packet = c.finds_first_message.ensures.packet;
    nothing = c.finds_first_message.ensures.nothing;
    size = c.finds_whole_messages.ensures.size;
  };
  reads = record {
    asked = c.reads_what_was_asked.ensures;
    answered = c.reads_what_was_answered.ensures;
    reported = c.reads_what_was_reported.ensures;
    sizes = c.reads_id_sizes_at_any_widths.ensures;
    widths = c.reads_widths.ensures.widths;
  };
  puts = record {
    sizes_header_is = c.puts_id_sizes.ensures.header;
    sizes_data_are = c.puts_id_sizes.ensures.data_are;
    sizes_encoded = c.puts_id_sizes.ensures.encoded;
    composites = c.composites_have_their_bytes.ensures;
    death = c.encodes_start_and_death.ensures.death;
    sizes_told = c.answers_id_sizes.ensures;
  };
  worlds = record {
    facts = c.moves_counts_and_requests.ensures;
    widths = g.met.M.Machine.lawful.sizes_are_widths;
    soundly = c.stands_soundly.ensures;
    packets = c.meets_no_fault.ensures.debugger;
    calls = c.meets_no_fault.ensures.target;
    one = c.answers_one_that_waits.ensures.one;
    places = c.answers_one_that_waits.ensures.places;
    few = c.defers_few_commands.ensures;
    known_and_held = c.mirrors_what_was_seen.ensures.known_and_held;
    counts = c.mirrors_what_was_seen.ensures.counts;
    requests = c.mirrors_what_was_seen.ensures.requests;
    suspended = c.holds_only_suspended_threads.ensures.suspended;
    covered = c.holds_only_suspended_threads.ensures.covered;
    at_most = c.counts_at_most.ensures;
    stays = c.frames_read_stay_true.ensures;
  };
}

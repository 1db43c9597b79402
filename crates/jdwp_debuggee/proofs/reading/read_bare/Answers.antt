use Rattle.std.proofs.Common.{rules}
use Rattle.jdwp_debuggee.proofs.reading.read_bare.Goals as goal

pub bare-requires-in-1-eq7-clause-bare : goal.bare-requires-in-1-eq7-clause-bare
bare-requires-in-1-eq7-clause-bare c = search rules

pub bare-requires-in-1-eq7-clause-short : goal.bare-requires-in-1-eq7-clause-short
bare-requires-in-1-eq7-clause-short c = search rules

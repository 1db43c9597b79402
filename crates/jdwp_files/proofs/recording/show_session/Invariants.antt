use Rattle.std.proofs.Common.{ℕ, List}
use Rattle.jdwp_show.specs.declared.table.Table.TheVariants.{Standard}
use Rattle.jdwp_program.specs.Live.{IsShowing}
use Rattle.jdwp_files.proofs.recording.show_session.Given as goal

abbrev pub invariant-turns : goal.invariant-turns
invariant-turns g l = (text : List ℕ) × IsShowing Standard l.show text (g.O.Write.contents l.fn.out) (g.O.Write.contents l.out)

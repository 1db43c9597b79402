use Rattle.std.proofs.Common.{rules}
use Rattle.jdwp_layout.proofs.writing.write.Goals as goal

pub returns-clause-ok : goal.returns-clause-ok
returns-clause-ok c = search rules

pub returns-clause-err : goal.returns-clause-err
returns-clause-err c = search rules

pub returns-clause-room : goal.returns-clause-room
returns-clause-room c = search rules

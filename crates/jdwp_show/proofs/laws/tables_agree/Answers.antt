use Rattle.jdwp_show.proofs.TableLaws.{layouts_alike, named_alike}
use Rattle.jdwp_show.proofs.laws.tables_agree.Goals as goal

pub returns : goal.returns
returns c = record {
  layouts = λ table command shapes e. layouts_alike table command.set command.number shapes e;
  names = λ table command. named_alike table command.set command.number command;
}

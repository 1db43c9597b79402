use Rattle.jdwp_judge.proofs.CaptureJudgeLaws.{says_the_same}
use Rattle.jdwp_judge.proofs.laws.a_fault_ends_what_is_told.Goals as goal

pub returns : goal.returns
returns c = record {
  fault = λ table text more place known whole good. (let e = says_the_same table text more place known whole good in (e.on, e.here));
  lines = λ table text more place known whole good. (says_the_same table text more place known whole good).shows;
}

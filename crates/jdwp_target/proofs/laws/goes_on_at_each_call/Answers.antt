use Rattle.jdwp_target.proofs.TargetRuns.{ran-new, ran-opened, ran-fed, ran-taken, ran-lost, ran-handled, ran-stepped, ran-deferring, ran-released}
use Rattle.jdwp_target.proofs.laws.goes_on_at_each_call.Goals as goal

pub returns : goal.returns
returns g c =
    let m = g.M.Machine.meaning in
    record {
      new = λ settings now. ran-new m settings now;
      opened = λ v. ran-opened m v;
      fed = λ v bytes opened ran. ran-fed m v bytes opened ran;
      taken = λ v n le ran. ran-taken m v n le ran;
      lost = λ v ran. ran-lost m v ran;
      handled = λ v message used fits front sends ran. ran-handled m v message used fits front sends ran;
      stepped = λ v t may sends ran. ran-stepped m v t may sends ran;
      deferring = λ v deferring ran. ran-deferring m v deferring ran;
      released = λ v place session there sends ran. ran-released m v place session there sends ran;
    }

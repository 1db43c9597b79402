use Rattle.std.proofs.Common.{◌≡◌, ◌<◌, ◌≤◌, Some, arith, length, suc, refl}
use Rattle.std.specs.List.{slice_get}
use Rattle.std.proofs.lemmas.Bool.Decides.{nat_tests}
use Rattle.std.proofs.lemmas.Option.{slice_get_read}
use Rattle.jdwp_program.proofs.Waiting.{written_there, written_behind}
use Rattle.jdwp_program.proofs.awaiting.Awaited.at_written.Goals as goal

pub returns-in-Some-get : goal.returns-in-Some-get
returns-in-Some-get c =
    let is : c.args.line ≡ suc c.in-Some.place = grind (arith, nat_tests) in
    let e = c.in-Some-get.ensures.lookup in
    let lt : c.in-Some.place < length c.args.plan.now = grind (arith, nat_tests) in
    let there : slice_get c.args.plan.now c.in-Some.place ≡ Some c.in-Some-get.line.now = slice_get_read c.args.plan.now (length c.args.plan.now) c.in-Some.place c.in-Some-get.line.now refl lt e.1 in
    rw (c.by_written.ensures, written_there c.args.plan.now c.args.line c.in-Some.place c.in-Some-get.line.now is there) refl

pub returns-in-None : goal.returns-in-None
returns-in-None c =
    let is : c.args.line ≡ suc c.in-Some.place = grind (arith, nat_tests) in
    let e = c.in-None.ensures.lookup in
    let le : length c.args.plan.now ≤ c.in-Some.place = grind (arith, nat_tests) in
    rw (written_behind c.args.plan.now c.args.line c.in-Some.place is le) refl

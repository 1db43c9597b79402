use Rattle.std.proofs.Common.{◌≤◌, length, sym, arith}
use Rattle.std.proofs.lemmas.List.{length-take-le}
use Rattle.jdwp_draw.proofs.message.push_cut.Goals as goal

pub slice_bounds-push_escaped-length : goal.slice_bounds-push_escaped-length
slice_bounds-push_escaped-length c =
    let h : 94 ≤ length c.args.line.now = omega arith in
    sym (length-take-le 94 c.args.line.now h)

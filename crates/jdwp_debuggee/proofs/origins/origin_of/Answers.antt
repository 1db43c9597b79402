use Rattle.std.proofs.Common.{◌≡◌, rules}
use Rattle.jdwp_debuggee.specs.Origins.{frames_query}
use Rattle.jdwp_debuggee.proofs.Answered.{few_frames}
use Rattle.jdwp_debuggee.proofs.origins.origin_of.Goals as goal

pub origin_in_answer-requires : goal.origin_in_answer-requires
origin_in_answer-requires g c =
    let m = g.M.Machine.meaning in
    let asked : c.in_ok-answer.answer ≡ m.query c.args.machine.now (frames_query c.args.thread.0) = search rules in
    rw asked (few_frames m g.met.M.Machine.lawful c.args.machine.now c.live-live.ensures.state c.args.thread.0)

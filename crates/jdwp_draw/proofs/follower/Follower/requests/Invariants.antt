use Rattle.std.proofs.Common.{◌≡◌, ◌++◌, map}
use Rattle.jdwp_draw.specs.Pictures.{standing_of}
use Rattle.jdwp_draw.proofs.follower.Follower.requests.Given as goal

-- those so far, and those that are left
abbrev pub invariant-loop-request : goal.invariant-loop-request
invariant-loop-request l = l.requests.items ++ map standing_of l.request-iterator ≡ map standing_of l.self.mirror.requests

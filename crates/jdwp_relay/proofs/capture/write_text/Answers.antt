use Rattle.std.proofs.Common.{◌≡◌, ◌-◌, ℕ, List, take, drop, length, arith, take-add, length-drop, rules}
use Rattle.std.proofs.KnownBytes.{Appends-kept, Appends-trans}
use Rattle.std.proofs.lemmas.List.{take_all}
use Rattle.jdwp_relay.proofs.capture.write_text.Goals as goal
use Rattle.jdwp_relay.proofs.capture.write_text.Goals.{in-Ok, in-Err+else-ne}

-- a slice from a place to the end
slice-end : (text : List ℕ) (place : ℕ) → take (length text - place) (drop place text) ≡ drop place text
slice-end text place =
    let len = length-drop place text in
    take_all (length text - place) (drop place text) (omega arith)

pub writes-preserved : goal.writes-preserved
writes-preserved g c =
    let inv = c.writes.invariant in
    let all = c.args.text.now in
    let sent = c.writes.sent in
    elim c.match-write.branch [
      | in-Ok w ↦
          let more = rw (slice-end all sent) at w.in-Ok.ensures.bytes in
          let bound = rw (slice-end all sent) at w.in-Ok.ensures.bound in
          rw (w.sent-is, take-add sent w.in-Ok.count all) (omega (arith, inv.0, bound, length-drop sent all), Appends-trans _ _ _ _ _ inv.1 more)
      | in-Err+else-ne w ↦ rw w.sent-is (inv.0, Appends-kept _ _ _ _ inv.1 w.in-Err.ensures.bytes)
    ]

pub writes-init : goal.writes-init
writes-init g c =
    search rules

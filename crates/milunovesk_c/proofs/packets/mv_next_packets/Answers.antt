use Rattle.std.proofs.Common.{◌∙◌, ◌-◌, length, sym, inl, inr, arith}
use Rattle.std.proofs.lemmas.Grind.{common_steps}
use Rattle.milunovesk_c.specs.Packets.{front_at}
use Rattle.milunovesk_c.proofs.Standing.{left-packet}
use Rattle.milunovesk_c.proofs.packets.mv_next_packets.Goals as goal

pub returns-clause-left : goal.returns-clause-left
returns-clause-left c = grind (arith, common_steps)

pub returns-clause-full : goal.returns-clause-full
returns-clause-full c = λ e.
    let bytes = c.args.bytes.now in
    let used = c.tell-count.result.1 in
    elim c.tell-count.ensures.rest [
      | inl all ↦ all
      | inr none ↦ absurd (left-packet (length bytes - used) (front_at bytes used) (sym (returns-clause-left c) ∙ e) none)
    ]

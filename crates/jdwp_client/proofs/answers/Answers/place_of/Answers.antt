use Rattle.std.proofs.Common.{◌∙◌, arith, sym}
use Rattle.std.specs.Prelude.{slice_index_or}
use Rattle.jdwp_client.specs.Keeping.{is_under}
use Rattle.jdwp_client.proofs.Rising.{first-is-at, none-among, none-is-there, unlike-below}
use Rattle.jdwp_client.proofs.answers.Answers.place_of.Goals as goal

pub returns-then-is_at : goal.returns-then-is_at
returns-then-is_at c =
    let xs = c.args.self.now.items.items in
    let t = c.args.ticket.0 in
    let within = c.is_at.ensures.within c.if-is_at.true in
    first-is-at (is_under t) xs c.place_among-place.result within (λ d. sym (c.is_at.ensures.at d within) ∙ c.if-is_at.true)
    (λ k d less. unlike-below (slice_index_or xs k d) t (c.place_among-place.ensures.before k d less))

pub loop-later-init : goal.loop-later-init
loop-later-init c =
    none-among c.args.self.now.rising c.place_among-place.result c.args.self.now.items.items c.args.ticket.0 c.requires c.place_among-place.ensures.before c.place_among-place.ensures.behind
    (λ d within. sym c.if-is_at.false ∙ c.is_at.ensures.at d within)

pub returns-then-is_at-2 : goal.returns-then-is_at-2
returns-then-is_at-2 c =
    let within = c.is_at-in-loop-later.ensures.within c.if-is_at-2.true in
    first-is-at (is_under c.args.ticket.0) c.args.self.now.items.items c.loop-later.later within (λ d. sym (c.is_at-in-loop-later.ensures.at d within) ∙ c.if-is_at-2.true) c.loop-later.invariant

pub returns : goal.returns
returns c = none-is-there (is_under c.args.ticket.0) c.args.self.now.items.items (λ k d less. c.loop-later.invariant k d (omega arith))

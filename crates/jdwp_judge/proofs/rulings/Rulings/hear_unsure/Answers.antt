use Rattle.std.proofs.Common.{◌≡◌, ◌∙◌, ◌⊎◌, ◌∷◌, ◌++◌, true, List, [], Some, ap, refl, subst, sym}
use Rattle.std.proofs.lemmas.Result.{on_ok_weaker}
use Rattle.jdwp_show.specs.Items.{Item}
use Rattle.jdwp_show.specs.Tables.{terms_by}
use Rattle.jdwp_judge.specs.declared.asked.Asked.{Asked}
use Rattle.jdwp_judge.specs.declared.backlog.Backlog.{Backlog}
use Rattle.jdwp_judge.specs.Heard.{thing, item_of, items_kept, AreKept}
use Rattle.jdwp_judge.specs.Standing.{kept_in, IsTold}
use Rattle.jdwp_judge.specs.Told.{wants_widths}
use Rattle.jdwp_judge.proofs.SameLaws.{none_of}
use Rattle.jdwp_judge.proofs.HearingLaws.{Looked, looked_unsure, heard_waiting, heard_at_once, heard_stopped, heard_released}
use Rattle.jdwp_judge.proofs.rulings.Rulings.hear_unsure.Goals as goal

pub returns-then-has_to_wait : goal.returns-then-has_to_wait
returns-then-has_to_wait c = λ old table items follows looked.
    let heard = c.args.heard.now in
    let x = item_of heard in
    let own = looked.table ∙ follows.by_table in
    let why = rw own at (rw c.if-has_to_wait.true at c.has_to_wait.ensures.waits) in
    on_ok_weaker c.push.result (λ pushed.
    heard_waiting table old _ x c.args.begun c.args.waits items _ follows (looked.table ∙ follows.by_table) (sym looked.fault ∙ c.requires.none)
    (looked_unsure old c.args.self.now x c.args.begun c.args.waits c.args.self.now.sizes looked c.requires.unsure (c.requires.unsure ∙ sym c.in_default.is ∙ c.widths_by.ensures))
    (pushed ∙ ap (λ (b : Backlog). kept_in b ++ record { item = x; begun = c.args.begun; waits = c.args.waits } ∷ []) looked.kept) c.requires.none c.requires.unsure
    (subst (λ (b : Backlog). (kept_in b ≡ [] → ⊥) ⊎ (wants_widths table c.args.waits (thing heard.found) ≡ true)) looked.kept why)) c.push.ensures

pub returns-in_default : goal.returns-in_default
returns-in_default c = λ old table items follows looked.
    let x = item_of c.args.heard.now in
    let own = looked.table ∙ follows.by_table in
    let why = rw own at (rw c.if-has_to_wait.false at c.has_to_wait.ensures.known) in
    heard_at_once table c.args.self.now.table old _ x c.args.begun c.args.waits items _ _ follows own refl (sym looked.fault ∙ c.requires.none)
    (looked_unsure old c.args.self.now x c.args.begun c.args.waits _ looked c.requires.unsure (sym c.in_default.is ∙ c.widths_by.ensures)) (ap (λ (b : Backlog). kept_in b) (sym looked.kept) ∙ why.0) why.1 (rw c.terms.ensures at c.tell-self.ensures.fault) (rw c.terms.ensures at c.tell-self.ensures.line) why.0 c.requires.unsure

pub returns-then-is_some : goal.returns-then-is_some
returns-then-is_some c = λ old table items follows looked.
    let x = item_of c.args.heard.now in
    let sizes = c.in-Some.sizes in
    let told = subst (λ (b : Backlog). (front : List Item) → AreKept front (kept_in b) → IsTold (terms_by c.args.self.now.table sizes) front (items_kept (kept_in b)) c.release.new.self.fault c.args.lines.now c.release.new.lines) looked.kept c.release.ensures.told in
    heard_stopped table c.args.self.now.table old c.release.new.self x c.args.begun c.args.waits (Some sizes) items _ _ follows (looked.table ∙ follows.by_table) c.release.ensures.table (sym looked.fault ∙ c.requires.none)
    (subst (λ (a : Asked). Looked old a x c.args.begun c.args.waits (Some sizes)) (sym c.release.ensures.asked) (looked_unsure old c.args.self.now x c.args.begun c.args.waits (Some sizes) looked c.requires.unsure (sym c.in-Some.is ∙ c.widths_by.ensures)))
    (λ e. absurd cc) told (sym c.is_some.ensures ∙ c.if-is_some.true) c.release.ensures.none_kept c.release.ensures.sizes

pub returns : goal.returns
returns c = λ old table items follows looked.
    let x = item_of c.args.heard.now in
    let sizes = c.in-Some.sizes in
    let quiet = none_of c.release.new.self.fault (sym c.is_some.ensures ∙ c.if-is_some.false) in
    let told = subst (λ (b : Backlog). (front : List Item) → AreKept front (kept_in b) → IsTold (terms_by c.args.self.now.table sizes) front (items_kept (kept_in b)) c.release.new.self.fault c.args.lines.now c.release.new.lines) looked.kept c.release.ensures.told in
    heard_released table c.args.self.now.table old _ x c.args.begun c.args.waits (Some sizes) items _ _ _ _ follows (looked.table ∙ follows.by_table) c.release.ensures.table (sym looked.fault ∙ c.requires.none)
    (subst (λ (a : Asked). Looked old a x c.args.begun c.args.waits (Some sizes)) (sym c.release.ensures.asked) (looked_unsure old c.args.self.now x c.args.begun c.args.waits (Some sizes) looked c.requires.unsure (sym c.in-Some.is ∙ c.widths_by.ensures)))
    (λ e. absurd cc) told quiet (rw (c.terms-2.ensures, c.release.ensures.table) at c.tell-self-2.ensures.fault) (rw (c.terms-2.ensures, c.release.ensures.table) at c.tell-self-2.ensures.line) c.release.ensures.none_kept c.release.ensures.sizes

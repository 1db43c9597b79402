-- What answers and composites make of an account is what the definitions say.
use Rattle.std.proofs.Common.{◌≡◌, ◌∙◌, ℕ, ◌+◌, ◌≤◌, ◌^◌, [], ◌∷◌, true, false, List, Some, refl, sym, ap, subst}
use Rattle.std.specs.Prelude.{◌||◌}
use Rattle.jdwp_layout.specs.declared.answer.Answer.{Answer}
use Rattle.jdwp_layout.specs.declared.answer.Answer.TheVariants.{Data, Error}
use Rattle.jdwp_layout.specs.Meanings.{DatumMeaning, ScalarMeaning, Int, One}
use Rattle.jdwp_event.specs.Composites.{CompositeMeaning}
use Rattle.jdwp_action.specs.Actions as actions
use Rattle.jdwp_action.specs.Actions.{Action, Command, action_of, is_dispose, is_exit}
use Rattle.jdwp_mirror.specs.CommandKinds.{kind_of}
use Rattle.jdwp_apart.specs.Messages.{Composite, Reply}
use Rattle.jdwp_apart.specs.Following.{made_by, since, with_made}
use Rattle.jdwp_apart.specs.Watch.{Watch, later, reads_reply, reads_composite, rest}
use Rattle.jdwp_watch.specs.declared.standing.Change.TheVariants.{Replied, Reported}
use Rattle.jdwp_watch.specs.Ledgers.{Account, HasAnswered, HasReported, Teaches, is_end_kind, is_thread_kind, is_told, made_in}
use Rattle.jdwp_watch.specs.Standings.{changed}
use Rattle.jdwp_watch.specs.Tables.{Table, at, change_for}
use Rattle.jdwp_watch.specs.Tellings.{stops_in, told_in, told_nothing}
use Rattle.jdwp_watch.specs.declared.told.Told.{Told}
use Rattle.jdwp_watch.specs.Watching.{IsKept, Watching, others_by, others_of, watch_of}
use Rattle.jdwp_watch.proofs.Watched.{answered-watch, composite-watch}

abbrev pub watching : Account → List Command → Watching
watching a pending = record { one_by_one = true; answered = a.answered; pending = pending; past = a.past; table = a.table }

abbrev with_invoked : (ℕ → ℕ) → Watch → Watch
with_invoked invoked v = record v { invoked = invoked }

-- ---- kinds of commands

pub end-kind : (a : Action) → is_end_kind (kind_of a) ≡ (is_dispose a || is_exit a)
end-kind actions.Suspend = refl
end-kind actions.Resume = refl
end-kind actions.Dispose = refl
end-kind actions.Exit = refl
end-kind actions.HoldEvents = refl
end-kind actions.ReleaseEvents = refl
end-kind (actions.SetRequest kind policy entries) = refl
end-kind (actions.ClearRequest kind id) = refl
end-kind actions.ClearBreakpoints = refl
end-kind (actions.SuspendThread t) = refl
end-kind (actions.ResumeThread t) = refl
end-kind (actions.SuspendCount t) = refl
end-kind (actions.ThreadStatus t) = refl
end-kind (actions.SetSlots t f slots) = refl
end-kind (actions.AskFrames t) = refl
end-kind (actions.AskThread t) = refl
end-kind actions.AllThreads = refl
end-kind actions.IdSizes = refl
end-kind actions.Ask = refl

-- where no thread is told of, nothing is
told-none : (a : Action) (content : List DatumMeaning) → is_thread_kind (kind_of a) ≡ false → told_in a (Data content) ≡ told_nothing
told-none actions.Suspend content h = absurd cc
told-none actions.Resume content h = absurd cc
told-none actions.Dispose content h = refl
told-none actions.Exit content h = refl
told-none actions.HoldEvents content h = refl
told-none actions.ReleaseEvents content h = refl
told-none (actions.SetRequest kind policy entries) content h = refl
told-none (actions.ClearRequest kind id) content h = refl
told-none actions.ClearBreakpoints content h = refl
told-none (actions.SuspendThread t) content h = absurd cc
told-none (actions.ResumeThread t) content h = absurd cc
told-none (actions.SuspendCount t) content h = absurd cc
told-none (actions.ThreadStatus t) content h = refl
told-none (actions.SetSlots t f slots) content h = refl
told-none (actions.AskFrames t) content h = refl
told-none (actions.AskThread t) content h = refl
told-none actions.AllThreads content h = refl
told-none actions.IdSizes content h = refl
told-none actions.Ask content h = refl

told-nothing : (c : Command) (answer : Answer) → is_told c answer ≡ false → told_in (action_of c) answer ≡ told_nothing
told-nothing c (Data content) h = told-none (action_of c) content h
told-nothing c (Error e) h = refl

teaches-none : (ticket : ℕ) (c : Command) (answer : Answer) (table : Table) → is_told c answer ≡ false → Teaches ticket c answer table table
teaches-none ticket c answer table h t =
    let shown = λ (d : Told). at table t ≡ changed (change_for d.thread (Replied ticket d.own) (others_of ticket d.others) t) (at table t) in
    subst shown (sym (told-nothing c answer h)) refl

-- the table stays where no thread is told of
pub teaches-same : (ticket : ℕ) (c : Command) (answer : Answer) (old new : Table) → new ≡ old → is_told c answer ≡ false → Teaches ticket c answer old new
teaches-same ticket c answer old new same h = subst (λ (x : Table). Teaches ticket c answer old x) (sym same) (teaches-none ticket c answer old h)

-- the id of a request that was made
made-set : (kind policy : ℕ) (entries : List (List ScalarMeaning)) (content : List DatumMeaning) → made_in (kind_of (actions.SetRequest kind policy entries)) content ≡ made_by (actions.SetRequest kind policy entries) (Data content)
made-set kind policy entries [] = refl
made-set kind policy entries (One (Int id) ∷ []) = refl
made-set kind policy entries (One (Int id) ∷ x ∷ xs) = refl
made-set kind policy entries (x ∷ xs) = refl

pub made-kind : (a : Action) (content : List DatumMeaning) → made_in (kind_of a) content ≡ made_by a (Data content)
made-kind (actions.SetRequest kind policy entries) content = made-set kind policy entries content
made-kind a content = refl

-- ---- answers and composites

pub answered-account : (packets most : ℕ) (old new : Account) (c : Command) (answer : Answer) → IsKept packets most old.table → packets ≤ 2 ^ 62 → new.answered ≡ old.answered + 1 → new.past ≡ old.past
    → Teaches (old.answered + 1) c answer old.table new.table → new.made ≡ with_made (made_by (action_of c) answer) (old.answered + 1) old.made → HasAnswered c answer old new
answered-account packets most old new c answer kept few answered past table made = λ pending invoked.
    let reply : Reply = record { command = c; answer = answer } in
    let same : watch_of (watching new (rest pending)) ≡ reads_reply (watch_of (watching old pending)) reply =
    answered-watch packets most (watching old pending) (watching new (rest pending)) reply (told_in (action_of c) answer) kept few refl refl answered refl past table in
    (λ j. Some (record { watch = with_invoked invoked (same j); made = made j }))

pub reported-account : (packets most : ℕ) (old new : Account) (c : CompositeMeaning) → IsKept packets most old.table → packets ≤ 2 ^ 62 → new.answered ≡ old.answered
    → new.past ≡ later (later old.past (since old.made c)) old.answered → new.made ≡ []
    → ((t : ℕ) → at new.table t ≡ changed (change_for (stops_in c).thread (Reported (later old.past (since old.made c)) (stops_in c).own (Some old.asked)) (others_by (later old.past (since old.made c)) (stops_in c).others) t) (at old.table t))
    → HasReported c old new
reported-account packets most old new c kept few answered past made table = λ pending invoked counted.
    let s : Composite = record { meaning = c; since = since old.made c } in
    let after = later old.past (since old.made c) in
    let stops = stops_in c in
    let same : watch_of (watching new pending) ≡ reads_composite (watch_of (watching old pending)) s =
    composite-watch packets most (watching old pending) (watching new pending) s kept few refl answered refl past
    (λ t. table t ∙ ap (λ (n : ℕ). changed (change_for stops.thread (Reported after stops.own (Some n)) (others_by after stops.others) t) (at old.table t)) counted) in
    (λ j. record { watch = with_invoked invoked (same j); made = made j })

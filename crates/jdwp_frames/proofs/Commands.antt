-- What a command does not do that may not change a thread's frames.
use Rattle.std.proofs.Common.{◌≡◌, ◌∙◌, ℕ, ◌==◌, ◌+◌, inl, inr, Bool, true, false, ◌||◌, ◌&&◌, cond, Option, Some, None, List, [], ◌∷◌, ◌++◌, refl, sym, ap, arith}
use Rattle.std.specs.Prelude.{nat_lt}
use Rattle.std.proofs.lemmas.Bool.{cond_both}
use Rattle.jdwp_layout.specs.CommandNumbers.{is_command, STACK_FRAME, FRAMES, FRAME_COUNT, SUSPEND_THREAD, RESUME_THREAD, SUSPEND_COUNT, THREAD_STATUS, SET_SLOTS}
use Rattle.jdwp_action.specs.AboutLaws.{about_action}
use Rattle.jdwp_action.specs.Actions
use Rattle.jdwp_action.specs.Actions.{Action, Command, about, action_by, action_of, is_dispose, thread_action, thread_of}
use Rattle.jdwp_apart.specs.Messages.{is_invocation}
use Rattle.jdwp_client.specs.Holding.{frees, may_free}
use Rattle.jdwp_mirror.specs.Messages.{Ticket, same_ticket}
use Rattle.jdwp_model.specs.Lasting.{has_write, writes, writes_by}
use Rattle.jdwp_model.specs.Next.{without_ticket}
use Rattle.jdwp_model.specs.Seen.{has_dispose, lowers, lowers_by, unanswered}
use Rattle.jdwp_model.proofs.Waiting.{In}
use Rattle.jdwp_frames.specs.Changing.{may_change, rewrites}

pub or-left : (a b : Bool) → (a || b) ≡ false → a ≡ false
or-left true b h = h
or-left false b h = refl

pub or-right : (a b : Bool) → (a || b) ≡ false → b ≡ false
or-right true b h = absurd (cc)
or-right false b h = h

-- ---- one command

freed-none : (a : Action) (t : ℕ) → frees t a ≡ false → (lowers_by a t ≡ 0) × (is_dispose a ≡ false)
freed-none Actions.Suspend t h = (refl, refl)
freed-none Actions.Resume t h = absurd (cc)
freed-none Actions.Dispose t h = absurd (cc)
freed-none Actions.Exit t h = (refl, refl)
freed-none Actions.HoldEvents t h = (refl, refl)
freed-none Actions.ReleaseEvents t h = (refl, refl)
freed-none (Actions.SetRequest kind policy entries) t h = (refl, refl)
freed-none (Actions.ClearRequest kind id) t h = (refl, refl)
freed-none Actions.ClearBreakpoints t h = (refl, refl)
freed-none (Actions.SuspendThread u) t h = (refl, refl)
freed-none (Actions.ResumeThread u) t h = (ap (λ b. cond b 1 0) h, refl)
freed-none (Actions.SuspendCount u) t h = (refl, refl)
freed-none (Actions.ThreadStatus u) t h = (refl, refl)
freed-none (Actions.SetSlots u f slots) t h = (refl, refl)
freed-none (Actions.AskFrames u) t h = (refl, refl)
freed-none (Actions.AskThread u) t h = (refl, refl)
freed-none Actions.AllThreads t h = (refl, refl)
freed-none Actions.IdSizes t h = (refl, refl)
freed-none Actions.Ask t h = (refl, refl)

-- what is about no thread writes no slots
about-none : (a : Action) (t : ℕ) → about a ≡ None → writes_by a t ≡ false
about-none (Actions.SetSlots u f slots) t h = absurd (cc)
about-none a t h = refl

-- a command of this thread that is no SetValues
thread-writes-none : (u : ℕ) (c : Command) (t : ℕ) → is_command SET_SLOTS c.set c.number ≡ false → writes_by (thread_action u c) t ≡ false
thread-writes-none u c t h =
    cond_both (is_command SUSPEND_THREAD c.set c.number) _ _ (λ a. writes_by a t ≡ false) (λ _. refl) (λ _.
    cond_both (is_command RESUME_THREAD c.set c.number) _ _ (λ a. writes_by a t ≡ false) (λ _. refl) (λ _.
    cond_both (is_command SUSPEND_COUNT c.set c.number) _ _ (λ a. writes_by a t ≡ false) (λ _. refl) (λ _.
    cond_both (is_command THREAD_STATUS c.set c.number) _ _ (λ a. writes_by a t ≡ false) (λ _. refl) (λ _.
    cond_both (is_command SET_SLOTS c.set c.number) _ _ (λ a. writes_by a t ≡ false) (λ k. absurd (cc)) (λ _.
    cond_both ((c.set == STACK_FRAME) || (is_command FRAMES c.set c.number || is_command FRAME_COUNT c.set c.number)) _ _ (λ a. writes_by a t ≡ false) (λ _. refl) (λ _. refl))))))

and-or-none : (a b c : Bool) → (a && (b || c)) ≡ false → (a && b) ≡ false
and-or-none true b c h = or-left b c h
and-or-none false b c h = refl

third-none : (a b c d : Bool) → (a || b || c || d) ≡ false → c ≡ false
third-none a b c d h = or-right (a || b) c (or-left (a || b || c) d h)

no-slots : (c : Command) → rewrites c.set c.number ≡ false → is_command SET_SLOTS c.set c.number ≡ false
no-slots c h =
    and-or-none (c.set == 16) (c.number == 2) (c.number == 4)
    (third-none ((c.set == 1) && ((c.number == 10) || (c.number == 18))) ((c.set == 11) && (c.number == 14)) ((c.set == 16) && ((c.number == 2) || (c.number == 4))) (nat_lt 17 c.set) h)

by-thread : (o : Option ℕ) (c : Command) (t : ℕ) → thread_of c ≡ o → is_command SET_SLOTS c.set c.number ≡ false → writes_by (action_by o c) t ≡ false
by-thread (Some u) c t e h = thread-writes-none u c t h
by-thread None c t e h =
    about-none (action_by None c) t (ap (λ o. about (action_by o c)) (sym e) ∙ (about_action c ∙ e))

-- it does not lower the thread's count, disposes of nothing, and writes no slot of the thread
pub record Spares (c : Command) (t : ℕ) : Type 0 where
  pub lowers_none : lowers c t ≡ 0
  pub disposes_none : is_dispose (action_of c) ≡ false
  pub writes_none : writes c t ≡ false

pub spares : (c : Command) (t : ℕ) → may_change t c ≡ false → Spares c t
spares c t h =
    let f = freed-none (action_of c) t (or-right (is_invocation c) (frees t (action_of c)) (or-left (may_free t c) (rewrites c.set c.number) h)) in
    record { lowers_none = f.0; disposes_none = f.1; writes_none = by-thread (thread_of c) c t refl (no-slots c (or-right (may_free t c) (rewrites c.set c.number) h)) }

-- ---- those that wait

abbrev pub has_change : List (Ticket × Command) → ℕ → Bool
has_change [] t = false
has_change (p ∷ ps) t = may_change t p.1 || has_change ps t

pub change-append : (ps : List (Ticket × Command)) (k : Ticket) (c : Command) (t : ℕ) → has_change ps t ≡ false → may_change t c ≡ false → has_change (ps ++ (k, c) ∷ []) t ≡ false
change-append [] k c t h n = ap (λ b. b || false) n
change-append (p ∷ ps) k c t h n =
    ap (λ b. b || has_change (ps ++ (k, c) ∷ []) t) (or-left (may_change t p.1) (has_change ps t) h) ∙ change-append ps k c t (or-right (may_change t p.1) (has_change ps t) h) n

pub change-without : (ps : List (Ticket × Command)) (k : Ticket) (t : ℕ) → has_change ps t ≡ false → has_change (without_ticket k ps) t ≡ false
change-without [] k t h = refl
change-without (p ∷ ps) k t h =
    cond_both (same_ticket p.0 k) ps (p ∷ without_ticket k ps) (λ l. has_change l t ≡ false) (λ _. or-right (may_change t p.1) (has_change ps t) h)
    (λ _. ap (λ b. b || has_change (without_ticket k ps) t) (or-left (may_change t p.1) (has_change ps t) h) ∙ change-without ps k t (or-right (may_change t p.1) (has_change ps t) h))

pub change-in : (ps : List (Ticket × Command)) (k : Ticket) (c : Command) (t : ℕ) → has_change ps t ≡ false → In ps (k, c) → may_change t c ≡ false
change-in [] k c t h i = absurd i
change-in (p ∷ ps) k c t h (inl e) = ap (λ (q : Ticket × Command). may_change t q.1) (sym e) ∙ or-left (may_change t p.1) (has_change ps t) h
change-in (p ∷ ps) k c t h (inr i) = change-in ps k c t (or-right (may_change t p.1) (has_change ps t) h) i

pub lowers-none : (ps : List (Ticket × Command)) (t : ℕ) → has_change ps t ≡ false → unanswered lowers ps t ≡ 0
lowers-none [] t h = refl
lowers-none (p ∷ ps) t h =
    let a : lowers p.1 t ≡ 0 = (spares p.1 t (or-left (may_change t p.1) (has_change ps t) h)).lowers_none in
    let b : unanswered lowers ps t ≡ 0 = lowers-none ps t (or-right (may_change t p.1) (has_change ps t) h) in
    omega arith

pub dispose-none : (ps : List (Ticket × Command)) (t : ℕ) → has_change ps t ≡ false → has_dispose ps ≡ false
dispose-none [] t h = refl
dispose-none (p ∷ ps) t h =
    ap (λ b. b || has_dispose ps) (spares p.1 t (or-left (may_change t p.1) (has_change ps t) h)).disposes_none ∙ dispose-none ps t (or-right (may_change t p.1) (has_change ps t) h)

pub write-none : (ps : List (Ticket × Command)) (t : ℕ) → has_change ps t ≡ false → has_write ps t ≡ false
write-none [] t h = refl
write-none (p ∷ ps) t h =
    ap (λ b. b || has_write ps t) (spares p.1 t (or-left (may_change t p.1) (has_change ps t) h)).writes_none ∙ write-none ps t (or-right (may_change t p.1) (has_change ps t) h)

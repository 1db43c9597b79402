-- What the last flush of a run leaves where it fails.
use Rattle.std.proofs.Common.{◌≡◌, ◌∙◌, ℕ, ◌<◌, ◌≤◌, ◌+◌, ◌++◌, ◌&&◌, ◌⊎◌, List, ◌∷◌, Bool, IsTrue, true, false, Ok, inl, inr, sym, ap, refl, subst, arith}
use Rattle.jdwp_debugger.specs.Debuggers.{Debugger, lost_debugger}
use Rattle.jdwp_end.specs.declared.pipes.ended.Ended.{Ended}
use Rattle.jdwp_end.specs.declared.pipes.ended.Ended.TheVariants.{Done, LostByRead, LostByWrite, Refused, NoMemory, TurnLimit}
use Rattle.jdwp_end.specs.Story.{FailsFlush, Story, flushed}
use Rattle.jdwp_attach.specs.declared.plans.plan_line.PlanLine.{PlanLine}
use Rattle.jdwp_attach.specs.PlanRuns.{HasLeftOrFails, IsFinished, MayEnd, ReadsEnd, Tells, TellsInOrder, TellsPart, WantsMemory, WantsTurn}
use Rattle.jdwp_attach.specs.Runs.{FailsLastFlush, FlushesOrFails, InOrder, ReachesBy, Standing}
use Rattle.jdwp_attach.specs.Telling.{lines_of}
use Rattle.jdwp_attach.proofs.Moves.{begins-all}
use Rattle.jdwp_attach.proofs.Reached.{along-all, along-turned}
use Rattle.jdwp_attach.proofs.Ending.{Same, asks-same, same-by, same-lost, tells-part}

-- what a flush leaves, whether it succeeded or failed
record Flushes (s s' : Story) : Type 0 where
  read : s'.read ≡ s.read
  written : s'.written ≡ s.written
  rooms : s'.rooms ≡ s.rooms
  early : s'.early ≡ s.early
  ends : s'.ends ≡ s.ends
  failed_reads : s'.failed_reads ≡ s.failed_reads
  failed_writes : s.failed_writes ≤ s'.failed_writes

flushes : (b : Bool) (s s' : Story) → FlushesOrFails b s s' → Flushes s s'
flushes true s s' is = rw is (record { read = refl; written = refl; rooms = refl; early = refl; ends = refl; failed_reads = refl; failed_writes = omega arith })
flushes false s s' is = rw is (record { read = refl; written = refl; rooms = refl; early = refl; ends = refl; failed_reads = refl; failed_writes = omega arith })

flush-more : (s s' : Story) → FailsFlush s s' → s.failed_writes < s'.failed_writes
flush-more s s' f = rw f (omega arith)

one-failed : (a b : Bool) (s o s' o' : Story) → FlushesOrFails a s s' → FlushesOrFails b o o' → (a && b) ≡ false
    → (s.failed_writes < s'.failed_writes) ⊎ (o.failed_writes < o'.failed_writes)
one-failed false b s o s' o' f g e = inl (flush-more s s' f)
one-failed true false s o s' o' f g e = inr (flush-more o o' g)
one-failed true true s o s' o' f g e = absurd (let h = e in cc)

pub by-flush : (b : Bool) (s s' : Story) → (IsTrue b → s' ≡ flushed s) → (b ≡ false → FailsFlush s s') → FlushesOrFails b s s'
by-flush true s s' all fails = all refl
by-flush false s s' all fails = fails refl

-- what is left of two stories then
pub record LastFlush (s o s' o' : Story) : Type 0 where
  pub read : s'.read ≡ s.read
  pub written : s'.written ≡ s.written
  pub rooms : s'.rooms ≡ s.rooms
  pub early : s'.early ≡ s.early
  pub ends : s'.ends ≡ s.ends
  pub failed_reads : s'.failed_reads ≡ s.failed_reads
  pub failed_writes : s.failed_writes ≤ s'.failed_writes
  pub unread : o'.read ≡ o.read
  pub printed : o'.written ≡ o.written
  pub failed_prints : o.failed_writes ≤ o'.failed_writes
  pub fails : (s.failed_writes < s'.failed_writes) ⊎ (o.failed_writes < o'.failed_writes)

pub last-flush : (s o s' o' : Story) → FailsLastFlush s o s' o' → LastFlush s o s' o'
last-flush s o s' o' h =
    let f = flushes h.left s s' h.pipe_flushes in
    let g = flushes h.printed o o' h.out_flushes in
    record {
      read = f.read;
      written = f.written;
      rooms = f.rooms;
      early = f.early;
      ends = f.ends;
      failed_reads = f.failed_reads;
      failed_writes = f.failed_writes;
      unread = g.read;
      printed = g.written;
      failed_prints = g.failed_writes;
      fails = one-failed h.left h.printed s o s' o' h.pipe_flushes h.out_flushes h.fails;
    }

flush-in-order : (plan : List PlanLine) (base : Standing) (s o s' o' : Story) (d new : Debugger) → InOrder plan base s o d → LastFlush s o s' o' → Same d new → InOrder plan base s' o' new
flush-in-order plan base s o s' o' d new r f same =
    let w = r.written in
    record {
      read = f.read ∙ r.read ∙ ap (λ (x : List ℕ). base.pipe.read ++ x) (sym same.fed);
      asked = asks-same plan base.debugger d new same.tickets same.enqueued r.asked;
      written = (w.0, f.written ∙ w.1, rw same.enqueued w.2, rw same.taken w.3);
      whole = λ e.
          let h = r.whole (omega (arith, e, r.failed_writes, f.failed_writes)) in
          (f.written ∙ h.0 ∙ ap (λ (x : List ℕ). base.pipe.written ++ x) (sym same.enqueued), same.taken ∙ h.1 ∙ sym same.enqueued);
      failed_writes = omega (arith, r.failed_writes, f.failed_writes);
      prompt = f.early ∙ r.prompt;
      unread = f.unread ∙ r.unread;
      failed_prints = omega (arith, r.failed_prints, f.failed_prints);
    }

flush-fails-more : (plan : List PlanLine) (base : Standing) (s o s' o' : Story) (d : Debugger) → InOrder plan base s o d → LastFlush s o s' o'
    → (base.pipe.failed_writes < s'.failed_writes) ⊎ (base.out.failed_writes < o'.failed_writes)
flush-fails-more plan base s o s' o' d r f =
    elim f.fails [
      | inl less ↦ inl (omega (arith, r.failed_writes, less))
      | inr less ↦ inr (omega (arith, r.failed_prints, less))
    ]

-- as much was told, though the last flush failed
told-still : (base : Standing) (o o' : Story) (text : List ℕ) → o'.written ≡ o.written → (flushed o).written ≡ base.out.written ++ text → o'.written ≡ base.out.written ++ text
told-still base o o' text same is = same ∙ is

still-tells : (plan : List PlanLine) (base : Standing) (o o' : Story) (d : Debugger) → o'.written ≡ o.written → TellsInOrder plan base (flushed o) d → TellsInOrder plan base o' d
still-tells plan base o o' d same (done, begins, (text, r, is)) = (done, begins, (text, r, told-still base o o' text same is))

still-in-order : (plan : List PlanLine) (base : Standing) (o o' : Story) (d : Debugger) → o'.written ≡ o.written → TellsInOrder plan base (flushed o) d → TellsPart plan base o' d
still-in-order plan base o o' d same (done, begins, (text, r, is)) = tells-part plan base o' d (done, begins, (text, r, told-still base o o' text same is))

still-part : (plan : List PlanLine) (base : Standing) (o o' : Story) (d : Debugger) → o'.written ≡ o.written → TellsPart plan base (flushed o) d → TellsPart plan base o' d
still-part plan base o o' d same (inl (done, begins, (text, part, r, front, is))) = inl (done, begins, (text, part, r, front, told-still base o o' part same is))
still-part plan base o o' d same (inr w) = inr (record {
  done = w.done;
  begins = w.begins;
  old = w.old;
  read = w.read;
  told = w.told;
  reached = w.reached;
  awaits = w.awaits;
  turned = w.turned;
  due = w.due;
  printed = told-still base o o' w.told same w.printed;
})

-- what was told before memory was wanting
wants-told : (plan : List PlanLine) (base : Standing) (o : Story) (d : Debugger) → WantsTurn plan base o d → TellsInOrder plan base o d
wants-told plan base o d (done, begins, awaits, tells) = (done, begins, tells)

wants-part : (plan : List PlanLine) (base : Standing) (o : Story) (d : Debugger) → WantsMemory plan base o d → TellsPart plan base o d
wants-part plan base o d how =
    elim how [
      | inl (wants, turned) ↦ tells-part plan base o d (wants-told plan base o d wants)
      | inr (inl (done, line, next, takes, tells)) ↦ tells-part plan base o d (done, (line ∷ next.0, next.1), tells)
      | inr (inr (inl t)) ↦ inl (
        t.done,
        t.begins,
        (
          t.told ++ lines_of (Ok t.read) t.mid,
          t.told,
          subst (λ (x : Debugger). ReachesBy plan base.debugger t.done (t.told ++ lines_of (Ok t.read) t.mid) x) (sym t.is)
              (along-all plan base.debugger t.done (t.told ++ lines_of (Ok t.read) t.mid) t.new t.new.end.outgoing refl
              (along-turned plan t.done base.debugger t.own t.told t.old t.mid t.new t.read t.reached t.awaits t.turned t.asks)),
          (lines_of (Ok t.read) t.mid, refl),
          t.printed,
        ),
      )
      | inr (inr (inr w)) ↦ inr w
    ]

still-wants : (plan : List PlanLine) (base : Standing) (o o' : Story) (d : Debugger) → o'.written ≡ o.written → WantsMemory plan base (flushed o) d → TellsPart plan base o' d
still-wants plan base o o' d same wants = still-part plan base o o' d same (wants-part plan base (flushed o) d wants)

still-done : (plan : List PlanLine) (base : Standing) (o o' : Story) (d : Debugger) → o'.written ≡ o.written
    → (ReadsEnd plan base.debugger d × TellsInOrder plan base (flushed o) d) ⊎ (IsFinished plan base.debugger d × Tells plan plan base (flushed o) d) → TellsPart plan base o' d
still-done plan base o o' d same how =
    elim how [
      | inl (reads, tells) ↦ still-in-order plan base o o' d same tells
      | inr (finished, tells) ↦ still-in-order plan base o o' d same (plan, begins-all plan, tells)
    ]

-- it failed where the connection was lost before
pub flush-fails-lost : (plan : List PlanLine) (ended : Ended) (base : Standing) (s o s' o' : Story) (d : Debugger)
    → (ended ≡ Done) ⊎ ((ended ≡ LostByRead) ⊎ (ended ≡ LostByWrite)) → InOrder plan base s o d
    → MayEnd plan ended base (flushed s) (flushed o) d → LastFlush s o s' o' → InOrder plan base s' o' d × MayEnd plan LostByWrite base s' o' d
flush-fails-lost plan Done base s o s' o' d which r m f = (
  flush-in-order plan base s o s' o' d d r f (same-by d d refl),
  (flush-fails-more plan base s o s' o' d r f, (m.0.0, still-done plan base o o' m.0.0 f.printed m.0.1, m.0.2, m.0.3)),
)
flush-fails-lost plan LostByRead base s o s' o' d which r m f = (
  flush-in-order plan base s o s' o' d d r f (same-by d d refl),
  (flush-fails-more plan base s o s' o' d r f, (m.1.0, still-in-order plan base o o' m.1.0 f.printed m.1.1.2, m.1.2, m.1.3)),
)
flush-fails-lost plan LostByWrite base s o s' o' d which r m f = (
  flush-in-order plan base s o s' o' d d r f (same-by d d refl),
  (flush-fails-more plan base s o s' o' d r f, (m.1.0, still-part plan base o o' m.1.0 f.printed m.1.1, m.1.2, m.1.3)),
)
flush-fails-lost plan (Refused number) base s o s' o' d which r m f = absurd (elim which [ inl e ↦ cc | inr (inl e) ↦ cc | inr (inr e) ↦ cc ])
flush-fails-lost plan NoMemory base s o s' o' d which r m f = absurd (elim which [ inl e ↦ cc | inr (inl e) ↦ cc | inr (inr e) ↦ cc ])
flush-fails-lost plan TurnLimit base s o s' o' d which r m f = absurd (elim which [ inl e ↦ cc | inr (inl e) ↦ cc | inr (inr e) ↦ cc ])

-- all that the debugger put was written, whether it left or not
put-still : (plan : List PlanLine) (base : Standing) (s o s' o' : Story) (d : Debugger) → InOrder plan base s o d → HasLeftOrFails base (flushed s) (flushed o) d → LastFlush s o s' o'
    → s'.written ≡ base.pipe.written ++ d.end.session.enqueued
put-still plan base s o s' o' d r how f =
    elim how [
      | inl left ↦ f.written ∙ (r.whole left.0).0
      | inr (failed, put) ↦ f.written ∙ put
    ]

-- it failed behind a refusal
pub flush-fails-refused : (plan : List PlanLine) (number : ℕ) (base : Standing) (s o s' o' : Story) (d : Debugger) → InOrder plan base s o d
    → MayEnd plan (Refused number) base (flushed s) (flushed o) d → LastFlush s o s' o' → InOrder plan base s' o' d × MayEnd plan (Refused number) base s' o' d
flush-fails-refused plan number base s o s' o' d r m f = (
  flush-in-order plan base s o s' o' d d r f (same-by d d refl),
  (
    (m.0.0, (m.0.1.0, still-tells plan base o o' m.0.0 f.printed m.0.1.1), m.0.2, m.0.3),
    inr (flush-fails-more plan base s o s' o' d r f, put-still plan base s o s' o' d r m.1 f),
  ),
)

-- it failed where the debugger kept the connection, and loses it now
flush-loses : (plan : List PlanLine) (base : Standing) (s o s' o' : Story) (d new : Debugger) → new ≡ lost_debugger d → TellsPart plan base o' d → d.end.session.lost ≡ false → InOrder plan base s o d
    → LastFlush s o s' o' → InOrder plan base s' o' new × MayEnd plan LostByWrite base s' o' new
flush-loses plan base s o s' o' d new is tells kept r f =
    rw is (flush-in-order plan base s o s' o' d (lost_debugger d) r f (same-lost d), (flush-fails-more plan base s o s' o' d r f, (d, tells, kept, refl)))

pub flush-fails-kept : (plan : List PlanLine) (ended : Ended) (base : Standing) (s o s' o' : Story) (d new : Debugger) → (ended ≡ NoMemory) ⊎ (ended ≡ TurnLimit) → new ≡ lost_debugger d → InOrder plan base s o d
    → MayEnd plan ended base (flushed s) (flushed o) d → LastFlush s o s' o' → InOrder plan base s' o' new × MayEnd plan LostByWrite base s' o' new
flush-fails-kept plan NoMemory base s o s' o' d new which is r m f = flush-loses plan base s o s' o' d new is (still-wants plan base o o' d f.printed m.0) m.1 r f
flush-fails-kept plan TurnLimit base s o s' o' d new which is r m f = flush-loses plan base s o s' o' d new is (still-in-order plan base o o' d f.printed (wants-told plan base (flushed o) d m.0)) m.2 r f
flush-fails-kept plan Done base s o s' o' d new which is r m f = absurd (elim which [ inl e ↦ cc | inr e ↦ cc ])
flush-fails-kept plan LostByRead base s o s' o' d new which is r m f = absurd (elim which [ inl e ↦ cc | inr e ↦ cc ])
flush-fails-kept plan LostByWrite base s o s' o' d new which is r m f = absurd (elim which [ inl e ↦ cc | inr e ↦ cc ])
flush-fails-kept plan (Refused number) base s o s' o' d new which is r m f = absurd (elim which [ inl e ↦ cc | inr e ↦ cc ])

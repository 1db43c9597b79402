-- What one thing more that happened at a port of live sessions leads to.
use Rattle.std.proofs.Common.{◌≡◌, ℕ, List, [], ◌∷◌, ◌++◌, Option, None, Some, true, false, Ok, MatchOption, refl}
use Rattle.std.specs.List.{FoldsTo}
use Rattle.std.proofs.lemmas.Fn.{FoldsTo-push}
use Rattle.jdwp_end.specs.Ends.{is_open}
use Rattle.jdwp_machine.specs.Meanings.{Meaning}
use Rattle.jdwp_target.specs.Targets.{Target, lost_target}
use Rattle.jdwp_end.specs.declared.pipes.ended.Ended.{Ended}
use Rattle.jdwp_end.specs.declared.pipes.ended.Ended.TheVariants as ended
use Rattle.jdwp_port.specs.declared.notices.Notice.TheVariants.{Again}
use Rattle.jdwp_port.specs.Served.{goes_on, last_end, lives}
use Rattle.jdwp_port.specs.declared.live.causes.LiveCause.{LiveCause}
use Rattle.jdwp_port.specs.declared.live.notices.LiveNotice.{LiveNotice}
use Rattle.jdwp_port.specs.declared.live.notices.LiveNotice.TheVariants.{Port}
use Rattle.jdwp_port.specs.declared.live.serving.Happening.{Happening}
use Rattle.jdwp_port.specs.declared.live.serving.Happening.TheVariants as happening
use Rattle.jdwp_port.specs.LiveNotices.{live_notice_of, with_notice}
use Rattle.jdwp_port.specs.LiveServed.{Happens, HasServed, IsLiveSession, InVain, NoSession, OneMore, Serves, end_in, goes_on_behind, notice_in}

-- none was served yet, and nothing was told
pub none_yet : {S F : Type 0} {m : Meaning S} {rounds : ℕ} {step : F → LiveNotice → F → Type 0} (base : Target S) (first : F) → HasServed m rounds base step first base first
none_yet base first = ([], refl, NoSession)

-- what there is to tell was told
abbrev pub IsTold : {F : Type 0} → (F → LiveNotice → F → Type 0) → F → Option LiveNotice → F → Type 0
IsTold step told notice now = MatchOption notice (now ≡ told) (λ n. step told n now)

folds_on : {F : Type 0} (step : F → LiveNotice → F → Type 0) (first told now : F) (notices : List LiveNotice) (notice : Option LiveNotice)
    → FoldsTo step first notices told → IsTold step told notice now → FoldsTo step first (with_notice notices notice) now
folds_on step first told now notices None folds is = rw is folds
folds_on step first told now notices (Some notice) folds is = FoldsTo-push step first notices told notice now folds is

-- another one is served behind it
onward : (how : Ended) → last_end how ≡ None → goes_on how ≡ true
onward ended.Done none = refl
onward ended.LostByRead none = refl
onward ended.LostByWrite none = refl
onward (ended.Refused number) none = refl
onward ended.NoMemory none = absurd cc
onward ended.TurnLimit none = absurd cc

pub goes_onward : (h : Happening) → end_in h ≡ None → goes_on_behind h ≡ true
goes_onward (happening.InVain cause) none = refl
goes_onward (happening.Session session) none = onward session.how none

-- it happened, and was told
pub one_more : {S F : Type 0} {m : Meaning S} {rounds : ℕ} {step : F → LiveNotice → F → Type 0} (base old new : Target S) (first told now : F) (h : Happening)
    → HasServed m rounds base step first old told → lives m old ≡ true → is_open old.end ≡ false → Happens m rounds old h new → end_in h ≡ None
    → IsTold step told (notice_in h) now → HasServed m rounds base step first new now
one_more {step = step} base old new first told now (happening.InVain cause) (notices, folds, sessions) lived closed is none tells =
    (notices ++ Port (Again cause) ∷ [], folds_on step first told now notices (Some (Port (Again cause))) folds tells, rw is (InVain notices cause old sessions))
one_more {step = step} base old new first told now (happening.Session session) (notices, folds, sessions) lived closed is none tells = (
  with_notice notices (live_notice_of session.how session.failure),
  folds_on step first told now notices (live_notice_of session.how session.failure) folds tells,
  OneMore notices old new session.how session.failure sessions lived closed is (onward session.how none),
)

-- the last session, whose connection is lost; nothing is told of it
last_of : {S F : Type 0} {m : Meaning S} {rounds : ℕ} {step : F → LiveNotice → F → Type 0} (base old mid new : Target S) (first told : F) (how last : Ended)
    → HasServed m rounds base step first old told → lives m old ≡ true → is_open old.end ≡ false → IsLiveSession m rounds old how mid
    → new ≡ lost_target mid → last_end how ≡ Some last → Serves m rounds base step first (Ok last) new told
last_of base old mid new first told ended.NoMemory last served lived closed session is ends =
    let same : ended.NoMemory ≡ last = cc in
    rw (← same) (record { old = old; mid = mid; before = served; lived = lived; closed = closed; session = session; is_lost = is })
last_of base old mid new first told ended.TurnLimit last served lived closed session is ends =
    let same : ended.TurnLimit ≡ last = cc in
    rw (← same) (record { old = old; mid = mid; before = served; lived = lived; closed = closed; session = session; is_lost = is })
last_of base old mid new first told ended.Done last served lived closed session is ends = absurd cc
last_of base old mid new first told ended.LostByRead last served lived closed session is ends = absurd cc
last_of base old mid new first told ended.LostByWrite last served lived closed session is ends = absurd cc
last_of base old mid new first told (ended.Refused number) last served lived closed session is ends = absurd cc

-- of a session that is the last one nothing is told
untold : {F : Type 0} (step : F → LiveNotice → F → Type 0) (told now : F) (how : Ended) (failure : Option LiveCause) (last : Ended) → last_end how ≡ Some last
    → IsTold step told (live_notice_of how failure) now → now ≡ told
untold step told now ended.NoMemory failure last ends is = is
untold step told now ended.TurnLimit failure last ends is = is
untold step told now ended.Done failure last ends is = absurd cc
untold step told now ended.LostByRead failure last ends is = absurd cc
untold step told now ended.LostByWrite failure last ends is = absurd cc
untold step told now (ended.Refused number) failure last ends is = absurd cc

pub the_last : {S F : Type 0} {m : Meaning S} {rounds : ℕ} {step : F → LiveNotice → F → Type 0} (base old mid new : Target S) (first told now : F) (h : Happening) (last : Ended)
    → HasServed m rounds base step first old told → lives m old ≡ true → is_open old.end ≡ false → Happens m rounds old h mid
    → new ≡ lost_target mid → end_in h ≡ Some last → IsTold step told (notice_in h) now → Serves m rounds base step first (Ok last) new now
the_last base old mid new first told now (happening.InVain cause) last served lived closed session is ends tells = absurd cc
the_last {step = step} base old mid new first told now (happening.Session session) last served lived closed run is ends tells =
    rw (untold step told now session.how session.failure last ends tells) (last_of base old mid new first told session.how last served lived closed run is ends)

-- one thing was told, or nothing
pub told_one : {F : Type 0} (step : F → LiveNotice → F → Type 0) (told after now : F) (h : Happening) (notice : LiveNotice) → notice_in h ≡ Some notice → step told notice after → now ≡ after
    → IsTold step told (notice_in h) now
told_one step told after now h notice e steps is = rw (e, is) steps

pub told_none : {F : Type 0} (step : F → LiveNotice → F → Type 0) (told now : F) (h : Happening) → notice_in h ≡ None → now ≡ told → IsTold step told (notice_in h) now
told_none step told now h e is = rw e is

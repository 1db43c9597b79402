-- What is told of a capture while it is read.
use Rattle.std.proofs.Common.{◌≡◌, ◌∙◌, ℕ, suc, ◌+◌, ◌-◌, ◌<◌, ◌≤◌, true, false, List, [], ◌∷◌, ◌++◌, length, take, Option, Some, None, Result, Ok, Err, inl, inr, refl, sym, ap, subst, arith, append_assoc}
use Rattle.std.proofs.KnownBytes.{Appends-nil, Appends-trans, Appends-kept, Consumes-trans, Keeps-refl, Keeps-trans}
use Rattle.std.proofs.lemmas.List.{append-nil, length-append}
use Rattle.std.proofs.lemmas.Grind.{common_steps}
use Rattle.std.specs.Prelude.{IsSome, OnOk, is_err}
use Rattle.std.specs.Io.KnownBytes.{Appends, Consumes, IsAtEnd, Keeps, ReadConsumes}
use Rattle.jdwp_judge.specs.CaptureJudges.{told_text, HasHeardText}
use Rattle.jdwp_judge.specs.declared.capture_judge.CaptureJudge.{CaptureJudge}
use Rattle.jdwp_judge.proofs.CaptureJudgeLaws.{told_ends, told_of_nothing}
use Rattle.jdwp_show.specs.declared.capture_fault.CaptureFault.{CaptureFault}
use Rattle.jdwp_show.specs.CaptureLines.{capture_lines_under}
use Rattle.jdwp_show.specs.declared.table.Table.{Table}
use Rattle.jdwp_show.specs.Sessions.{first_fault_under}
use Rattle.jdwp_program.specs.Captures.{fault_text, shown_text_under, verdict_text}
use Rattle.jdwp_program.specs.Printing.{AppendsPart, AppendsSome}
use Rattle.jdwp_program.specs.Outputs.{Leaves, status_of_capture}
use Rattle.jdwp_program.specs.Statuses.{status_of_fault, status_of_told}
use Rattle.jdwp_program.specs.Streaming.{IsReadToEnd, JudgesRead, JudgesRest, JudgesStream, ShowsMore, ShowsRead, ShowsRest, ShowsStream, is_stopped}
use Rattle.jdwp_program.specs.declared.fault.Fault.{Fault}
use Rattle.jdwp_program.specs.declared.fault.Fault.TheVariants as fault
use Rattle.jdwp_record.specs.declared.faults.RecordFault.TheVariants as recorder
use Rattle.std.specs.declared.io.Error.{Error}
use Rattle.jdwp_program.specs.declared.captures.Told.{Told}
use Rattle.jdwp_program.specs.declared.captures.Told.TheVariants.{Faultless, Faulty, Unread}
use Rattle.jdwp_program.specs.declared.streaming.StreamFault.{StreamFault}
use Rattle.jdwp_program.specs.declared.streaming.StreamFault.TheVariants.{Input, Output, NoMemory}

take_two : (a b c : List ℕ) (n : ℕ) → n ≤ length b → take (length a + n) (a ++ (b ++ c)) ≡ a ++ take n b
take_two [] b c n le = grind (arith, common_steps)
take_two (x ∷ a) b c n le =
    let on : length (x ∷ a) + n ≡ suc (length a + n) = omega arith in
    ap (λ (k : ℕ). take k (x ∷ a ++ (b ++ c))) on ∙ ap (λ (l : List ℕ). x ∷ l) (take_two a b c n le)

-- a text of which this was printed, and a part of what follows
part_of : (whole front part rest : List ℕ) (start mid new : Option (List ℕ)) → whole ≡ front ++ (part ++ rest) → Appends start mid front → AppendsPart mid new part → AppendsPart start new whole
part_of whole front part rest start mid new is h p =
    let n = p.0 in
    let lt = p.1 in
    let size = ap (λ (l : List ℕ). length l) is in
    let same : take (length front + n) whole ≡ front ++ take n part = ap (λ (l : List ℕ). take (length front + n) l) is ∙ take_two front part rest n (omega (arith, lt)) in
    (length front + n, omega (arith, lt, size, length-append front (part ++ rest), length-append part rest), subst (λ (l : List ℕ). Appends start new l) (sym same) (Appends-trans start mid new front (take n part) h p.2))

some_of : (whole front rest : List ℕ) (start mid new : Option (List ℕ)) → whole ≡ front ++ rest → Appends start mid front → Keeps mid new → AppendsSome start new whole
some_of whole front rest start mid new is h k =
    let same : take (length front + 0) whole ≡ front = ap (λ (l : List ℕ). take (length front + 0) l) is ∙ take_two front [] rest 0 (omega arith) ∙ append-nil front in
    (length front + 0, subst (λ (l : List ℕ). Appends start new l) (sym same) (Appends-kept start mid new front h k))

-- what is told of what was read is a beginning of what is to be printed
pub shown_ends : (table : Table) (text : List ℕ) → (rest : List ℕ) × (shown_text_under table text ≡ told_text table text ++ rest)
shown_ends table text =
    let e = told_ends table text in
    let last = fault_text (first_fault_under table text) in
    (e.0 ++ last, ap (λ (l : List ℕ). l ++ last) e.1 ∙ append_assoc (told_text table text) e.0 last)

-- as it is with more behind it
shown_on : (table : Table) (text bytes added : List ℕ) → told_text table (text ++ bytes) ≡ told_text table text ++ added → (rest : List ℕ) × (shown_text_under table (text ++ bytes) ≡ told_text table text ++ (added ++ rest))
shown_on table text bytes added is =
    let e = shown_ends table (text ++ bytes) in
    (e.0, e.1 ∙ ap (λ (l : List ℕ). l ++ e.0) is ∙ append_assoc (told_text table text) added e.0)

-- before anything was read
pub nothing_shown : (table : Table) (out : Option (List ℕ)) → Appends out out (told_text table [])
nothing_shown table out = subst (λ (l : List ℕ). Appends out out l) (sym (told_of_nothing table)) (Appends-nil out)

-- ---- more was read

pub more_shown : (table : Table) (text bytes : List ℕ) (start mid new : Option (List ℕ)) (added : List ℕ) → Appends start mid (told_text table text) → told_text table (text ++ bytes) ≡ told_text table text ++ added → Appends mid new added → Appends start new (told_text table (text ++ bytes))
more_shown table text bytes start mid new added h is p = subst (λ (l : List ℕ). Appends start new l) (sym is) (Appends-trans start mid new (told_text table text) added h p)

-- what was to be printed was not, or not all of it
pub stops_at : (table : Table) (text bytes : List ℕ) (judge : CaptureJudge) (start mid new : Option (List ℕ)) (result : Result Told StreamFault) → is_stopped result ≡ true → Appends start mid (told_text table text) → ShowsMore table text bytes judge mid new result → ShowsRead table (text ++ bytes) start new result
stops_at table text bytes judge start mid new (Ok Faultless) stopped h s = absurd cc
stops_at table text bytes judge start mid new (Ok Faulty) stopped h s = absurd cc
stops_at table text bytes judge start mid new (Ok Unread) stopped h s =
    let e = shown_on table text bytes s.1 s.2 in
    part_of (shown_text_under table (text ++ bytes)) (told_text table text) s.1 e.0 start mid new e.1 h s.3
stops_at table text bytes judge start mid new (Err (Input error)) stopped h s = absurd s.3
stops_at table text bytes judge start mid new (Err (Output error)) stopped h s =
    let e = shown_on table text bytes s.1 s.2 in
    part_of (shown_text_under table (text ++ bytes)) (told_text table text) s.1 e.0 start mid new e.1 h s.3.1
stops_at table text bytes judge start mid new (Err NoMemory) stopped h s =
    let e = shown_on table text bytes s.1 s.2 in
    some_of (shown_text_under table (text ++ bytes)) (told_text table text) (s.1 ++ e.0) start mid new e.1 h s.3

-- or it was
pub goes_on : (table : Table) (text bytes : List ℕ) (judge : CaptureJudge) (start mid new : Option (List ℕ)) (result : Result Told StreamFault) → is_stopped result ≡ false → Appends start mid (told_text table text) → ShowsMore table text bytes judge mid new result → Appends start new (told_text table (text ++ bytes))
goes_on table text bytes judge start mid new (Ok Faultless) on h s = more_shown table text bytes start mid new s.1 h s.2 s.3.1
goes_on table text bytes judge start mid new (Ok Faulty) on h s = more_shown table text bytes start mid new s.1 h s.2 s.3.1
goes_on table text bytes judge start mid new (Ok Unread) on h s = absurd cc
goes_on table text bytes judge start mid new (Err fault) on h s = absurd cc

pub hears_on : (table : Table) (text bytes : List ℕ) (judge : CaptureJudge) (mid new : Option (List ℕ)) (result : Result Told StreamFault) → is_stopped result ≡ false → ShowsMore table text bytes judge mid new result → HasHeardText table judge (text ++ bytes)
hears_on table text bytes judge mid new (Ok told) on s = s.0
hears_on table text bytes judge mid new (Err fault) on s = absurd cc

-- memory ended before anything more was printed
pub starves : (table : Table) (text : List ℕ) (start new : Option (List ℕ)) → Appends start new (told_text table text) → AppendsSome start new (shown_text_under table text)
starves table text start new h =
    let e = shown_ends table text in
    some_of (shown_text_under table text) (told_text table text) e.0 start new new e.1 h (Keeps-refl new)

pub stopped_early : (left : Option (List ℕ)) (result : Result Told StreamFault) → is_stopped result ≡ true → IsReadToEnd left result
stopped_early left (Ok Faultless) stopped = absurd cc
stopped_early left (Ok Faulty) stopped = absurd cc
stopped_early left (Ok Unread) stopped = tt
stopped_early left (Err fault) stopped = tt

-- ---- all was read

pub ends_shown : (table : Table) (text : List ℕ) (start mid new : Option (List ℕ)) (result : Result Told StreamFault) → Appends start mid (told_text table text) → ShowsRest table text mid new result → ShowsRead table text start new result
ends_shown table text start mid new (Ok Faultless) h s = (s.2.0, subst (λ (l : List ℕ). Appends start new l) (sym s.1) (Appends-trans start mid new (told_text table text) s.0 h s.2.1))
ends_shown table text start mid new (Ok Faulty) h s = (s.2.0, subst (λ (l : List ℕ). Appends start new l) (sym s.1) (Appends-trans start mid new (told_text table text) s.0 h s.2.1))
ends_shown table text start mid new (Ok Unread) h s = part_of (shown_text_under table text) (told_text table text) s.0 [] start mid new (s.1 ∙ ap (λ (l : List ℕ). told_text table text ++ l) (sym (append-nil s.0))) h s.2
ends_shown table text start mid new (Err (Input error)) h s = absurd s.2
ends_shown table text start mid new (Err (Output error)) h s = part_of (shown_text_under table text) (told_text table text) s.0 [] start mid new (s.1 ∙ ap (λ (l : List ℕ). told_text table text ++ l) (sym (append-nil s.0))) h s.2.1
ends_shown table text start mid new (Err NoMemory) h s = some_of (shown_text_under table text) (told_text table text) s.0 start mid new s.1 h s.2

pub read_to_end : (left : Option (List ℕ)) (result : Result Told StreamFault) → IsAtEnd left → IsReadToEnd left result
read_to_end left (Ok Faultless) end = end
read_to_end left (Ok Faulty) end = end
read_to_end left (Ok Unread) end = tt
read_to_end left (Err fault) end = tt

-- what was not printed yet
pub rest_shown : (table : Table) (text lines whole : List ℕ) (fault : Option (ℕ × CaptureFault)) → told_text table text ++ lines ≡ capture_lines_under table text → fault ≡ first_fault_under table text → whole ≡ lines ++ fault_text fault → shown_text_under table text ≡ told_text table text ++ whole
rest_shown table text lines whole fault is same all =
    ap (λ (l : List ℕ). l ++ fault_text (first_fault_under table text)) (sym is) ∙ append_assoc (told_text table text) lines (fault_text (first_fault_under table text)) ∙ ap (λ (o : Option (ℕ × CaptureFault)). told_text table text ++ (lines ++ fault_text o)) (sym same)
    ∙ ap (λ (l : List ℕ). told_text table text ++ l) (sym all)

-- ---- reads

kept_consumes : (a b c : Option (List ℕ)) (bytes : List ℕ) → Keeps a b → Consumes b c bytes → Consumes a c bytes
kept_consumes None b c bytes p q = tt
kept_consumes (Some x) None c bytes p q = absurd p
kept_consumes (Some x) (Some y) None bytes p q = absurd q
kept_consumes (Some x) (Some y) (Some z) bytes p q = sym p ∙ q

-- behind reads that were interrupted
pub read_on : {E : Type 0} (old mid new : Option (List ℕ)) (result : Result ℕ E) (block : List ℕ) → Keeps old mid → ReadConsumes mid new result block → ReadConsumes old new result block
read_on old mid new (Ok count) block k r = (kept_consumes old mid new (take count block) k r.0, r.1)
read_on old mid new (Err error) block k r = Keeps-trans old mid new k r

-- a read of none
pub read_none : (old mid new : Option (List ℕ)) (read block : List ℕ) (count : ℕ) → Consumes old mid read → Consumes mid new (take count block) → count ≡ 0 → Consumes old new read
read_none old mid new read block count h r none =
    subst (λ (l : List ℕ). Consumes old new l) (ap (λ (n : ℕ). read ++ take n block) none ∙ append-nil read) (Consumes-trans old mid new read (take count block) h r)

kept_appends : (a b c : Option (List ℕ)) (bytes : List ℕ) → Keeps a b → Appends b c bytes → Appends a c bytes
kept_appends None b c bytes p q = tt
kept_appends (Some x) None c bytes p q = absurd p
kept_appends (Some x) (Some y) None bytes p q = absurd q
kept_appends (Some x) (Some y) (Some z) bytes p q = q ∙ ap (λ (l : List ℕ). l ++ bytes) p

-- the verdict, behind reads while nothing was printed
pub judged_on : (table : Table) (text : List ℕ) (old mid new : Option (List ℕ)) (result : Result Told StreamFault) → Keeps old mid → JudgesRest table text mid new result → JudgesRead table text old new result
judged_on table text old mid new (Ok Faultless) k s = (s.0, kept_appends old mid new (verdict_text (first_fault_under table text)) k s.1)
judged_on table text old mid new (Ok Faulty) k s = (s.0, kept_appends old mid new (verdict_text (first_fault_under table text)) k s.1)
judged_on table text old mid new (Ok Unread) k s = (s.0, s.1, kept_appends old mid new (take s.0 (verdict_text (first_fault_under table text))) k s.2)
judged_on table text old mid new (Err (Input error)) k s = absurd s
judged_on table text old mid new (Err (Output error)) k s = (s.1.0, s.1.1, kept_appends old mid new (take s.1.0 (verdict_text (first_fault_under table text))) k s.1.2)
judged_on table text old mid new (Err NoMemory) k s = Keeps-trans old mid new k s

-- of a call that answered no error
pub not_failed : {T E : Type 0} {P : Type 0} (result : Result T E) → is_err result ≡ false → OnOk result P → P
not_failed (Ok value) ok p = p
not_failed (Err error) ok p = absurd cc

-- ---- what is left, by the exit status

some_status : (fault : Option (ℕ × CaptureFault)) → IsSome fault → 1 ≡ status_of_capture fault
some_status None some = absurd cc
some_status (Some fault) some = refl

pub leaves_told : (table : Table) (begun : List ℕ) (before after old new : Option (List ℕ)) (told : Told) → ShowsStream table begun before after old new (Ok told) → Leaves (status_of_told told) old new
leaves_told table begun before after old new Faultless s = inr (inl (table, begun ++ s.0, shown_text_under table (begun ++ s.0), inl refl, inl (ap status_of_capture (sym s.3.0), s.3.1)))
leaves_told table begun before after old new Faulty s = inr (inl (table, begun ++ s.0, shown_text_under table (begun ++ s.0), inl refl, inl (some_status (first_fault_under table (begun ++ s.0)) s.3.0, s.3.1)))
leaves_told table begun before after old new Unread s = inr (inl (table, begun ++ s.0, shown_text_under table (begun ++ s.0), inl refl, inr (refl, s.3)))

pub leaves_input : (table : Table) (begun : List ℕ) (before after old new : Option (List ℕ)) (error : Error) (status : ℕ) → 0 < status → ShowsStream table begun before after old new (Err (Input error)) → Leaves status old new
leaves_input table begun before after old new error status failed s = inr (inr (inr (inr (inr (table, begun ++ s.0, failed, starves table (begun ++ s.0) old new s.3)))))

pub leaves_output : (table : Table) (begun : List ℕ) (before after old new : Option (List ℕ)) (error : Error) → ShowsStream table begun before after old new (Err (Output error)) → Leaves 2 old new
leaves_output table begun before after old new error s = inr (inl (table, begun ++ s.0, shown_text_under table (begun ++ s.0), inl refl, inr (refl, s.3)))

pub leaves_memory : (table : Table) (begun : List ℕ) (before after old new : Option (List ℕ)) → ShowsStream table begun before after old new (Err NoMemory) → Leaves 3 old new
leaves_memory table begun before after old new s = inr (inr (inr (inr (inr (table, begun ++ s.0, omega arith, s.3)))))

pub leaves_verdict : (table : Table) (begun : List ℕ) (before after old new : Option (List ℕ)) (told : Told) → JudgesStream table begun before after old new (Ok told) → Leaves (status_of_told told) old new
leaves_verdict table begun before after old new Faultless s = inr (inl (table, begun ++ s.0, verdict_text (first_fault_under table (begun ++ s.0)), inr (inl refl), inl (ap status_of_capture (sym s.3.0), s.3.1)))
leaves_verdict table begun before after old new Faulty s = inr (inl (table, begun ++ s.0, verdict_text (first_fault_under table (begun ++ s.0)), inr (inl refl), inl (some_status (first_fault_under table (begun ++ s.0)) s.3.0, s.3.1)))
leaves_verdict table begun before after old new Unread s = inr (inl (table, begun ++ s.0, verdict_text (first_fault_under table (begun ++ s.0)), inr (inl refl), inr (refl, s.3)))

pub leaves_unjudged : (table : Table) (begun : List ℕ) (before after old new : Option (List ℕ)) (error : Error) (status : ℕ) → JudgesStream table begun before after old new (Err (Input error)) → Leaves status old new
leaves_unjudged table begun before after old new error status s = inl s.3

pub leaves_half : (table : Table) (begun : List ℕ) (before after old new : Option (List ℕ)) (error : Error) → JudgesStream table begun before after old new (Err (Output error)) → Leaves 2 old new
leaves_half table begun before after old new error s = inr (inl (table, begun ++ s.0, verdict_text (first_fault_under table (begun ++ s.0)), inr (inl refl), inr (refl, s.3)))

pub leaves_starved : (table : Table) (begun : List ℕ) (before after old new : Option (List ℕ)) → JudgesStream table begun before after old new (Err NoMemory) → Leaves 3 old new
leaves_starved table begun before after old new s = inl s.3

-- each fault of the program has a status of its own, which is not 0
pub fault_counts : (fault : Fault) → 0 < status_of_fault fault
fault_counts (fault.Words text) = omega arith
fault_counts fault.NotText = omega arith
fault_counts (fault.File path cause) = omega arith
fault_counts (fault.Script path why detail) = omega arith
fault_counts (fault.Plan path why) = omega arith
fault_counts (fault.Written path why) = omega arith
fault_counts (fault.Recording path why) = omega arith
fault_counts (fault.Recorder (recorder.NoFile file error)) = omega arith
fault_counts (fault.Recorder (recorder.Port number cause)) = omega arith
fault_counts (fault.Recorder (recorder.Unwritten file error)) = omega arith
fault_counts (fault.Recorder (recorder.Waiting error)) = omega arith
fault_counts (fault.Recorder recorder.NoMemory) = omega arith
fault_counts (fault.Port number cause) = omega arith
fault_counts (fault.Output error) = omega arith
fault_counts (fault.Closed error) = omega arith
fault_counts fault.NoMemory = omega arith

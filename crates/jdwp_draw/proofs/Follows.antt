-- What is kept of a session, one message more.
use Rattle.std.proofs.Common.{◌≡◌, ℕ, suc, ◌+◌, ◌<◌, ◌≤◌, Bool, List, [], ◌∷◌, ◌++◌, length, take, drop, get_or, Option, Some, None, Result, Ok, Err, OnOk, map, refl, sym, ap, ◌∙◌, subst, append_assoc, append-nil, codes}
use Rattle.std.proofs.Math.Path.{fun_ext}
use Rattle.std.proofs.lemmas.List.{drop_more, drop_all}
use Rattle.std.proofs.lemmas.List.Folds.{flat_map-map}
use Rattle.std.specs.List.{flat_map}
use Rattle.std.specs.Str.Lines.{lines}
use Rattle.jdwp_show.specs.declared.capture_line.Sender.TheVariants as end
use Rattle.jdwp_show.specs.CaptureLines.{capture_lines, items_that_hold, message_lines}
use Rattle.jdwp_show.specs.Found.{found}
use Rattle.jdwp_show.specs.Lines.{capture_of, sent_by}
use Rattle.jdwp_show.specs.Sessions.{items_in, widths_of}
use Rattle.jdwp_draw.proofs.ShownLemmas.{are_shown, lines_are}
use Rattle.jdwp_draw.proofs.StreamLemmas.{first_lines}
use Rattle.jdwp_wire.specs.declared.error_code.ErrorCode.{ErrorCode}
use Rattle.jdwp_layout.specs.declared.answer.Answer.{Answer}
use Rattle.jdwp_wire.specs.Widths.{Widths}
use Rattle.jdwp_mirror.specs.declared.threads.Known.{Known}
use Rattle.jdwp_mirror.specs.KnownThreads.{count_in, is_held_in}
use Rattle.jdwp_mirror.specs.Messages.{Message, Reply}
use Rattle.jdwp_mirror.specs.Mirror.{Kept, learned, held_after, requests_after}
use Rattle.jdwp_mirror.specs.Mirrors.{Mirror, Learned}
use Rattle.jdwp_draw.specs.Messages.{ShownMeaning, messages_of}
use Rattle.jdwp_draw.specs.declared.follower.Follower.{Follower}
use Rattle.jdwp_draw.specs.Following.{Hears, IsAt, waits_in}
use Rattle.jdwp_draw.specs.Hearing.{answer_of, heard, reply_heard}
use Rattle.jdwp_draw.specs.Pictures.{AreRows, HasMirror, IsRow, RowMeaning, standing_of}
use Rattle.jdwp_draw.specs.Sessions.{Asked, Session, after, answered, answered_in, command_in, count_behind, heard_in, held_behind, requests_behind, start, waits_after}

-- ---- the mirror

counts_go : (h : Option Message) (old new : Mirror) (counts : ℕ → Option ℕ) → Hears h old new → ((t : ℕ) → count_in old.threads t ≡ counts t) → (t : ℕ) → count_in new.threads t ≡ count_behind h t (counts t)
counts_go None old new counts e at t = ap (λ (m : Mirror). count_in m.threads t) e ∙ at t
counts_go (Some m) old new counts e at t = e.counts t ∙ ap (λ (c : Option ℕ). learned m t c) (at t)

held_go : (h : Option Message) (old new : Mirror) (counts : ℕ → Option ℕ) (held : ℕ → Bool) → Hears h old new → ((t : ℕ) → count_in old.threads t ≡ counts t) → ((t : ℕ) → is_held_in old.threads t ≡ held t)
    → (t : ℕ) → is_held_in new.threads t ≡ held_behind h t (held t) (count_behind h t (counts t))
held_go None old new counts held e at held_at t = ap (λ (m : Mirror). is_held_in m.threads t) e ∙ held_at t
held_go (Some m) old new counts held e at held_at t =
    e.held t ∙ ap (λ (b : Bool). held_after m t b (count_in new.threads t)) (held_at t) ∙ ap (λ (c : Option ℕ). held_after m t (held t) c) (counts_go (Some m) old new counts e at t)

requests_go : (h : Option Message) (old new : Mirror) (requests : List Kept) → Hears h old new → old.requests ≡ requests → new.requests ≡ requests_behind h requests
requests_go None old new requests e at = ap (λ (m : Mirror). m.requests) e ∙ at
requests_go (Some m) old new requests e at = e.requests ∙ ap (λ (r : List Kept). requests_after m r) at

-- the reply to a command that waits
pub reply_hears : (widths : Option Widths) (waits : Option Asked) (asked : Asked) (error : ErrorCode) (bytes : List ℕ) (answer : Answer) (old new : Mirror) → waits ≡ Some asked
    → answer ≡ answer_of widths asked.command.set asked.command.number error bytes → Learned old (Reply None asked.command answer) new → Hears (reply_heard widths (command_in waits) error bytes) old new
reply_hears widths waits asked error bytes answer old new is said learned =
    rw is (subst (λ (a : Answer). Learned old (Reply None asked.command a) new) said learned)

pub on_ok : {A E P Q : Type 0} (r : Result A E) → (P → Q) → OnOk r P → OnOk r Q
on_ok (Ok a) f h = f h
on_ok (Err e) f h = h

-- ---- one message more

same_waits : (f : Follower) (s : Session) → IsAt f s → waits_in f ≡ s.waits
same_waits f s at = fun_ext (λ (id : ℕ). at.waits id)

pub goes : (widths : Option Widths) (f g : Follower) (s : Session) (m : ShownMeaning) (place : ℕ) → s.messages ≡ place → IsAt f s
    → ((id : ℕ) → waits_in g id ≡ waits_after widths place m.sender m.message (waits_in f id) id)
    → Hears (heard widths (λ (id : ℕ). command_in (waits_in f id)) m.sender m.message) f.mirror g.mirror → IsAt g (after widths s m)
goes widths f g s m place count at waits hears =
    let same = same_waits f s at in
    let now : Hears (heard_in widths s m) f.mirror g.mirror =
    subst (λ (w : ℕ → Option Asked). Hears (heard widths (λ (id : ℕ). command_in (w id)) m.sender m.message) f.mirror g.mirror) same hears in
    record {
      waits = λ id. waits id ∙ ap (λ (a : Option Asked). waits_after widths place m.sender m.message a id) (at.waits id) ∙ ap (λ (n : ℕ). waits_after widths n m.sender m.message (s.waits id) id) (sym count);
      counts = λ t. counts_go (heard_in widths s m) f.mirror g.mirror s.counts now at.counts t;
      held = λ t. held_go (heard_in widths s m) f.mirror g.mirror s.counts s.held now at.counts at.held t;
      requests = requests_go (heard_in widths s m) f.mirror g.mirror s.requests now at.requests;
    }

pub answers : (f : Follower) (s : Session) (m : ShownMeaning) (place : Option ℕ) → IsAt f s → place ≡ answered_in (waits_in f) m.sender m.message → place ≡ answered s m
answers f s m place at is = is ∙ ap (λ (w : ℕ → Option Asked). answered_in w m.sender m.message) (same_waits f s at)

pub has_mirror : (g : Follower) (s : Session) (row : RowMeaning) → IsAt g s → row.threads ≡ g.mirror.threads → row.requests ≡ map standing_of g.mirror.requests → HasMirror row s
has_mirror g s row at threads requests = record {
  counts = λ t. ap (λ (ks : List Known). count_in ks t) threads ∙ at.counts t;
  held = λ t. ap (λ (ks : List Known). is_held_in ks t) threads ∙ at.held t;
  requests = requests ∙ ap (λ (rs : List Kept). map standing_of rs) at.requests;
}

-- ---- rows

-- their lines are those of the messages
pub lines_of : (widths : Option Widths) (s : Session) (ms : List ShownMeaning) (rows : List RowMeaning) → AreRows widths s ms rows → map (λ (row : RowMeaning). row.line) rows ≡ map (λ (m : ShownMeaning). m.line) ms
lines_of widths s [] [] are = refl
lines_of widths s [] (row ∷ rows) are = absurd are
lines_of widths s (m ∷ ms) [] are = absurd are
lines_of widths s (m ∷ ms) (row ∷ rows) are =
    ap (λ (l : List ℕ). l ∷ map (λ (r : RowMeaning). r.line) rows) are.0.line ∙ ap (λ (l : List (List ℕ)). m.line ∷ l) (lines_of widths (after widths s m) ms rows are.1)

pub as_many : (widths : Option Widths) (s : Session) (ms : List ShownMeaning) (rows : List RowMeaning) → AreRows widths s ms rows → length rows ≡ length ms
as_many widths s [] [] are = refl
as_many widths s [] (row ∷ rows) are = absurd are
as_many widths s (m ∷ ms) [] are = absurd are
as_many widths s (m ∷ ms) (row ∷ rows) are = ap (λ (n : ℕ). suc n) (as_many widths (after widths s m) ms rows are.1)

-- their lines are the first of the text that was shown
pub first_of_shown : (widths : Option Widths) (text : List ℕ) (rows : List RowMeaning) → AreRows widths start (messages_of text) rows → map (λ (row : RowMeaning). row.line) rows ≡ take (length rows) (lines (capture_lines text))
first_of_shown widths text rows are =
    let shown = lines (capture_lines text) in
    lines_of widths start (messages_of text) rows are ∙ first_lines shown (found (sent_by end.Debugger (capture_of text))) (found (sent_by end.Target (capture_of text)))
    ∙ ap (λ (n : ℕ). take n shown) (sym (as_many widths start (messages_of text) rows are))

-- a newline behind each, they are all that was shown of messages
pub all_shown : (widths : Option Widths) (text : List ℕ) (rows : List RowMeaning) → AreRows widths start (messages_of text) rows → flat_map (λ (row : RowMeaning). row.line ++ codes "\n") rows ≡ message_lines text
all_shown widths text rows are =
    let ended = λ (l : List ℕ). l ++ codes "\n" in
    let ms = messages_of text in
    sym (flat_map-map ended (λ (row : RowMeaning). row.line) rows) ∙ ap (λ (ls : List (List ℕ)). flat_map ended ls) (lines_of widths start ms rows are) ∙ flat_map-map ended (λ (m : ShownMeaning). m.line) ms
    ∙ lines_are (widths_of (items_in text)) [] (items_that_hold text) ms (are_shown text)

-- one row more
pub rows_on : (widths : Option Widths) (s : Session) (ms : List ShownMeaning) (place : ℕ) (m : ShownMeaning) (row : RowMeaning) (before after_it : List RowMeaning) → place < length ms → m ≡ get_or ms place m → IsRow widths s m row
    → after_it ≡ before ++ row ∷ [] → ((rest : List RowMeaning) → AreRows widths s (drop place ms) rest → AreRows widths start ms (before ++ rest)) → (rest : List RowMeaning) → AreRows widths (after widths s m) (drop (place + 1) ms) rest
    → AreRows widths start ms (after_it ++ rest)
rows_on widths s ms place m row before after_it inside here is pushed so_far rest are =
    let at : drop place ms ≡ m ∷ drop (place + 1) ms = drop_more ms place m inside ∙ ap (λ (x : ShownMeaning). x ∷ drop (place + 1) ms) (sym here) in
    let one : AreRows widths s (drop place ms) (row ∷ rest) = subst (λ (x : List ShownMeaning). AreRows widths s x (row ∷ rest)) (sym at) (is, are) in
    subst (λ (x : List RowMeaning). AreRows widths start ms x) (sym (ap (λ (x : List RowMeaning). x ++ rest) pushed ∙ append_assoc before (row ∷ []) rest)) (so_far (row ∷ rest) one)

pub rows_end : (widths : Option Widths) (s : Session) (ms : List ShownMeaning) (place : ℕ) (before : List RowMeaning) → length ms ≤ place
    → ((rest : List RowMeaning) → AreRows widths s (drop place ms) rest → AreRows widths start ms (before ++ rest)) → AreRows widths start ms before
rows_end widths s ms place before past so_far =
    let none : AreRows widths s (drop place ms) [] = subst (λ (x : List ShownMeaning). AreRows widths s x []) (sym (drop_all place ms past)) tt in
    subst (λ (x : List RowMeaning). AreRows widths start ms x) (append-nil before) (so_far [] none)

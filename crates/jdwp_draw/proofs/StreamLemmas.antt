-- The messages of both ends, one by one, and their lines.
use Rattle.std.proofs.Common.{◌≡◌, ℕ, ◌+◌, ◌-◌, ◌<◌, ◌≤◌, Bool, true, false, cond, List, [], ◌∷◌, ◌++◌, length, map, take, drop, get_or, Option, Some, None, refl, sym, ap, subst, ◌∙◌, append_assoc, append-nil}
use Rattle.std.proofs.lemmas.List.{drop_more, drop_all, drop-drop, take_rest}
use Rattle.jdwp_wire.specs.declared.frame.FrameFault.{FrameFault}
use Rattle.jdwp_wire.specs.declared.frame.NextHello.{NextHello}
use Rattle.jdwp_wire.specs.declared.frame.NextHello.TheVariants as hello
use Rattle.jdwp_wire.specs.declared.packet.Header.{Header}
use Rattle.jdwp_wire.specs.Frames.{Front, front}
use Rattle.jdwp_wire.specs.Frames as frames
use Rattle.jdwp_wire.specs.Handshake.{handshake_front}
use Rattle.jdwp_wire.specs.Limits.{standard_limits}
use Rattle.jdwp_wire.specs.Streams.{Message, Handshake, Packet, after_handshake, at_handshake}
use Rattle.jdwp_show.specs.Found.{Found, Sent, Faulty, found_at, found_after}
use Rattle.jdwp_show.proofs.FoundLemmas.{found_step}
use Rattle.jdwp_draw.specs.declared.sender.Sender.{Sender}
use Rattle.jdwp_draw.specs.declared.sender.Sender.TheVariants.{Debugger, Target}
use Rattle.jdwp_draw.specs.declared.streams.Streams.{Streams}
use Rattle.jdwp_draw.specs.Messages.{ShownMeaning, is_of_debugger, paired, with_next}
use Rattle.jdwp_draw.specs.declared.message_list.Message as kept
use Rattle.jdwp_draw.specs.declared.streams.Stream.{Stream}
use Rattle.jdwp_draw.specs.Reading.{IsNext, IsShown, left, message_in}

-- ---- the next message

-- what is left of the bytes, read as a slice
pub rest_from : (whole bytes : List ℕ) (taken : ℕ) → whole ≡ bytes → take (length whole - taken) (drop taken whole) ≡ drop taken bytes
rest_from whole bytes taken is = take_rest whole taken ∙ ap (λ (x : List ℕ). drop taken x) is

hello_step : (bytes : List ℕ) (f : NextHello) → handshake_front bytes ≡ f → found_after false bytes ≡ found_at (at_handshake f) bytes (found_after true)
hello_step bytes f e = found_step false bytes ∙ ap (λ (x : NextHello). found_at (at_handshake x) bytes (found_after true)) e

packet_step : (bytes : List ℕ) (f : Front) → front standard_limits.packet bytes ≡ f → found_after true bytes ≡ found_at (after_handshake f) bytes (found_after true)
packet_step bytes f e = found_step true bytes ∙ ap (λ (x : Front). found_at (after_handshake x) bytes (found_after true)) e

pub whole_hello : (bytes : List ℕ) (taken : ℕ) → hello.Whole ≡ handshake_front (drop taken bytes) → found_after false (drop taken bytes) ≡ Sent Handshake ∷ found_after true (drop (taken + 14) bytes)
whole_hello bytes taken e = hello_step (drop taken bytes) hello.Whole (sym e) ∙ ap (λ (x : List ℕ). Sent Handshake ∷ found_after true x) (drop-drop 14 taken bytes)

pub whole_packet : (bytes : List ℕ) (taken used : ℕ) (header : Header) (body : List ℕ) → frames.Whole header body used ≡ front standard_limits.packet (drop taken bytes)
    → found_after true (drop taken bytes) ≡ Sent (Packet header body) ∷ found_after true (drop (taken + used) bytes)
whole_packet bytes taken used header body e =
    packet_step (drop taken bytes) (frames.Whole header body used) (sym e) ∙ ap (λ (x : List ℕ). Sent (Packet header body) ∷ found_after true x) (drop-drop used taken bytes)

abbrev pub IsNone : List Found → Type 0
IsNone found = (sender : Sender) (line : List ℕ) (follows : List Found → List ShownMeaning) → with_next sender line found follows ≡ []

none_left : (found : List Found) → found ≡ [] → (sender : Sender) (line : List ℕ) (follows : List Found → List ShownMeaning) → with_next sender line found follows ≡ []
none_left found e sender line follows = ap (λ (x : List Found). with_next sender line x follows) e

fault_left : (found : List Found) (fault : FrameFault) → found ≡ Faulty fault ∷ [] → (sender : Sender) (line : List ℕ) (follows : List Found → List ShownMeaning) → with_next sender line found follows ≡ []
fault_left found fault e sender line follows = ap (λ (x : List Found). with_next sender line x follows) e

pub more_hello : (bytes : List ℕ) → hello.More ≡ handshake_front bytes → (sender : Sender) (line : List ℕ) (follows : List Found → List ShownMeaning) → with_next sender line (found_after false bytes) follows ≡ []
more_hello bytes e sender line follows = none_left (found_after false bytes) (hello_step bytes hello.More (sym e)) sender line follows

pub faulty_hello : (bytes : List ℕ) (fault : FrameFault) → hello.Fault fault ≡ handshake_front bytes → (sender : Sender) (line : List ℕ) (follows : List Found → List ShownMeaning) → with_next sender line (found_after false bytes) follows ≡ []
faulty_hello bytes fault e sender line follows = fault_left (found_after false bytes) fault (hello_step bytes (hello.Fault fault) (sym e)) sender line follows

pub more_packet : (bytes : List ℕ) → frames.More ≡ front standard_limits.packet bytes → (sender : Sender) (line : List ℕ) (follows : List Found → List ShownMeaning) → with_next sender line (found_after true bytes) follows ≡ []
more_packet bytes e sender line follows = none_left (found_after true bytes) (packet_step bytes frames.More (sym e)) sender line follows

pub faulty_packet : (bytes : List ℕ) (fault : FrameFault) → frames.Fault fault ≡ front standard_limits.packet bytes → (sender : Sender) (line : List ℕ) (follows : List Found → List ShownMeaning) → with_next sender line (found_after true bytes) follows ≡ []
faulty_packet bytes fault e sender line follows = fault_left (found_after true bytes) fault (packet_step bytes (frames.Fault fault) (sym e)) sender line follows

-- ---- with its line

abbrev shown_as : Sender → Message → List ℕ → ShownMeaning
shown_as sender message line = record { sender = sender; message = message; line = line }

pub debugger_shown : (line : List ℕ) (lines : List (List ℕ)) (message : Message) (found rest target : List Found) → is_of_debugger line ≡ true → found ≡ Sent message ∷ rest
    → paired (line ∷ lines) found target ≡ shown_as Debugger message line ∷ paired lines rest target
unfolding paired
debugger_shown line lines message found rest target is next = rw (is, next) refl

pub target_shown : (line : List ℕ) (lines : List (List ℕ)) (message : Message) (debugger found rest : List Found) → is_of_debugger line ≡ false → found ≡ Sent message ∷ rest
    → paired (line ∷ lines) debugger found ≡ shown_as Target message line ∷ paired lines debugger rest
unfolding paired
target_shown line lines message debugger found rest is next = rw (is, next) refl

pub debugger_ended : (line : List ℕ) (lines : List (List ℕ)) (found target : List Found) → is_of_debugger line ≡ true → IsNone found → paired (line ∷ lines) found target ≡ []
unfolding paired
debugger_ended line lines found target is none = rw is (none Debugger line (λ (rest : List Found). paired lines rest target))

pub target_ended : (line : List ℕ) (lines : List (List ℕ)) (debugger found : List Found) → is_of_debugger line ≡ false → IsNone found → paired (line ∷ lines) debugger found ≡ []
unfolding paired
target_ended line lines debugger found is none = rw is (none Target line (λ (rest : List Found). paired lines debugger rest))

-- ---- the next message of the end of a line

of_debugger : (is : Bool) (sender : Sender) → sender ≡ cond is Debugger Target → sender ≡ Debugger → is ≡ true
of_debugger true sender e f = refl
of_debugger false sender e f = cc

of_target : (is : Bool) (sender : Sender) → sender ≡ cond is Debugger Target → sender ≡ Target → is ≡ false
of_target true sender e f = cc
of_target false sender e f = refl

abbrev marked : List ℕ → Sender
marked line = cond (is_of_debugger line) Debugger Target

pub debugger_next : (line text : List ℕ) (sender : Sender) (old new : Streams) (stream : Stream) (o : Option kept.Message) (message : kept.Message) → sender ≡ marked line → sender ≡ Debugger → IsNext old.debugger o stream → o ≡ Some message
    → new ≡ record { debugger = stream; target = old.target } → text ≡ line → IsShown old line (Some (shown_as sender (message_in message) text)) new
debugger_next line text sender old new stream o message by is next some news same =
    let taken = subst (λ (x : Option kept.Message). IsNext old.debugger x stream) some next in
    rw (is, news, same) (λ lines. debugger_shown line lines (message_in message) (left old.debugger) (left stream) (left old.target) (of_debugger (is_of_debugger line) sender by is) taken)

pub target_next : (line text : List ℕ) (sender : Sender) (old new : Streams) (stream : Stream) (o : Option kept.Message) (message : kept.Message) → sender ≡ marked line → sender ≡ Target → IsNext old.target o stream → o ≡ Some message
    → new ≡ record { debugger = old.debugger; target = stream } → text ≡ line → IsShown old line (Some (shown_as sender (message_in message) text)) new
target_next line text sender old new stream o message by is next some news same =
    let taken = subst (λ (x : Option kept.Message). IsNext old.target x stream) some next in
    rw (is, news, same) (λ lines. target_shown line lines (message_in message) (left old.debugger) (left old.target) (left stream) (of_target (is_of_debugger line) sender by is) taken)

pub debugger_none : (line : List ℕ) (sender : Sender) (old new : Streams) (stream : Stream) (o : Option kept.Message) → sender ≡ marked line → sender ≡ Debugger → IsNext old.debugger o stream → o ≡ None → IsShown old line None new
debugger_none line sender old new stream o by is next none =
    let ended = subst (λ (x : Option kept.Message). IsNext old.debugger x stream) none next in
    λ lines. debugger_ended line lines (left old.debugger) (left old.target) (of_debugger (is_of_debugger line) sender by is) ended

pub target_none : (line : List ℕ) (sender : Sender) (old new : Streams) (stream : Stream) (o : Option kept.Message) → sender ≡ marked line → sender ≡ Target → IsNext old.target o stream → o ≡ None → IsShown old line None new
target_none line sender old new stream o by is next none =
    let ended = subst (λ (x : Option kept.Message). IsNext old.target x stream) none next in
    λ lines. target_ended line lines (left old.debugger) (left old.target) (of_target (is_of_debugger line) sender by is) ended

-- ---- line by line

next_is : (texts : List (List ℕ)) (k : ℕ) (text : List ℕ) → k < length texts → text ≡ get_or texts k text → drop k texts ≡ text ∷ drop (k + 1) texts
next_is texts k text inside here = drop_more texts k text inside ∙ ap (λ (x : List ℕ). x ∷ drop (k + 1) texts) (sym here)

abbrev pub paired_in : List (List ℕ) → Streams → List ShownMeaning
paired_in texts streams = paired texts (left streams.debugger) (left streams.target)

pub pairs_on : (texts : List (List ℕ)) (k : ℕ) (text : List ℕ) (old new : Streams) (message : ShownMeaning) (before after all : List ShownMeaning) → k < length texts → text ≡ get_or texts k text
    → IsShown old text (Some message) new → after ≡ before ++ message ∷ [] → before ++ paired_in (drop k texts) old ≡ all → after ++ paired_in (drop (k + 1) texts) new ≡ all
pairs_on texts k text old new message before after all inside here shown pushed so_far =
    ap (λ (x : List ShownMeaning). x ++ paired_in (drop (k + 1) texts) new) pushed ∙ append_assoc before (message ∷ []) (paired_in (drop (k + 1) texts) new)
    ∙ ap (λ (x : List ShownMeaning). before ++ x) (sym (shown (drop (k + 1) texts)) ∙ ap (λ (x : List (List ℕ)). paired_in x old) (sym (next_is texts k text inside here))) ∙ so_far

pub pairs_no_more : (texts : List (List ℕ)) (k : ℕ) (text : List ℕ) (old new : Streams) (before all : List ShownMeaning) → k < length texts → text ≡ get_or texts k text → IsShown old text None new
    → before ++ paired_in (drop k texts) old ≡ all → before ≡ all
pairs_no_more texts k text old new before all inside here shown so_far =
    sym (append-nil before) ∙ ap (λ (x : List ShownMeaning). before ++ x) (sym (shown (drop (k + 1) texts)) ∙ ap (λ (x : List (List ℕ)). paired_in x old) (sym (next_is texts k text inside here))) ∙ so_far

pub pairs_end : (texts : List (List ℕ)) (k : ℕ) (old : Streams) (before all : List ShownMeaning) → length texts ≤ k → before ++ paired_in (drop k texts) old ≡ all → before ≡ all
unfolding paired
pairs_end texts k old before all past so_far =
    sym (append-nil before) ∙ ap (λ (x : List (List ℕ)). before ++ paired_in x old) (sym (drop_all k texts past)) ∙ so_far

-- ---- their lines

AreFirst : List (List ℕ) → List ShownMeaning → Type 0
AreFirst lines messages = map (λ (m : ShownMeaning). m.line) messages ≡ take (length messages) lines

first_by : (sender : Sender) (line : List ℕ) (lines : List (List ℕ)) (found : List Found) (follows : List Found → List ShownMeaning) → ((rest : List Found) → AreFirst lines (follows rest)) → AreFirst (line ∷ lines) (with_next sender line found follows)
unfolding AreFirst
first_by sender line lines [] follows each = refl
first_by sender line lines (Faulty fault ∷ found) follows each = refl
first_by sender line lines (Sent message ∷ found) follows each = ap (λ (x : List (List ℕ)). line ∷ x) (each found)

first_if : (is : Bool) (lines : List (List ℕ)) (some others : List ShownMeaning) → AreFirst lines some → AreFirst lines others → AreFirst lines (cond is some others)
first_if true lines some others first second = first
first_if false lines some others first second = second

are_first : (lines : List (List ℕ)) (debugger target : List Found) → AreFirst lines (paired lines debugger target)
unfolding paired AreFirst
are_first [] debugger target = refl
are_first (line ∷ lines) debugger target =
    first_if (is_of_debugger line) (line ∷ lines) (with_next Debugger line debugger (λ (rest : List Found). paired lines rest target)) (with_next Target line target (λ (rest : List Found). paired lines debugger rest))
    (first_by Debugger line lines debugger (λ (rest : List Found). paired lines rest target) (λ rest. are_first lines rest target))
    (first_by Target line lines target (λ (rest : List Found). paired lines debugger rest) (λ rest. are_first lines debugger rest))

pub first_lines : (lines : List (List ℕ)) (debugger target : List Found) → map (λ (m : ShownMeaning). m.line) (paired lines debugger target) ≡ take (length (paired lines debugger target)) lines
unfolding AreFirst
first_lines lines debugger target = are_first lines debugger target

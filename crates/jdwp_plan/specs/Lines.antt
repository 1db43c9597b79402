-- The lines of a plan: what one says, or where it goes wrong, by how many bytes of it follow, and what was expected there.
use Rattle.std.specs.Prelude.{ℕ, ◌==◌, ◌||◌, ◌^◌, List, [], ◌∷◌, length, slice_index, Option, Some, None, Result, Ok, Err, if◌then◌else◌, codes}
use Rattle.std.specs.Str.{bytes_eq}
use Rattle.jdwp_plan.specs.declared.plan_fault.Expected.{Expected}
use Rattle.jdwp_plan.specs.declared.plan_fault.Expected.TheVariants as want
use Rattle.jdwp_plan.specs.declared.plan_fault.Stop.{Stop}
use Rattle.jdwp_plan.specs.declared.plan_line.Path.{Path}
use Rattle.jdwp_plan.specs.declared.plan_line.Path.TheVariants.{Item, Entry, EntryOf}
use Rattle.jdwp_plan.specs.Cuts.{behind, front, number_of}
use Rattle.jdwp_plan.specs.Names.{is_name}

-- What a line says: nothing; the version of the plan; to ask the command of a name, with this behind the name; to bind a name to the
-- item at a path; that a text is expected, that a thread is held, that it is free; how many milliseconds a wait may take; to wait for so many composites, or for
-- the next one; to tell what is known; that the session may end before the plan does.
pub data Said : Type 0 where
  Nothing : Said
  Version : Said
  Ask : List ℕ → Option (List ℕ) → Said
  Let : List ℕ → Path → Said
  Expect : List ℕ → Said
  ExpectHeld : List ℕ → Said
  ExpectFree : List ℕ → Said
  Timeout : ℕ → Said
  Events : ℕ → Said
  WaitEvent : Said
  Mirror : Said
  MayEnd : Said

abbrev pub stop : {X : Type 0} → ℕ → Expected → Result X Stop
stop left expected = Err (record { left = left; expected = expected })

-- what comes of what stands there, or where it goes wrong
abbrev pub and_then : {X Y : Type 0} → (X → Result Y Stop) → Result X Stop → Result Y Stop
and_then f (Ok x) = f x
and_then f (Err s) = Err s

abbrev pub saying : {X : Type 0} → (X → Said) → Result X Stop → Result Said Stop
saying f r = and_then (λ x. Ok (f x)) r

-- ---- parts

-- what stands behind a word and a space
abbrev pub needed : Option (List ℕ) → Result (List ℕ) Stop
needed None = stop 0 want.Space
needed (Some rest) = Ok rest

abbrev pub number_by : List ℕ → Expected → Option ℕ → Result ℕ Stop
number_by text expected None = stop (length text) expected
number_by text expected (Some number) = Ok number

abbrev pub needed_number : Option (List ℕ) → Result ℕ Stop
needed_number rest = and_then (λ text. number_by text want.Number (number_of (2 ^ 32) text)) (needed rest)

-- the second of two words
abbrev pub second : Option (List ℕ) → List ℕ → Expected → Said → Result Said Stop
second rest word expected said = and_then (λ text. if bytes_eq text word then Ok said else stop (length text) expected) (needed rest)

-- ---- paths

-- a number of a path, in front of what is left
abbrev pub path_number : List ℕ → List ℕ → Result ℕ Stop
path_number text left = number_by left want.Path (number_of (2 ^ 32) text)

abbrev pub third : ℕ → ℕ → Option (List ℕ) → Result Path Stop
third one two None = Ok (Entry one two)
third one two (Some rest) = and_then (λ three. Ok (EntryOf one two three)) (path_number rest rest)

abbrev pub more : ℕ → Option (List ℕ) → Result Path Stop
more one None = Ok (Item one)
more one (Some rest) = and_then (λ two. third one two (behind 46 rest)) (path_number (front 46 rest) rest)

-- N, N.N or N.N.N
abbrev pub path : List ℕ → Result Path Stop
path text = and_then (λ one. more one (behind 46 text)) (path_number (front 46 text) text)

abbrev pub path_by : List ℕ → Option (List ℕ) → Result Path Stop
path_by text None = stop (length text) want.Equals
path_by text (Some rest) = if bytes_eq (front 32 text) (codes "=") then path rest else stop (length text) want.Equals

-- `= PATH`
abbrev pub path_behind_equals : List ℕ → Result Path Stop
path_behind_equals text = path_by text (behind 32 text)

-- ---- lines

-- behind `ask`: NAME, or NAME DATA
abbrev pub ask : List ℕ → Said
ask rest = Ask (front 32 rest) (behind 32 rest)

-- behind `let`: NAME = PATH
abbrev pub binding : List ℕ → Result Said Stop
binding rest =
    if is_name (front 32 rest) then saying (Let (front 32 rest)) (and_then path_behind_equals (needed (behind 32 rest))) else stop (length rest) want.Name

-- behind `expect`: `held T`, `free T` or TEXT
abbrev pub expect : List ℕ → Result Said Stop
expect rest =
    if length rest == 0 then stop 0 want.Text
    else if bytes_eq (front 32 rest) (codes "held") then saying ExpectHeld (needed (behind 32 rest))
    else if bytes_eq (front 32 rest) (codes "free") then saying ExpectFree (needed (behind 32 rest))
    else Ok (Expect rest)

-- behind `mirror`: nothing
abbrev pub alone : Option (List ℕ) → Result Said Stop
alone None = Ok Mirror
alone (Some rest) = stop (length rest) want.End

-- a line of so many bytes by its first word and what stands behind that
abbrev pub by_word : ℕ → List ℕ → Option (List ℕ) → Result Said Stop
by_word left word rest =
    if bytes_eq word (codes "mirror") then alone rest
    else if bytes_eq word (codes "ask") then saying ask (needed rest)
    else if bytes_eq word (codes "let") then and_then binding (needed rest)
    else if bytes_eq word (codes "expect") then and_then expect (needed rest)
    else if bytes_eq word (codes "timeout") then saying Timeout (needed_number rest)
    else if bytes_eq word (codes "events") then saying Events (needed_number rest)
    else if bytes_eq word (codes "wait") then second rest (codes "event") want.Event WaitEvent
    else if bytes_eq word (codes "may") then second rest (codes "end") want.MayEnd MayEnd
    else if bytes_eq word (codes "plan") then second rest (codes "2") want.Version Version
    else stop left want.Word

-- a line, which says nothing where it is empty or begins with `#`
abbrev pub line_of : List ℕ → Result Said Stop
line_of line =
    if (length line == 0) || (slice_index line 0 == 35) then Ok Nothing
    else by_word (length line) (front 32 line) (behind 32 line)

-- What the text of a script is read as.
use Rattle.std.specs.Prelude.{ℕ, List, if◌then◌else◌, Option, None, Some, Result, Ok, Err}
use Rattle.serde_json.specs.Data.{Data}
use Rattle.serde_json.specs.Read.{read}
use Rattle.jdwp_script.specs.declared.fault.ScriptFault.{ScriptFault}
use Rattle.jdwp_script.specs.declared.fault.ScriptFault.TheVariants.{NotJson, IdTwice, IdTooWide, BadReference, OverLimit}
use Rattle.jdwp_script.specs.Parts.{ScriptPart}
use Rattle.jdwp_script.specs.Reading.{◌>>=◌}
use Rattle.jdwp_script.specs.Scripts.{script}
use Rattle.jdwp_script.specs.Limits.{passes_limit}
use Rattle.jdwp_script.specs.Twice.{has_id_twice}
use Rattle.jdwp_script.specs.TooWide.{has_wide_id}
use Rattle.jdwp_script.specs.References.{has_bad_reference}

-- the first fault of a script in which so many threads may live at the beginning
abbrev pub first_fault : ℕ → ScriptPart → Option ScriptFault
first_fault live s =
    if passes_limit live s then Some OverLimit else (
    if has_id_twice s then Some IdTwice else (
    if has_wide_id s then Some IdTooWide else (
    if has_bad_reference s then Some BadReference else (
    None))))

-- the value, unless there is this fault
abbrev pub unless : {X : Type 0} → Option ScriptFault → X → Result X ScriptFault
unless None x = Ok x
unless (Some f) x = Err f

-- the JSON value that a text is
abbrev pub json : Option Data → Result Data ScriptFault
json None = Err NotJson
json (Some d) = Ok d

-- the script that a text describes, whatever faults it has
abbrev pub described : List ℕ → Result ScriptPart ScriptFault
described text = json (read text) >>= script

-- the script that a text is, or its first fault
abbrev pub read_script : ℕ → List ℕ → Result ScriptPart ScriptFault
read_script live text = json (read text) >>= λ d. script d >>= λ s. unless (first_fault live s) s

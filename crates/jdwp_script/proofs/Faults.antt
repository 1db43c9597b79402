-- The fault of a script that a text describes.
use Rattle.std.proofs.Common.{◌≡◌, ℕ, List, Result, Ok, Err, ap}
use Rattle.serde_json.specs.Data.{Data}
use Rattle.serde_json.specs.Read.{read}
use Rattle.jdwp_script.specs.declared.fault.ScriptFault.{ScriptFault}
use Rattle.jdwp_script.specs.Parts.{ScriptPart}
use Rattle.jdwp_script.specs.Reading.{◌>>=◌, Fails}
use Rattle.jdwp_script.specs.Scripts.{script}
use Rattle.jdwp_script.specs.Faults.{first_fault, unless, json, described, read_script}

described_then : (value : Result Data ScriptFault) (s : ScriptPart) (f : ScriptPart → Result ScriptPart ScriptFault) → (value >>= script) ≡ Ok s → (value >>= λ d. script d >>= f) ≡ f s
described_then (Ok d) s f is = ap (λ r. r >>= f) is
described_then (Err e) s f is = ap (λ r. r >>= f) is

pub fails_described : (live : ℕ) (text : List ℕ) (s : ScriptPart) (e : ScriptFault) → described text ≡ Ok s → Fails e (unless (first_fault live s) s) → Fails e (read_script live text)
fails_described live text s e is h = rw (described_then (json (read text)) s (λ x. unless (first_fault live x) x) is) h

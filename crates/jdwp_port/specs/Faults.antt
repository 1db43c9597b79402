-- Ports that can't be used.
use Rattle.std.specs.Prelude.{◌≡◌, ◌≢◌, ◌==◌, ◌&&◌, ℕ, ℤ, Bool, true, false, List, [], ◌∷◌, Option, None, Some, nat_lt, unsigned_abs}
use Rattle.std.specs.List.{list_any}
use Rattle.std.specs.IoError.{error_kind, raw_os_error}
use Rattle.std.specs.declared.io.Error.{Error}
use Rattle.std.specs.declared.io.ErrorKind.{ErrorKind}
use Rattle.std.specs.declared.io.ErrorKind.TheVariants as kind
use Rattle.jdwp_port.specs.declared.faults.PortCause.{PortCause}
use Rattle.jdwp_port.specs.declared.faults.PortCause.TheVariants.{Refused, InUse, NotAllowed, Other}
use Rattle.jdwp_port.specs.declared.faults.PortFault.{PortFault}
use Rattle.jdwp_port.specs.declared.faults.PortFault.TheVariants.{Port, NoMemory}

-- the cause that this error of the system is
abbrev pub IsCauseOf : Error → PortCause → Type 0
IsCauseOf error Refused = error_kind error ≡ kind.ConnectionRefused
IsCauseOf error InUse = error_kind error ≡ kind.AddrInUse
IsCauseOf error NotAllowed = error_kind error ≡ kind.PermissionDenied
IsCauseOf error (Other other) =
    (other ≡ error) × (error_kind error ≢ kind.ConnectionRefused) × (error_kind error ≢ kind.AddrInUse) × (error_kind error ≢ kind.PermissionDenied)

-- what is told of this port at this error: want of memory alone, or the port and why it can't be used
abbrev pub IsFaultOf : ℕ → Error → PortFault → Type 0
IsFaultOf port error NoMemory = error_kind error ≡ kind.OutOfMemory
IsFaultOf port error (Port named cause) = (named ≡ port) × (error_kind error ≢ kind.OutOfMemory) × IsCauseOf error cause

-- a call of the system failed at this port
abbrev pub IsOf : ℕ → PortFault → Type 0
IsOf port fault = (error : Error) × IsFaultOf port error fault

-- errors behind which another connection may be taken at once: the one that came is gone, or the call was interrupted
abbrev pub passes : ErrorKind → Bool
passes kind.ConnectionAborted = true
passes kind.Interrupted = true
passes _ = false

abbrev pub is_gone : Error → Bool
is_gone error = passes (error_kind error)

-- no connection can be taken from this port, at an error that is none of these
abbrev pub EndsAccept : ℕ → PortFault → Type 0
EndsAccept port fault = (error : Error) × IsFaultOf port error fault × (is_gone error ≡ false)

-- The numbers of Linux of the errors that pass: EPERM, EINTR, ENOMEM, ENFILE, EMFILE, ENONET, EPROTO, ENOPROTOOPT, EOPNOTSUPP, ENETDOWN,
-- ENETUNREACH, ECONNABORTED, ENOBUFS, EHOSTDOWN, EHOSTUNREACH.
abbrev pub passing_numbers : List ℕ
passing_numbers = 1 ∷ 4 ∷ 12 ∷ 23 ∷ 24 ∷ 64 ∷ 71 ∷ 92 ∷ 95 ∷ 100 ∷ 101 ∷ 103 ∷ 105 ∷ 112 ∷ 113 ∷ []

abbrev pub is_passing_number : Option ℤ → Bool
is_passing_number None = false
is_passing_number (Some code) = list_any (λ n. n == unsigned_abs code) passing_numbers

-- the system told an error that passes
abbrev pub is_passing : Error → Bool
is_passing error = is_passing_number (raw_os_error error)

-- how many calls in a row may fail so
abbrev pub most_in_a_row : ℕ
most_in_a_row = 100

-- a call that failed so behind so many in a row may be made again
abbrev pub may_pass : Error → ℕ → Bool
may_pass error in_a_row = is_passing error && nat_lt in_a_row most_in_a_row

-- no connection can be taken from this port any more: the error is none that passes, or too many did in a row
abbrev pub EndsTaking : ℕ → ℕ → PortFault → Type 0
EndsTaking port in_a_row fault = (error : Error) × IsFaultOf port error fault × (may_pass error in_a_row ≡ false)

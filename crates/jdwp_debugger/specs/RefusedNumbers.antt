-- The numbers of the refusals of `ask`, as programs print them.
use Rattle.std.specs.Prelude.{ℕ}
use Rattle.jdwp_debugger.specs.declared.asking.Refused.{Refused}
use Rattle.jdwp_debugger.specs.declared.asking.Refused.TheVariants.{Closed, NotReady, Busy, BadCommand, TooLong, NoMemory}

abbrev pub refused_number : Refused → ℕ
refused_number NotReady = 31
refused_number Busy = 32
refused_number Closed = 33
refused_number TooLong = 34
refused_number NoMemory = 35
refused_number BadCommand = 36

-- What lines in memory say.
use Rattle.std.specs.Prelude.{◌≡◌, ℕ, List, Option, Result, Ok, Err, string_bytes}
use Rattle.std.specs.Borrow.{Bor}
use Rattle.std.specs.Option.{option_map}
use Rattle.jdwp_show.specs.MessageLines.{name_text}
use Rattle.jdwp_plan.specs.declared.plan_fault.Stop.{Stop}
use Rattle.jdwp_plan.specs.declared.plan_line.PlanLine.{PlanLine}
use Rattle.jdwp_plan.specs.declared.plan_line.PlanLine.TheVariants as line
use Rattle.jdwp_plan.specs.declared.spoken.Spoken.{Spoken}
use Rattle.jdwp_plan.specs.declared.spoken.Spoken.TheVariants as spoken
use Rattle.jdwp_plan.specs.Lines.{Said}
use Rattle.jdwp_plan.specs.Lines.Said.{Nothing, Version, Ask, Let, Expect, ExpectHeld, ExpectFree, Timeout, Events, WaitEvent, Mirror, MayEnd}

abbrev pub texts_now : Option (Bor (List ℕ)) → Option (List ℕ)
texts_now text = option_map (λ t. t.now) text

abbrev pub result_now : Result (Bor (List ℕ)) Stop → Result (List ℕ) Stop
result_now (Ok text) = Ok text.now
result_now (Err stop) = Err stop

abbrev pub meaning : Spoken → Said
meaning spoken.Nothing = Nothing
meaning spoken.Version = Version
meaning (spoken.Ask name text) = Ask name.now (texts_now text)
meaning (spoken.Let name path) = Let name.now path
meaning (spoken.Expect text) = Expect text.now
meaning (spoken.ExpectHeld text) = ExpectHeld text.now
meaning (spoken.ExpectFree text) = ExpectFree text.now
meaning (spoken.Timeout ms) = Timeout ms
meaning (spoken.Events count) = Events count
meaning spoken.WaitEvent = WaitEvent
meaning spoken.Mirror = Mirror
meaning spoken.MayEnd = MayEnd

-- what was read is what is said, or goes wrong where that does
abbrev pub Reads : Result Spoken Stop → Result Said Stop → Type 0
Reads (Ok x) read = read ≡ Ok (meaning x)
Reads (Err stop) read = read ≡ Err stop

-- a line of a plan; a command goes by the name that its numbers have
abbrev pub said_by : PlanLine → Said
said_by line.Nothing = Nothing
said_by line.Version = Version
said_by (line.Ask set number text) = Ask (name_text (record { set = set; number = number })) (option_map string_bytes text)
said_by (line.Let name path) = Let (string_bytes name) path
said_by (line.Expect text) = Expect (string_bytes text)
said_by (line.ExpectHeld text) = ExpectHeld (string_bytes text)
said_by (line.ExpectFree text) = ExpectFree (string_bytes text)
said_by (line.Timeout ms) = Timeout ms
said_by (line.Events count) = Events count
said_by line.WaitEvent = WaitEvent
said_by line.Mirror = Mirror
said_by line.MayEnd = MayEnd

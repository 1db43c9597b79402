-- Suspend policies, step sizes and step depths (JDWP specification, "SuspendPolicy Constants", "StepSize Constants",
-- "StepDepth Constants").
use Rattle.std.specs.Prelude.{ℕ, ℤ, pos, ◌==◌, if◌then◌else◌, Option, Some, None}
use Rattle.std.specs.Ordering.{int_eq}
use Rattle.jdwp_event.specs.declared.policy.Policy.{Policy}
use Rattle.jdwp_event.specs.declared.policy.Policy.TheVariants as policy
use Rattle.jdwp_event.specs.declared.policy.StepSize.{StepSize}
use Rattle.jdwp_event.specs.declared.policy.StepSize.TheVariants as size
use Rattle.jdwp_event.specs.declared.policy.StepDepth.{StepDepth}
use Rattle.jdwp_event.specs.declared.policy.StepDepth.TheVariants as depth

abbrev pub policy_byte : Policy → ℕ
policy_byte policy.None = 0
policy_byte policy.EventThread = 1
policy_byte policy.All = 2

abbrev pub policy_of_byte : ℕ → Option Policy
policy_of_byte byte =
    if byte == policy_byte policy.None then Some policy.None else (
    if byte == policy_byte policy.EventThread then Some policy.EventThread else (
    if byte == policy_byte policy.All then Some policy.All else
    None))

abbrev pub size_number : StepSize → ℤ
size_number size.Min = pos 0
size_number size.Line = pos 1

abbrev pub size_of_number : ℤ → Option StepSize
size_of_number n =
    if int_eq n (size_number size.Min) then Some size.Min else (
    if int_eq n (size_number size.Line) then Some size.Line else
    None)

abbrev pub depth_number : StepDepth → ℤ
depth_number depth.Into = pos 0
depth_number depth.Over = pos 1
depth_number depth.Out = pos 2

abbrev pub depth_of_number : ℤ → Option StepDepth
depth_of_number n =
    if int_eq n (depth_number depth.Into) then Some depth.Into else (
    if int_eq n (depth_number depth.Over) then Some depth.Over else (
    if int_eq n (depth_number depth.Out) then Some depth.Out else
    None))

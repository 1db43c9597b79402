use Rattle.std.proofs.Common.{rules}
use Rattle.jdwp_show.proofs.hex_digits.digit_value.Goals as goal

pub returns-in_default-digit-clause-value : goal.returns-in_default-digit-clause-value
returns-in_default-digit-clause-value c =
    search rules

pub returns-in_default-digit-clause-is_digit : goal.returns-in_default-digit-clause-is_digit
returns-in_default-digit-clause-is_digit c =
    search rules

pub returns-in_default-digit-2-clause-value : goal.returns-in_default-digit-2-clause-value
returns-in_default-digit-2-clause-value c =
    search rules

pub returns-in_default-digit-2-clause-is_digit : goal.returns-in_default-digit-2-clause-is_digit
returns-in_default-digit-2-clause-is_digit c =
    search rules

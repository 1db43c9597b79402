use Rattle.std.proofs.Common.{sym, ap, ◌∙◌}
use Rattle.std.specs.List.{find}
use Rattle.std.specs.Option.{option_map}
use Rattle.jdwp_mirror.specs.Rows.{breakpoints_in, is_breakpoint_at, is_no_breakpoint_at, request_at, Row, without_first}
use Rattle.jdwp_mirror.proofs.RowLemmas.{first-taken, none-taken}
use Rattle.jdwp_mirror.proofs.row.Row.take_breakpoint.Goals as goal

pub invariant_of-self : goal.invariant_of-self
invariant_of-self c =
    let i = c.self.inside in
    let f = first-taken i.entries.entries i.breakpoints.keys c.in-Some.number c.pop_first.new.self.keys c.self.invariant c.in-Some.ensures.removal in
    record { ordered = c.remove.ensures.ordered; marked = sym f.marks ∙ ap breakpoints_in (sym f.left ∙ sym c.remove.ensures.entries) }

pub returns-in-Some-clause-taken : goal.returns-in-Some-clause-taken
returns-in-Some-clause-taken c =
    let i = c.self.inside in
    let f = first-taken i.entries.entries i.breakpoints.keys c.in-Some.number c.pop_first.new.self.keys c.self.invariant c.in-Some.ensures.removal in
    c.remove.ensures.value ∙ (f.here ∙ sym (ap (option_map request_at) f.found)) ∙ ap (λ (row : Row). option_map request_at (find is_breakpoint_at row)) c.self.view_is

pub returns-in-Some-clause-left : goal.returns-in-Some-clause-left
returns-in-Some-clause-left c =
    let i = c.self.inside in
    let f = first-taken i.entries.entries i.breakpoints.keys c.in-Some.number c.pop_first.new.self.keys c.self.invariant c.in-Some.ensures.removal in
    c.remove.ensures.entries ∙ f.left ∙ ap (without_first is_no_breakpoint_at) c.self.view_is

pub returns-in-None-clause-taken : goal.returns-in-None-clause-taken
returns-in-None-clause-taken c =
    let i = c.self.inside in
    let f = none-taken i.entries.entries i.breakpoints.keys c.self.invariant c.in-None.ensures.variant.1 in
    sym (ap (option_map request_at) f.found) ∙ ap (λ (row : Row). option_map request_at (find is_breakpoint_at row)) c.self.view_is

pub returns-in-None-clause-left : goal.returns-in-None-clause-left
returns-in-None-clause-left c =
    let i = c.self.inside in
    let f = none-taken i.entries.entries i.breakpoints.keys c.self.invariant c.in-None.ensures.variant.1 in
    sym f.left ∙ ap (without_first is_no_breakpoint_at) c.self.view_is

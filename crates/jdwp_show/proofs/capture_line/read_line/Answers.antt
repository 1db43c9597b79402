use Rattle.std.proofs.Common.{Option, sym, refl, subst, arith}
use Rattle.std.proofs.lemmas.List.{take_rest}
use Rattle.std.proofs.lemmas.Result.{IfOk-weaker}
use Rattle.jdwp_show.specs.Lines.{Line, HasRead}
use Rattle.jdwp_show.proofs.LineLemmas.{line_of-debugger, line_of-target}
use Rattle.jdwp_show.proofs.capture_line.read_line.Goals as goal

pub returns-in-62 : goal.returns-in-62
returns-in-62 c =
    IfOk-weaker c.read_digits.result _ _ (λ sender h. subst (λ (line : Option Line). HasRead line sender c.args.bytes.now.items c.read_digits.new.bytes.items) (sym (line_of-debugger c.args.line.now _ (omega arith) (omega arith) (omega arith) refl)) (rw (take_rest c.args.line.now 2) at h)) c.read_digits.ensures

pub returns-in-60 : goal.returns-in-60
returns-in-60 c =
    IfOk-weaker c.read_digits-in-60.result _ _ (λ sender h. subst (λ (line : Option Line). HasRead line sender c.args.bytes.now.items c.read_digits-in-60.new.bytes.items) (sym (line_of-target c.args.line.now _ (omega arith) (omega arith) (omega arith) refl)) (rw (take_rest c.args.line.now 2) at h)) c.read_digits-in-60.ensures

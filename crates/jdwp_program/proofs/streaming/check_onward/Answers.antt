use Rattle.std.proofs.Common.{◌≡◌, ◌∙◌, ◌<◌, ◌++◌, [], ℕ, List, true, false, length, take, refl, sym, subst, append_assoc, arith}
use Rattle.std.proofs.KnownBytes.{Consumes-nil, Consumes-kept, Consumes-trans, Keeps-refl}
use Rattle.std.proofs.lemmas.List.{append-nil}
use Rattle.jdwp_judge.specs.CaptureJudges.{HasHeardText}
use Rattle.jdwp_program.proofs.StreamLaws.{judged_on, not_failed, read_none, read_to_end}
use Rattle.jdwp_program.proofs.streaming.check_onward.Goals as goal

pub reads-init : goal.reads-init
reads-init g c = record {
  size = refl;
  kept = Keeps-refl _;
  so_far = λ table text heard. ([], Consumes-nil _, subst (λ (l : List ℕ). HasHeardText table c.args.judge l) (sym (append-nil text)) heard);
}

pub reads-preserved : goal.reads-preserved
reads-preserved g c = record {
  size = c.read_some.ensures.length ∙ c.reads.invariant.size;
  kept = c.reads.invariant.kept;
  so_far = λ table text heard.
      let far = c.reads.invariant.so_far table text heard in
      let bytes : List ℕ = take c.in-Ok.count c.read_some.new.block in
      let more = not_failed c.hear.result (sym c.is_err.ensures.value ∙ c.if-is_err.false) (c.hear.ensures table (text ++ far.0) far.2) in (
        far.0 ++ bytes,
        Consumes-trans _ _ _ far.0 bytes far.1 c.in-Ok.ensures.bytes.0,
        subst (λ (l : List ℕ). HasHeardText table c.hear.new.self l) (append_assoc text far.0 bytes) more.heard,
      );
}

pub returns-in-Err : goal.returns-in-Err
returns-in-Err g c = λ table text heard.
    let far = c.reads.invariant.so_far table text heard in
    (far.0, Consumes-kept _ _ _ far.0 far.1 c.in-Err.ensures.bytes, tt, c.reads.invariant.kept)

pub returns-then-count-eq0 : goal.returns-then-count-eq0
returns-then-count-eq0 g c = λ table text heard.
    let far = c.reads.invariant.so_far table text heard in
    let some : 0 < length c.read_some.new.block = omega (arith, c.read_some.ensures.length, c.reads.invariant.size, c.requires) in (
      far.0,
      read_none _ _ _ far.0 c.read_some.new.block c.in-Ok.count far.1 c.in-Ok.ensures.bytes.0 c.if-count-eq0.true,
      read_to_end _ c.tell_verdict.result (c.in-Ok.ensures.bytes.1 c.if-count-eq0.true some),
      judged_on table (text ++ far.0) _ _ _ c.tell_verdict.result c.reads.invariant.kept (c.tell_verdict.ensures table (text ++ far.0) far.2),
    )

pub returns-then-is_err : goal.returns-then-is_err
returns-then-is_err g c = λ table text heard.
    let far = c.reads.invariant.so_far table text heard in
    let bytes : List ℕ = take c.in-Ok.count c.read_some.new.block in
    (far.0 ++ bytes, Consumes-trans _ _ _ far.0 bytes far.1 c.in-Ok.ensures.bytes.0, tt, c.reads.invariant.kept)

pub returns : goal.returns
returns g c = λ table text heard. let far = c.reads.invariant.so_far table text heard in (far.0, far.1, tt, c.reads.invariant.kept)

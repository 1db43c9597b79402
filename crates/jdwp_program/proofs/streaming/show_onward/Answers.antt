use Rattle.std.proofs.Common.{◌≡◌, ◌∙◌, ◌<◌, ◌++◌, [], ℕ, List, true, false, length, take, refl, sym, subst, append_assoc, arith}
use Rattle.std.proofs.KnownBytes.{Consumes-nil, Consumes-kept, Consumes-trans}
use Rattle.std.proofs.lemmas.List.{append-nil}
use Rattle.std.specs.Io.KnownBytes.{Appends}
use Rattle.jdwp_judge.specs.CaptureJudges.{HasHeardText, told_text}
use Rattle.jdwp_program.specs.Streaming.{ShowsRead, is_stopped}
use Rattle.jdwp_program.proofs.StreamLaws.{ends_shown, goes_on, hears_on, read_none, read_to_end, stopped_early, stops_at}
use Rattle.jdwp_program.proofs.streaming.show_onward.Goals as goal

pub reads-init : goal.reads-init
reads-init g c = record {
  size = refl;
  so_far = λ table text heard. (
    [],
    Consumes-nil _,
    subst (λ (l : List ℕ). HasHeardText table c.args.judge l) (sym (append-nil text)) heard,
    λ start begun. subst (λ (l : List ℕ). Appends start (g.O.Write.contents c.args.out.now) (told_text table l)) (sym (append-nil text)) begun,
  );
}

pub reads-preserved : goal.reads-preserved
reads-preserved g c = record {
  size = c.read_some.ensures.length ∙ c.reads.invariant.size;
  so_far = λ table text heard.
      let far = c.reads.invariant.so_far table text heard in
      let bytes : List ℕ = take c.in-Ok.count c.read_some.new.block in
      let more = c.show_more-told.ensures table (text ++ far.0) far.2 in
      let on : is_stopped c.show_more-told.result ≡ false = sym c.stops.ensures ∙ c.if-stops.false in (
        far.0 ++ bytes,
        Consumes-trans _ _ _ far.0 bytes far.1 c.in-Ok.ensures.bytes.0,
        subst (λ (l : List ℕ). HasHeardText table c.show_more-told.new.judge l) (append_assoc text far.0 bytes) (hears_on table (text ++ far.0) bytes _ _ _ c.show_more-told.result on more),
        λ start begun.
            subst (λ (l : List ℕ). Appends start (g.O.Write.contents c.show_more-told.new.out) (told_text table l)) (append_assoc text far.0 bytes)
            (goes_on table (text ++ far.0) bytes _ start _ _ c.show_more-told.result on (far.3 start begun) more),
      );
}

pub returns-in-Err : goal.returns-in-Err
returns-in-Err g c = λ table text heard.
    let far = c.reads.invariant.so_far table text heard in
    (far.0, Consumes-kept _ _ _ far.0 far.1 c.in-Err.ensures.bytes, tt, far.3)

pub returns-then-count-eq0 : goal.returns-then-count-eq0
returns-then-count-eq0 g c = λ table text heard.
    let far = c.reads.invariant.so_far table text heard in
    let some : 0 < length c.read_some.new.block = omega (arith, c.read_some.ensures.length, c.reads.invariant.size, c.requires) in (
      far.0,
      read_none _ _ _ far.0 c.read_some.new.block c.in-Ok.count far.1 c.in-Ok.ensures.bytes.0 c.if-count-eq0.true,
      read_to_end _ c.show_rest.result (c.in-Ok.ensures.bytes.1 c.if-count-eq0.true some),
      λ start begun. ends_shown table (text ++ far.0) start _ _ c.show_rest.result (far.3 start begun) (c.show_rest.ensures table (text ++ far.0) far.2),
    )

pub returns-then-stops : goal.returns-then-stops
returns-then-stops g c = λ table text heard.
    let far = c.reads.invariant.so_far table text heard in
    let bytes : List ℕ = take c.in-Ok.count c.read_some.new.block in
    let more = c.show_more-told.ensures table (text ++ far.0) far.2 in
    let stopped : is_stopped c.show_more-told.result ≡ true = sym c.stops.ensures ∙ c.if-stops.true in (
      far.0 ++ bytes,
      Consumes-trans _ _ _ far.0 bytes far.1 c.in-Ok.ensures.bytes.0,
      stopped_early _ c.show_more-told.result stopped,
      λ start begun.
          subst (λ (l : List ℕ). ShowsRead table l start (g.O.Write.contents c.show_more-told.new.out) c.show_more-told.result) (append_assoc text far.0 bytes)
          (stops_at table (text ++ far.0) bytes _ start _ _ c.show_more-told.result stopped (far.3 start begun) more),
    )

pub returns : goal.returns
returns g c = λ table text heard. let far = c.reads.invariant.so_far table text heard in (far.0, far.1, tt, far.3)

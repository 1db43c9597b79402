-- What is in order stays so where all that was written leaves.
use Rattle.jdwp_target.specs.Targets.{Target}
use Rattle.jdwp_end.specs.Story.{Story, flushed}
use Rattle.jdwp_engine.specs.Run.{InOrder}

pub flushed-in-order : {S : Type 0} (base : Target S) (start now : Story) (target : Target S) → InOrder base start now target → InOrder base start (flushed now) target
flushed-in-order base start now target o = record {
  settings = o.settings;
  began = o.began;
  read = o.read;
  written = o.written;
  whole = o.whole;
  failed_writes = o.failed_writes;
  prompt = o.prompt;
}

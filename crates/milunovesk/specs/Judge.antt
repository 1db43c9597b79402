-- What contracts say of sessions and captures that are judged as they go on.
pub use Rattle.jdwp_judge.specs.Told
pub use Rattle.jdwp_judge.specs.Judges
pub use Rattle.jdwp_judge.specs.Held
pub use Rattle.jdwp_judge.specs.LineJudges
pub use Rattle.jdwp_judge.specs.CaptureJudges
pub use Rattle.jdwp_judge.specs.declared.held.Held as held

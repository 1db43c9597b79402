-- What contracts say of the machines of scripts.
pub use Rattle.jdwp_script_machine.specs.ClassAnswers
pub use Rattle.jdwp_script_machine.specs.InvocationAnswers
pub use Rattle.jdwp_script_machine.specs.Machines
pub use Rattle.jdwp_script_machine.specs.Made
pub use Rattle.jdwp_script_machine.specs.Runs
pub use Rattle.jdwp_script_machine.specs.ScriptMeaning
pub use Rattle.jdwp_script_machine.specs.Sound
pub use Rattle.jdwp_script_machine.specs.StateMeanings
pub use Rattle.jdwp_script_machine.specs.States
pub use Rattle.jdwp_script_machine.specs.Worked
pub use Rattle.jdwp_script_machine.specs.declared.machine.ScriptMachine

use Rattle.std.proofs.Common.{refl}
use Rattle.jdwp_script_machine.proofs.worked.definitions_give_worked_machine.Goals as goal

pub returns-clause-steps : goal.returns-clause-steps
returns-clause-steps c = record { called = refl; moved = refl; moved_on = refl; left = refl; at_its_end = refl; without_steps = refl }

pub returns-clause-answers : goal.returns-clause-answers
returns-clause-answers c = record { frames = refl; frames_moved = refl; no_frame_left = refl; start_past = refl; start_below = refl; length_past = refl; length_below = refl; frame_count = refl; thread_name = refl; by_signature = refl; by_other_signature = refl; children = refl; children_left = refl; null_this = refl; no_such_frame = refl; lines = refl; no_such_class = refl; no_such_method = refl; location = refl; location_past = refl; location_null = refl; location_class = refl; location_method = refl; modules = refl; module_of_class = refl; module_of_no_class = refl; module_name = refl; module_loader = refl; no_such_module = refl; no_module = refl; starred = refl }

pub returns-clause-slots : goal.returns-clause-slots
returns-clause-slots c = record { writes = refl; reads = refl; last_counts = refl; all_or_none = refl; slots_before_tags = refl; other_tag = refl; never_void = refl; no_such_frame = refl; no_such_slot = refl; asked_otherwise = refl; asked_as_nothing = refl }

pub returns-clause-strings : goal.returns-clause-strings
returns-clause-strings c = record { first = refl; second = refl; told = refl; of_its_class = refl; no_array = refl; not_yet_made = refl; unnamed_module_stays = refl; no_such_class = refl; last_that_fits = refl; too_wide = refl }

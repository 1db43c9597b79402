-- What a target says that it can do, as truths in the order of the answer (JDWP specification, "VirtualMachine": CapabilitiesNew).
use Rattle.std.specs.Prelude.{Bool, List, [], ◌∷◌}
use Rattle.jdwp_answer.specs.declared.capabilities.CapabilitiesNew.{CapabilitiesNew}

abbrev pub new_truths : CapabilitiesNew → List Bool
new_truths c =
    c.can_watch_field_modification ∷ c.can_watch_field_access ∷ c.can_get_bytecodes ∷ c.can_get_synthetic_attribute ∷ c.can_get_owned_monitor_info ∷ c.can_get_current_contended_monitor ∷ c.can_get_monitor_info ∷ c.can_redefine_classes ∷ c.can_add_method ∷ c.can_unrestrictedly_redefine_classes ∷ c.can_pop_frames ∷ c.can_use_instance_filters ∷ c.can_get_source_debug_extension ∷ c.can_request_vm_death_event ∷ c.can_set_default_stratum ∷ c.can_get_instance_info ∷ c.can_request_monitor_events ∷ c.can_get_monitor_frame_info ∷ c.can_use_source_name_filters ∷ c.can_get_constant_pool ∷ c.can_force_early_return ∷ c.reserved22 ∷ c.reserved23 ∷ c.reserved24 ∷ c.reserved25 ∷ c.reserved26 ∷ c.reserved27 ∷ c.reserved28 ∷ c.reserved29 ∷ c.reserved30 ∷ c.reserved31 ∷ c.reserved32 ∷ []

-- The tables of commands by which data are read: the standard's, in which the data of some rows are raw, and that of the profile `jdi`. It has the
-- same rows, but for four raw ones that a target of that profile answers; these have layouts here (JDWP specification, "VirtualMachine":
-- ClassPaths; "ClassType", "InterfaceType" and "ObjectReference": InvokeMethod).
use Rattle.std.specs.Prelude.{ℕ, [], ◌∷◌, Option, Some, None, if◌then◌else◌, codes}
use Rattle.std.specs.Option.{option_or}
use Rattle.jdwp_wire.specs.Widths.{Widths}
use Rattle.jdwp_layout.specs.declared.item.Field.TheVariants.{String}
use Rattle.jdwp_layout.specs.CommandNumbers.{is_command, CLASS_PATHS, CLASS_INVOKE, INTERFACE_INVOKE, OBJECT_INVOKE}
use Rattle.jdwp_layout.specs.CommandTable.{row_at}
use Rattle.jdwp_layout.specs.Invocations.{of_type, of_object, invocation_reply}
use Rattle.jdwp_layout.specs.Rows.{Row, answered}
use Rattle.jdwp_layout.specs.Shapes.{Fields, OneOf, ListOf}
use Rattle.jdwp_show.specs.declared.table.Table.{Table}
use Rattle.jdwp_show.specs.declared.table.Table.TheVariants.{Standard, Jdi}
use Rattle.jdwp_show.specs.declared.terms.Terms.{Terms}

-- told are the base directory, the class paths and the boot class paths
abbrev pub class_paths_row : Row
class_paths_row = answered (codes "VirtualMachine") (codes "ClassPaths") [] (OneOf String ∷ ListOf (Fields (String ∷ [])) ∷ ListOf (Fields (String ∷ [])) ∷ [])

-- asked are a class, a thread, a method of the class, its arguments and the options; told are the value that was returned and the exception
abbrev pub invoke_of_class_row : Row
invoke_of_class_row = answered (codes "ClassType") (codes "InvokeMethod") of_type invocation_reply

-- the same of an interface
abbrev pub invoke_of_interface_row : Row
invoke_of_interface_row = answered (codes "InterfaceType") (codes "InvokeMethod") of_type invocation_reply

-- asked are an object, a thread, a class, a method of the class, its arguments and the options
abbrev pub invoke_of_object_row : Row
invoke_of_object_row = answered (codes "ObjectReference") (codes "InvokeMethod") of_object invocation_reply

-- the rows of the table `jdi` that are not those of the standard's
abbrev pub jdi_row_at : ℕ → ℕ → Option Row
jdi_row_at set number =
    if is_command CLASS_PATHS set number then Some class_paths_row else (
    if is_command CLASS_INVOKE set number then Some invoke_of_class_row else (
    if is_command INTERFACE_INVOKE set number then Some invoke_of_interface_row else (
    if is_command OBJECT_INVOKE set number then Some invoke_of_object_row else None)))

-- the row of a command set and a command in a table
abbrev pub row_under : Table → ℕ → ℕ → Option Row
row_under Standard set number = row_at set number
row_under Jdi set number = option_or (jdi_row_at set number) (row_at set number)

-- by this table, under these widths of ids
abbrev pub terms_by : Table → Option Widths → Terms
terms_by table widths = record { table = table; sizes = widths }

-- by the standard's
abbrev pub standard : Option Widths → Terms
standard widths = terms_by Standard widths

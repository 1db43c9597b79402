-- Layouts, apart from where they lie in memory.
use Rattle.std.specs.Prelude.{List, map, Option, Some, None}
use Rattle.std.specs.Borrow.{Bor}
use Rattle.jdwp_layout.specs.declared.item.Field.{Field}
use Rattle.jdwp_layout.specs.declared.item.Entry.{Entry}
use Rattle.jdwp_layout.specs.declared.item.Entry.TheVariants as entry
use Rattle.jdwp_layout.specs.declared.item.Item.{Item}
use Rattle.jdwp_layout.specs.declared.item.Item.TheVariants as item
use Rattle.jdwp_layout.specs.declared.item.Layout.{Layout}

pub data EntryShape : Type 0 where
  Fields : List Field → EntryShape
  Modifiers : EntryShape
  Events : EntryShape

pub data ItemShape : Type 0 where
  OneOf : Field → ItemShape
  ListOf : EntryShape → ItemShape
  RegionOf : ItemShape

abbrev pub entry_shape : Entry → EntryShape
entry_shape (entry.Fields fields) = Fields fields.now
entry_shape entry.Modifier = Modifiers
entry_shape entry.Event = Events

abbrev pub item_shape : Item → ItemShape
item_shape (item.One field) = OneOf field
item_shape (item.Many entry) = ListOf (entry_shape entry)
item_shape item.Region = RegionOf

abbrev pub shapes : List Item → List ItemShape
shapes items = map item_shape items

abbrev pub shape : Layout → List ItemShape
shape layout = shapes layout.items.now

-- the fields that were found
abbrev pub found_fields : Option (Bor (List Field)) → Option (List Field)
found_fields None = None
found_fields (Some fields) = Some fields.now

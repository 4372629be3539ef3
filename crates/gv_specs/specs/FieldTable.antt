-- The table of fields.
use Rattle.std.specs.Prelude.{◌≡◌, ℕ, List}
use Rattle.std.specs.HashMap.{get}
use Rattle.std.specs.Str.{bytes_eq}
use Rattle.gv_specread.specs.declared.tree.FieldTree.{FieldTree}
use Rattle.gv_specs.specs.declared.field_table.FieldTable.{FieldTable}
use Rattle.gv_specs.specs.Names.{Named, field_named}

-- what the table holds for a name
abbrev pub entry_in : FieldTable → Named
entry_in table name = get bytes_eq table.entries name

-- the table holds for each name the first field with it
abbrev pub IsTableOf : List ℕ → List FieldTree → FieldTable → Type 0
IsTableOf text fields table = (name : List ℕ) → entry_in table name ≡ field_named text fields name

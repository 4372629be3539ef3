-- Structs with their fields, as tables have them.
use Rattle.std.specs.Prelude.{◌≡◌, ℕ, List, ◌++◌, map, is_some}
use Rattle.gv_gotypes.specs.Scopes.{FieldType, StructType}
use Rattle.gv_gotypes.specs.Files.{is_borne}
use Rattle.gv_gonames.specs.Structs.{StructOf, kind_among}

-- with these fields behind its own
abbrev pub with_fields : StructOf → List FieldType → StructOf
with_fields t fs = record {
  text = t.text;
  struct = record { name = t.struct.name; fields = t.struct.fields ++ fs; methods = t.struct.methods };
}

abbrev pub in_text : List ℕ → StructType → StructOf
in_text text s = record { text = text; struct = s }

abbrev pub all_in_text : List ℕ → List StructType → List StructOf
all_in_text text ss = map (in_text text) ss

-- these are the names of fields
abbrev pub AreBorne : List (List ℕ) → List FieldType → Type 0
AreBorne names fs = (n : List ℕ) → is_borne names n ≡ is_some (kind_among fs n)

use Rattle.std.proofs.Common.{◌≡◌, ℕ, ◌+◌, ◌≤◌, List, length, drop}
use Rattle.std.specs.Prelude.{option_map}
use Rattle.std.specs.HashMap.{get}
use Rattle.std.specs.Str.{bytes_eq}
use Rattle.gv_specs.specs.declared.field_table.NumberedSort.{NumberedSort}
use Rattle.gv_specs.specs.Names.{field_named}
use Rattle.gv_specs.proofs.field_table.FieldTable.new.Given as goal

abbrev moved : ℕ → NumberedSort → NumberedSort
moved n e = record { number = e.number + n; sort = e.sort }

abbrev pub invariant-loop-left : goal.invariant-loop-left
invariant-loop-left l = record {
  within : l.left ≤ length l.fields;
  found : (name : List ℕ) → get bytes_eq l.entries name ≡ option_map (moved l.left) (field_named l.text (drop l.left l.fields) name);
}

abbrev pub decreases-loop-left : goal.decreases-loop-left
decreases-loop-left l = l.left

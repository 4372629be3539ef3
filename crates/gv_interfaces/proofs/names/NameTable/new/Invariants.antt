use Rattle.std.proofs.Common.{◌≡◌, ℕ, ◌+◌, ◌≤◌, List, length, drop}
use Rattle.std.specs.Prelude.{option_map}
use Rattle.std.specs.HashMap.{get}
use Rattle.std.specs.Str.{bytes_eq}
use Rattle.gv_interfaces.specs.Tables.{number_among}
use Rattle.gv_interfaces.proofs.names.NameTable.new.Given as goal

abbrev pub invariant-loop-left : goal.invariant-loop-left
invariant-loop-left l = record {
  within : l.left ≤ length l.names;
  found : (name : List ℕ) → get bytes_eq l.numbers name ≡ option_map (λ n. n + l.left) (number_among (drop l.left l.names) name);
}

abbrev pub decreases-loop-left : goal.decreases-loop-left
decreases-loop-left l = l.left

use Rattle.std.proofs.Common.{◌≡◌, [], true, take}
use Rattle.std.specs.Str.{bytes_eq}
use Rattle.std.specs.List.{list_all}
use Rattle.gv_terms.proofs.lists.are_empty.Given as goal

abbrev pub invariant-loop-v : goal.invariant-loop-v
invariant-loop-v l = list_all (λ v. bytes_eq v []) (take l.v-index l.items) ≡ true

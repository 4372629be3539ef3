use Rattle.std.proofs.Common.{◌≡◌, true, nat_eq, take}
use Rattle.std.specs.List.{list_all}
use Rattle.gv_terms.proofs.lists.are_nil.Given as goal

abbrev pub invariant-loop-v : goal.invariant-loop-v
invariant-loop-v l = list_all (λ v. nat_eq v 0) (take l.v-index l.items) ≡ true

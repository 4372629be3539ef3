-- Laws of terms.
use Rattle.std.specs.Prelude.{◌≡◌, true, Some}
use Rattle.gv_terms.specs.declared.sort.Sort.{Sort}
use Rattle.gv_terms.specs.declared.tree.TermTree.{TermTree}
use Rattle.gv_terms.specs.declared.value.Env.{Env}
use Rattle.gv_terms.specs.Values.{sort_of_value}
use Rattle.gv_terms.specs.Trees.{sort_of, value_under}
use Rattle.gv_terms.specs.Ranges.{IsInRange, IsValuation, numbers_are_words}

-- the value of a tree that has a sort has this sort, under every valuation
abbrev pub ValuesHaveSorts : Type 0
ValuesHaveSorts = (env : Env) (t : TermTree) (s : Sort) → sort_of t ≡ Some s → sort_of_value (value_under env t) ≡ Some s

-- the value of a tree that has a sort, and in which each number is a word, is in range, under every
-- valuation whose values are
abbrev pub ValuesInRange : Type 0
ValuesInRange = (env : Env) (t : TermTree) (s : Sort) → IsValuation env → sort_of t ≡ Some s → numbers_are_words t ≡ true
    → IsInRange (value_under env t)

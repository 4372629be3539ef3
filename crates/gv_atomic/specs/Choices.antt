-- Which lists of choices picks allow.
use Rattle.std.specs.Prelude.{◌≡◌, ℕ, List, [], ◌∷◌, ◌++◌, Bool, true, false, ◌&&◌, ◌||◌, Some, nat_eq, nat_lt, length, take, slice_get}
use Rattle.gv_terms.specs.declared.tree.TermTree.{TermTree}
use Rattle.gv_terms.specs.declared.term.Term.{Term}
use Rattle.gv_terms.specs.declared.value.Value.{Value}
use Rattle.gv_terms.specs.declared.value.Value.TheVariants as val
use Rattle.gv_terms.specs.declared.value.Binding.{Binding}
use Rattle.gv_terms.specs.declared.value.Env.{Env}
use Rattle.gv_terms.specs.Values.{word_of}
use Rattle.gv_terms.specs.Trees.{value_under}
use Rattle.gv_terms.specs.Store.{tree_at}
use Rattle.gv_atomic.specs.declared.spec.Pick.{Pick}

-- names bound to values, one after another
abbrev pub bound : List (List ℕ) → List Value → List Binding
bound [] vs = []
bound (n ∷ ns) [] = []
bound (n ∷ ns) (v ∷ vs) = record { name = n; value = v } ∷ bound ns vs

abbrev pub binds : List Binding → Env
binds bs = record { bindings = bs }

-- the value of a term of a store
abbrev pub term_value : List TermTree → Env → Term → Value
term_value ts env t = value_under env (tree_at ts t.id)

-- a pick under its number
abbrev pub picked : Pick → ℕ → Binding
picked p choice = record { name = p.name; value = val.Word choice }

-- picks under their numbers
abbrev pub picks_bound : List Pick → List ℕ → List Binding
picks_bound [] choices = []
picks_bound (p ∷ picks) [] = []
picks_bound (p ∷ picks) (c ∷ choices) = picked p c ∷ picks_bound picks choices

-- a number below a bound, or 0 where the bound is 0
abbrev pub fits : ℕ → ℕ → Bool
fits choice limit = nat_lt choice limit || (nat_eq limit 0 && nat_eq choice 0)

-- the value of a pick's bound
abbrev pub limit_of : List TermTree → List Binding → Pick → ℕ
limit_of ts before p = word_of (term_value ts (binds before) p.bound)

-- one number for each pick, each of which fits the value that its bound has under what stands before and the
-- earlier picks
abbrev pub are_allowed : List TermTree → List Binding → List Pick → List ℕ → Bool
are_allowed ts before [] [] = true
are_allowed ts before [] (c ∷ choices) = false
are_allowed ts before (p ∷ picks) [] = false
are_allowed ts before (p ∷ picks) (c ∷ choices) = fits c (limit_of ts before p) && are_allowed ts (before ++ picked p c ∷ []) picks choices

-- the same, said of each pick by its place
pub record AreAllowed (ts : List TermTree) (before : List Binding) (picks : List Pick) (choices : List ℕ) : Type 0 where
  pub as_many : length choices ≡ length picks
  pub each : (n : ℕ) (p : Pick) (c : ℕ) → slice_get picks n ≡ Some p → slice_get choices n ≡ Some c
      → fits c (limit_of ts (before ++ picks_bound (take n picks) choices) p) ≡ true

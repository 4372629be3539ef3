-- The Sum of a tree by the Sums of its parts.
use Rattle.std.proofs.Common.{◌≡◌, ℕ, List, [], ◌∷◌, ◌++◌, Bool, true, false, Option, Some, None, map, refl, sym, ap, subst, ◌∙◌, rules}
use Rattle.std.specs.Prelude.{if◌then◌else◌}
use Rattle.gv_base.specs.declared.small.Turn.{Turn}
use Rattle.gv_base.specs.declared.small.Part.{Part}
use Rattle.gv_base.specs.declared.small.Part.TheVariants.{Number}
use Rattle.gv_small.specs.declared.sum_reader.Sum.{Sum}
use Rattle.gv_terms.specs.declared.sort.Sort.{Sort}
use Rattle.gv_terms.specs.declared.operator.Operator.{Operator}
use Rattle.gv_terms.specs.declared.operator.Operator.TheVariants as op
use Rattle.gv_terms.specs.declared.tree.Head.{Head}
use Rattle.gv_terms.specs.declared.tree.Head.TheVariants as head
use Rattle.gv_terms.specs.declared.tree.TermTree.{TermTree, the_lemmas, out-TermTree}
use Rattle.gv_terms.specs.declared.tree.TermTree.TheVariants as tree
use Rattle.gv_terms.specs.declared.tree.TermTree.TheOpen.{TermTree-F, Variable, Apply}
use Rattle.gv_terms.specs.declared.tree.TermTree.TheFolds.{map-TermTree, ind-TermTree}
use Rattle.gv_terms.specs.declared.tree.TermTree.TheViews.{roll-TermTree}
use Rattle.gv_terms.specs.declared.var.Var.{Var}
use Rattle.gv_terms.specs.Trees.{root_here, branches_here, root_of, branches_of}
use Rattle.gv_smallspec.specs.SmallSpec.{alone, part_in, may_turn, turned, turned_by, sum_by, sum_of}

open_variable : (n : List ℕ) (s : Sort) → out-TermTree (tree.Variable n s) ≡ Variable n s
open_variable n s = search (rules, the_lemmas)

open_apply : (o : Operator) (ts : List TermTree) → out-TermTree (tree.Apply o ts) ≡ Apply o ts
open_apply o ts = search (rules, the_lemmas)

module _ (params : List Var) where
  sum_variable : (n : List ℕ) (s : Sort) → sum_of params (tree.Variable n s) ≡ sum_by params (head.Variable n s) []
  unfolding sum_of
  sum_variable n s = search (rules, the_lemmas)

  sum_apply : (o : Operator) (ts : List TermTree) → sum_of params (tree.Apply o ts) ≡ sum_by params (head.Apply o) (map (sum_of params) ts)
  unfolding sum_of
  sum_apply o ts = search (rules, the_lemmas)

  abbrev IsBySums : TermTree → Type 0
  IsBySums t = sum_of params t ≡ sum_by params (root_of t) (map (sum_of params) (branches_of t))

  by_variable : (n : List ℕ) (s : Sort) → IsBySums (tree.Variable n s)
  by_variable n s = sum_variable n s ∙ sym (ap (λ y. sum_by params (root_here y) (map (sum_of params) (branches_here y))) (open_variable n s))

  by_apply : (o : Operator) (ts : List TermTree) → IsBySums (tree.Apply o ts)
  by_apply o ts = sum_apply o ts ∙ sym (ap (λ y. sum_by params (root_here y) (map (sum_of params) (branches_here y))) (open_apply o ts))

  layer_by : (y : TermTree-F ((t : TermTree) × IsBySums t)) → IsBySums (roll-TermTree (map-TermTree ((t : TermTree) × IsBySums t) TermTree (λ e. e.0) y))
  layer_by (Variable n s) = subst IsBySums (sym (tree.rolls-Variable n s)) (by_variable n s)
  layer_by (Apply o es) = subst IsBySums (sym (tree.rolls-Apply o (map (λ e. e.0) es))) (by_apply o (map (λ e. e.0) es))

  -- a tree's Sum is that of its root over the Sums of its branches
  pub by_sums : (t : TermTree) → IsBySums t
  by_sums = ind-TermTree IsBySums (λ x y is. subst (λ z. IsBySums (roll-TermTree z)) is (layer_by y))

  pub by_root : (t : TermTree) (h : Head) → root_of t ≡ h → sum_of params t ≡ sum_by params h (map (sum_of params) (branches_of t))
  by_root t h e = by_sums t ∙ ap (λ r. sum_by params r (map (sum_of params) (branches_of t))) e

-- ---- parts

abbrev pub number_in : Operator → Option Part
number_in (op.Number n) = Some (Number n)
number_in _ = None

not_alone : (p : Part) (rest : List Turn) (t : Turn) → alone p (rest ++ t ∷ []) ≡ None
not_alone p [] t = refl
not_alone p (x ∷ rest) t = refl

perhaps_long : (p : Part) (rest : List Turn) (t : Turn) (b : Bool) → part_in (if b then Some (record { first = p; rest = rest ++ t ∷ [] }) else None) ≡ None
perhaps_long p rest t true = not_alone p rest t
perhaps_long p rest t false = refl

turned_long : (minus : Bool) (left : Option Sum) (p : Option Part) → part_in (turned minus left p) ≡ None
turned_long minus None p = refl
turned_long minus (Some sum) None = refl
turned_long minus (Some sum) (Some p) = perhaps_long sum.first sum.rest (record { minus = minus; part = p }) (may_turn sum.first)

-- a Sum with turns is no part
turned_by_long : (minus : Bool) (sums : List (Option Sum)) → part_in (turned_by minus sums) ≡ None
turned_by_long minus [] = refl
turned_by_long minus (a ∷ []) = refl
turned_by_long minus (a ∷ b ∷ []) = turned_long minus a (part_in b)
turned_by_long minus (a ∷ b ∷ c ∷ sums) = refl

pub part_of_operator : (params : List Var) (o : Operator) (sums : List (Option Sum)) → part_in (sum_by params (head.Apply o) sums) ≡ number_in o
part_of_operator params (op.Number n) sums = refl
part_of_operator params op.Plus sums = turned_by_long false sums
part_of_operator params op.Minus sums = turned_by_long true sums
part_of_operator params _ sums = refl

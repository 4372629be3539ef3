-- Terms of words read over whole numbers, and the rows of a linear certificate.
use Rattle.std.specs.Prelude.{ℕ, zero, suc, ◌^◌, List, [], ◌∷◌, ◌++◌, map, length, Bool, true, false, ◌&&◌, ◌||◌, not, Option, Some, None, nat_eq, if◌then◌else◌, ℤ, pos, neg_ℤ, ◌+ℤ◌, ◌-ℤ◌, ◌*ℤ◌, int_le, int_lt}
use Rattle.std.specs.List.{list_all}
use Rattle.gv_terms.specs.declared.sort.Sort.TheVariants as sort
use Rattle.gv_terms.specs.declared.operator.Operator.TheVariants as op
use Rattle.gv_terms.specs.declared.tree.Head.{Head}
use Rattle.gv_terms.specs.declared.tree.Head.TheVariants as head
use Rattle.gv_terms.specs.declared.tree.TermTree.{TermTree}
use Rattle.gv_terms.specs.Values.{is_sort}
use Rattle.gv_terms.specs.Trees.{root_of, sort_of}
use Rattle.gv_linear.specs.declared.row.Row.{Row}
use Rattle.gv_certs.specs.Trees.{folded, tree_eq, contains, parts_under, and_pass, over_two}
use Rattle.gv_certs.specs.Known.{is_known}

-- ---- sums

-- a term is `a + b` where a and b are known to sum to a word, or `a - b` where b is known to be at most a
abbrev pub is_sum : List TermTree → TermTree → Bool
is_sum facts t =
    and_pass (parts_under op.Plus t) (λ a b. is_known facts (over_two op.Fits a b))
    || and_pass (parts_under op.Minus t) (λ a b. is_known facts (over_two op.AtMost b a))

-- terms that are added or taken away, each with its sign
abbrev pub Summands : Type 0
Summands = List (ℤ × TermTree)

abbrev pub taken_away : Summands → Summands
taken_away ss = map (λ s. (neg_ℤ s.0, s.1)) ss

-- of a sum or a difference, over the summands of its parts
abbrev pub of_both : Head → List Summands → Summands
of_both (head.Apply op.Plus) (x ∷ y ∷ []) = x ++ y
of_both (head.Apply op.Minus) (x ∷ y ∷ []) = x ++ taken_away y
of_both _ _ = []

-- what a term is the sum of: a listed one of what its parts are sums of, any other of itself
unfoldable pub summands : List TermTree → TermTree → Summands
summands sums = folded (λ t parts. if contains sums t then of_both (root_of t) parts else (pos 1, t) ∷ [])

-- ---- numbers and unknowns

-- of a literal its number
abbrev pub number_at : Head → Option ℕ
number_at (head.Apply (op.Number n)) = Some n
number_at _ = None

abbrev pub number_in : TermTree → Option ℕ
number_in t = number_at (root_of t)

-- the summands that are no literals are unknowns, each once, in the order of their first use
abbrev pub with_unknown : List TermTree → TermTree → Option ℕ → List TermTree
with_unknown us t (Some n) = us
with_unknown us t None = if contains us t then us else us ++ (t ∷ [])

abbrev pub with_unknowns : List TermTree → Summands → List TermTree
with_unknowns us [] = us
with_unknowns us (s ∷ ss) = with_unknowns (with_unknown us s.1 (number_in s.1)) ss

-- the number of an unknown: the place in their list
abbrev pub place_in : List TermTree → TermTree → ℕ
place_in [] t = 0
place_in (u ∷ us) t = if tree_eq u t then 0 else suc (place_in us t)

-- what a summand adds to the constant, and to the coefficient of the unknown with a number
abbrev pub to_constant : ℤ → Option ℕ → ℤ
to_constant sign None = pos 0
to_constant sign (Some n) = sign *ℤ pos n

abbrev pub to_coefficient : ℕ → ℤ → ℕ → Option ℕ → ℤ
to_coefficient u sign place None = if nat_eq place u then sign else pos 0
to_coefficient u sign place (Some n) = pos 0

abbrev pub constant_of : Summands → ℤ
constant_of [] = pos 0
constant_of (s ∷ ss) = to_constant s.0 (number_in s.1) +ℤ constant_of ss

abbrev pub coefficient_of : List TermTree → ℕ → Summands → ℤ
coefficient_of us u [] = pos 0
coefficient_of us u (s ∷ ss) = to_coefficient u s.0 (place_in us s.1) (number_in s.1) +ℤ coefficient_of us u ss

-- the unknowns from a number on, so many, each with its coefficient
abbrev pub items_from : List TermTree → ℕ → ℕ → Summands → List (ℕ × ℤ)
items_from us u zero ss = []
items_from us u (suc more) ss = (u, coefficient_of us u ss) ∷ items_from us (suc u) more ss

abbrev pub items_of : List TermTree → Summands → List (ℕ × ℤ)
items_of us ss = items_from us 0 (length us) ss

-- ---- rows

-- a comparison of two words: the higher one less the lower one is 0 where `same`, at least 1 where `strict`, else at least 0
pub record Comparison : Type 0 where
  pub same : Bool
  pub strict : Bool
  pub low : TermTree
  pub high : TermTree

abbrev pub compared_as : Bool → Bool → Option (TermTree × TermTree) → Option Comparison
compared_as same strict None = None
compared_as same strict (Some p) = Some (record { same = same; strict = strict; low = p.0; high = p.1 })

abbrev pub or_else : {A : Type 0} → Option A → Option A → Option A
or_else None o = o
or_else (Some a) o = Some a

-- the parts, where they are words
abbrev pub of_words : Option (TermTree × TermTree) → Option (TermTree × TermTree)
of_words None = None
of_words (Some p) = if is_sort sort.Word (sort_of p.0) then Some p else None

-- `a < b` or `a <= b`
abbrev pub order_of : TermTree → Option Comparison
order_of f = or_else (compared_as false true (parts_under op.Less f)) (compared_as false false (parts_under op.AtMost f))

-- one of these, or `a == b` over words
abbrev pub comparison_of : TermTree → Option Comparison
comparison_of f = or_else (order_of f) (compared_as true false (of_words (parts_under op.Equal f)))

-- what is so where an order is not
abbrev pub denied : Comparison → Comparison
denied c = record { same = false; strict = not c.strict; low = c.high; high = c.low }

abbrev pub row_summands : List TermTree → Comparison → Summands
row_summands sums c = summands sums c.high ++ taken_away (summands sums c.low)

abbrev pub one_if : Bool → ℤ
one_if true = pos 1
one_if false = pos 0

abbrev pub row_constant : List TermTree → Comparison → ℤ
row_constant sums c = constant_of (row_summands sums c) -ℤ one_if c.strict

abbrev pub row_of : List TermTree → List TermTree → Comparison → Row
row_of sums us c = record { same = c.same; items = items_of us (row_summands sums c); constant = row_constant sums c }

-- ---- width

-- from -2^127 to 2^127 - 1
abbrev pub is_narrow : ℤ → Bool
is_narrow z = int_le (neg_ℤ (pos (2 ^ 127))) z && int_lt z (pos (2 ^ 127))

abbrev pub are_narrow : List (ℕ × ℤ) → ℤ → Bool
are_narrow items constant = list_all (λ i. is_narrow i.1) items && is_narrow constant

abbrev pub is_narrow_row : Row → Bool
is_narrow_row r = are_narrow r.items r.constant

abbrev pub is_narrow_sum : List TermTree → List TermTree → TermTree → Bool
is_narrow_sum sums us t = are_narrow (items_of us (summands sums t)) (constant_of (summands sums t))

-- What comparisons that are true tell of numbers, and what a range says of one.
use Rattle.std.proofs.Common.{◌≡◌, ◌≢◌, ℕ, ◌+◌, ◌<◌, ◌≤◌, Bool, true, false, not, nat_lt, nat_le, nat_eq, List, [], ◌∷◌, ◌++◌, Some, refl, arith, ap, sym, ◌∙◌}
use Rattle.std.specs.Prelude.{map}
use Rattle.gv_words.specs.Words as words
use Rattle.gv_terms.specs.declared.operator.Operator.TheVariants as op
use Rattle.gv_terms.specs.declared.sort.Sort.TheVariants as sort
use Rattle.gv_terms.specs.declared.tree.TermTree.{TermTree}
use Rattle.gv_terms.specs.declared.tree.TermTree.TheVariants as tree
use Rattle.gv_terms.specs.declared.value.Env.{Env}
use Rattle.gv_terms.specs.declared.value.Value.{Value}
use Rattle.gv_terms.specs.declared.value.Value.TheVariants as val
use Rattle.gv_terms.specs.Trees.{sort_of, value_under}
use Rattle.gv_terms.specs.Meaning.{operate}
use Rattle.gv_terms.specs.Values.{sort_of_value, word_of, value_eq}
use Rattle.gv_terms.proofs.Valued.{value_apply}
use Rattle.gv_terms.proofs.ValueSorts.{values_have_sorts}
use Rattle.gv_assertions.specs.Standing.{IsTrueUnder, AreTrueUnder, IsNoneOf, number_under}
use Rattle.gv_seats.specs.Paths.{number}
use Rattle.gv_assertions.specs.Atoms.{Takes, here, there}
use Rattle.gv_ranges.specs.Rows.{at_most, less, differ, next, AreWords}

truth_of : (b : Bool) → val.Bool b ≡ val.Bool true → b ≡ true
truth_of b e = cc

le_of : (m n : ℕ) → nat_le m n ≡ true → m ≤ n
le_of m n e = grind arith

lt_of : (m n : ℕ) → nat_lt m n ≡ true → m < n
lt_of m n e = grind arith

pub at_most_is : (env : Env) (a b : TermTree) → IsTrueUnder env (at_most a b) → number_under env a ≤ number_under env b
at_most_is env a b e = le_of (number_under env a) (number_under env b) (truth_of _ (sym (value_apply env op.AtMost (a ∷ b ∷ [])) ∙ e))

pub less_is : (env : Env) (a b : TermTree) → IsTrueUnder env (less a b) → number_under env a < number_under env b
less_is env a b e = lt_of (number_under env a) (number_under env b) (truth_of _ (sym (value_apply env op.Less (a ∷ b ∷ [])) ∙ e))

-- ---- words

word_is : (v : Value) → sort_of_value v ≡ Some sort.Word → v ≡ val.Word (word_of v)
word_is (val.Word n) e = refl
word_is _ e = absurd cc

pub is_word : (env : Env) (t : TermTree) → sort_of t ≡ Some sort.Word → value_under env t ≡ val.Word (number_under env t)
is_word env t s = word_is (value_under env t) (values_have_sorts env t sort.Word s)

not_true : (b : Bool) → not b ≡ true → b ≡ false
not_true true e = absurd cc
not_true false e = refl

-- two words that differ are two numbers
apart : (m n : ℕ) (v w : Value) → v ≡ val.Word m → w ≡ val.Word n → value_eq v w ≡ false → m ≢ n
apart m n v w p q e same =
    let here : value_eq (val.Word m) (val.Word n) ≡ false = ap (λ x. value_eq x (val.Word n)) (sym p) ∙ ap (value_eq v) (sym q) ∙ e in
    unequal m n here same
  where
    unequal : (m n : ℕ) → nat_eq m n ≡ false → m ≢ n
    unequal m n f = grind arith

differ_is : (env : Env) (t u : TermTree) → IsTrueUnder env (differ t u) → value_eq (value_under env t) (value_under env u) ≡ false
differ_is env t u e = not_true _ (truth_of _ (
    ap (λ v. operate op.Not (v ∷ [])) (sym (value_apply env op.Equal (t ∷ u ∷ []))) ∙ sym (value_apply env op.Not (tree.Apply op.Equal (t ∷ u ∷ []) ∷ [])) ∙ e))

pub none_of : (env : Env) (t : TermTree) (except : List TermTree) → sort_of t ≡ Some sort.Word → AreWords except → AreTrueUnder env (map (differ t) except)
    → IsNoneOf env except (number_under env t)
none_of env t [] word words met = tt
none_of env t (u ∷ except) word words met = (
  apart (number_under env t) (number_under env u) (value_under env t) (value_under env u) (is_word env t word) (is_word env u words.0) (differ_is env t u met.0),
  none_of env t except word words.1 met.1,
)

-- ---- numbers that are left out

pub none_last : (env : Env) (t : TermTree) (except : List TermTree) (n : ℕ) → IsNoneOf env (except ++ t ∷ []) n → IsNoneOf env (t ∷ except) n
none_last env t [] n h = h
none_last env t (u ∷ except) n h = let rest = none_last env t except n h.1 in (rest.0, (h.0, rest.1))

pub none_taken : (env : Env) (t : TermTree) (except fewer : List TermTree) (n : ℕ) → Takes except t fewer → IsNoneOf env (t ∷ fewer) n → IsNoneOf env except n
none_taken env t _ _ n here h = h
none_taken env t _ _ n (there {xs = except} {ys = fewer} takes) h = (h.1.0, none_taken env t except fewer n takes (h.0, h.1.1))

-- ---- the number behind one

one_is : (env : Env) → number_under env (number 1) ≡ 1
one_is env = ap word_of (value_apply env (op.Number 1) [])

behind_one : (m n : ℕ) → n ≡ 1 → words.plus m n ≤ m + 1
behind_one m n e = omega (arith, e)

pub next_is : (env : Env) (t : TermTree) → number_under env (next t) ≤ number_under env t + 1
next_is env t =
    let same : number_under env (next t) ≡ words.plus (number_under env t) (number_under env (number 1)) = ap word_of (value_apply env op.Plus (t ∷ number 1 ∷ [])) in
    let low = behind_one (number_under env t) (number_under env (number 1)) (one_is env) in
    omega (arith, same, low)

-- Facts that are true where terms have certain values.
use Rattle.std.proofs.Common.{◌≡◌, ℕ, Bool, true, List, [], ◌∷◌, ◌++◌, ap, ◌∙◌}
use Rattle.gv_terms.specs.declared.operator.Operator.{Operator}
use Rattle.gv_terms.specs.declared.operator.Operator.TheVariants as op
use Rattle.gv_terms.specs.declared.tree.TermTree.{TermTree}
use Rattle.gv_terms.specs.declared.value.Env.{Env}
use Rattle.gv_terms.specs.declared.value.Value.{Value}
use Rattle.gv_terms.specs.declared.value.Value.TheVariants as val
use Rattle.gv_terms.specs.Meaning.{operate}
use Rattle.gv_terms.specs.Trees.{value_under}
use Rattle.gv_terms.specs.Values.{value_eq}
use Rattle.gv_terms.proofs.Valued.{value_apply}
use Rattle.gv_assertions.specs.Standing.{IsTrueUnder, AreTrueUnder}
use Rattle.gv_seats.specs.Paths.{number}
use Rattle.gv_slicing.specs.Rows.{one_of, equal}

pub facts_join : (env : Env) (facts more : List TermTree) → AreTrueUnder env facts → AreTrueUnder env more → AreTrueUnder env (facts ++ more)
facts_join env [] more h k = k
facts_join env (f ∷ facts) more h k = (h.0, facts_join env facts more h.1 k)

pub number_value : (env : Env) (n : ℕ) → value_under env (number n) ≡ val.Word n
number_value env n = value_apply env (op.Number n) []

pub equal_true : (env : Env) (a b : TermTree) (x y : Value) → value_under env a ≡ x → value_under env b ≡ y → value_eq x y ≡ true → IsTrueUnder env (equal a b)
equal_true env a b x y p q e =
    value_apply env op.Equal (a ∷ b ∷ []) ∙ ap (λ (v : Value). operate op.Equal (v ∷ value_under env b ∷ [])) p ∙ ap (λ (v : Value). operate op.Equal (x ∷ v ∷ [])) q
    ∙ ap (λ (t : Bool). val.Bool t) e

pub one_value : (env : Env) (o : Operator) (a : TermTree) (x : Value) → value_under env a ≡ x → value_under env (one_of o a) ≡ operate o (x ∷ [])
one_value env o a x p = value_apply env o (a ∷ []) ∙ ap (λ (v : Value). operate o (v ∷ [])) p

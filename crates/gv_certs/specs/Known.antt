-- Which formulas are known from facts.
use Rattle.std.specs.Prelude.{ℕ, List, [], Bool, true, false, ◌&&◌, ◌||◌}
use Rattle.std.specs.List.{list_all}
use Rattle.gv_terms.specs.declared.operator.Operator.{Operator}
use Rattle.gv_terms.specs.declared.operator.Operator.TheVariants as op
use Rattle.gv_terms.specs.declared.tree.Head.{Head}
use Rattle.gv_terms.specs.declared.tree.Head.TheVariants as head
use Rattle.gv_terms.specs.declared.tree.TermTree.{TermTree}
use Rattle.gv_terms.specs.declared.value.Env.{Env}
use Rattle.gv_terms.specs.Values.{truth_of}
use Rattle.gv_terms.specs.Trees.{root_of, value_under}
use Rattle.gv_certs.specs.Trees.{folded, tree_eq, contains, parts_under, and_pass, equation}

-- the operators over words and truth values alone; `==` and `if` are among them, whose parts are such where
-- these are built from the operators of this list
abbrev pub is_plain_operator : Operator → Bool
is_plain_operator (op.Number n) = true
is_plain_operator op.True = true
is_plain_operator op.False = true
is_plain_operator op.Not = true
is_plain_operator op.Complement = true
is_plain_operator op.Or = true
is_plain_operator op.And = true
is_plain_operator op.Equal = true
is_plain_operator op.Less = true
is_plain_operator op.AtMost = true
is_plain_operator op.Plus = true
is_plain_operator op.Minus = true
is_plain_operator op.BitOr = true
is_plain_operator op.BitXor = true
is_plain_operator op.Times = true
is_plain_operator op.Divide = true
is_plain_operator op.Remainder = true
is_plain_operator op.ShiftLeft = true
is_plain_operator op.ShiftRight = true
is_plain_operator op.BitAnd = true
is_plain_operator op.BitClear = true
is_plain_operator op.If = true
is_plain_operator op.Imp = true
is_plain_operator op.Fits = true
is_plain_operator _ = false

abbrev pub is_plain_head : Head → Bool
is_plain_head (head.Variable n s) = false
is_plain_head (head.Apply o) = is_plain_operator o

-- whether a tree has no variable, and no other operators
unfoldable pub is_plain : TermTree → Bool
is_plain = folded (λ t parts. is_plain_head (root_of t) && list_all (λ b. b) parts)

abbrev pub no_values : Env
no_values = record { bindings = [] }

-- it has no variable, is over words and truth values alone, and is true
abbrev pub computes : TermTree → Bool
computes f = is_plain f && truth_of (value_under no_values f)

-- it is `t == t`
abbrev pub is_reflexive : TermTree → Bool
is_reflexive f = and_pass (parts_under op.Equal f) tree_eq

-- it is an equation that is a fact the other way round
abbrev pub is_turned : List TermTree → TermTree → Bool
is_turned facts f = and_pass (parts_under op.Equal f) (λ a b. contains facts (equation b a))

-- it is a fact, or one that is turned, or plain as it stands
abbrev pub is_known : List TermTree → TermTree → Bool
is_known facts f = contains facts f || is_turned facts f || is_reflexive f || computes f

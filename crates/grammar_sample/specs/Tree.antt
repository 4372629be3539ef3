-- Heads as what they turn out to be.
use Rattle.std.specs.Prelude.{ℕ, Option, Some, None}
use Rattle.grammar_sample.specs.declared.tree.Expr.{Expr}
use Rattle.grammar_sample.specs.declared.tree.Expr.TheVariants.{Name, Select}
use Rattle.grammar_sample.specs.declared.tree.Head.{Head}
use Rattle.grammar_sample.specs.declared.tree.Left.{Left}
use Rattle.grammar_sample.specs.declared.tree.Left.TheVariants.{Variable, Field}

-- an operand
abbrev pub named_as : Option Expr → ℕ → Expr
named_as None name = Name name
named_as (Some of) name = Select of name

-- a place
abbrev pub left_as : Option Expr → ℕ → Left
left_as None name = Variable name
left_as (Some of) name = Field of name

abbrev pub named_by : Head → Expr
named_by head = named_as head.of head.name

abbrev pub left_by : Head → Left
left_by head = left_as head.of head.name

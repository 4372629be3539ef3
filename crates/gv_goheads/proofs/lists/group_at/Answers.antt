use Rattle.std.proofs.Common.{List, ap, ◌∙◌}
use Rattle.gv_gosyntax.specs.declared.lexeme.Lexeme.{Lexeme}
use Rattle.gv_gosyntax.specs.declared.tree.GoType.{GoType}
use Rattle.gv_gosyntax.specs.declared.tree.Group.{Group}
use Rattle.gv_goheads.proofs.lists.group_at.Goals as goal

abbrev made : List Lexeme → GoType → Group
made ts t = record { names = ts; kind = t }

pub returns : goal.returns
returns c = λ ts t h i. ap (λ (xs : List Lexeme). made xs c.type_at.result) (c.from_vec.ensures ∙ c.in_ok-names.ensures ts h) ∙ ap (λ (k : GoType). made ts k) (c.type_at.ensures t i)

use Rattle.std.proofs.Common.{Option, sym, subst}
use Rattle.gv_gotypes.specs.declared.names.Found.{Found}
use Rattle.gv_gotypes.specs.Expressions.{found_outcome}
use Rattle.gv_gotyped.specs.First.{IsMade}
use Rattle.gv_gotyped.proofs.names.name_made.Goals as goal

pub returns-in-None : goal.returns-in-None
returns-in-None c = λ env t e known.
    subst (λ (x : Option Found). IsMade c.undeclared_made.result (found_outcome env t x)) (sym c.in-None.is) (c.undeclared_made.ensures env t e)

use Rattle.std.proofs.Common.{ℕ, sym, subst}
use Rattle.gv_gotypes.specs.Expressions.{entity_outcome}
use Rattle.gv_gotyped.specs.First.{IsMade}
use Rattle.gv_gotyped.proofs.NameLemmas.{of_found}
use Rattle.gv_gotyped.proofs.names.found_made.Goals as goal

pub returns : goal.returns
returns c = λ env t e known. of_found env t c.args.found c.entity_made.result
    (subst (λ (x : ℕ). IsMade c.entity_made.result (entity_outcome env.declared x c.args.found.entity)) (sym e) (c.entity_made.ensures env.declared known))

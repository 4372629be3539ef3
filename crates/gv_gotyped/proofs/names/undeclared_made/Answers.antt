use Rattle.gv_gotyped.proofs.NameLemmas.{undeclared}
use Rattle.gv_gotyped.proofs.names.undeclared_made.Goals as goal

pub returns : goal.returns
returns c = λ env t e. undeclared env t c.args.at e

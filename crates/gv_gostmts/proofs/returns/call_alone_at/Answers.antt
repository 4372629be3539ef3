use Rattle.std.proofs.Common.{map, ◌∙◌, sym}
use Rattle.std.proofs.lemmas.List.{length-map}
use Rattle.gv_gotypes.specs.Trees.{right_of}
use Rattle.gv_gostmts.proofs.ReturnLemmas.{as_many, several}
use Rattle.gv_gostmts.proofs.returns.call_alone_at.Goals as goal

pub returns-then-places-eq1 : goal.returns-then-places-eq1
returns-then-places-eq1 c = λ rs h. c.first_call_at.ensures rs h c.if-places-eq1.true

pub returns-else-places-eq1 : goal.returns-else-places-eq1
returns-else-places-eq1 c = λ rs h. several (map right_of rs) (λ q. c.if-places-eq1.false (as_many c.args.nodes.now c.args.places.now rs h ∙ sym (length-map rs right_of) ∙ q))

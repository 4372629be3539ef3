use Rattle.std.proofs.Common.{List, Option, sym, ap, ◌∙◌}
use Rattle.gv_operands.specs.declared.types.GoType.{GoType}
use Rattle.gv_gotypes.specs.Assigning.{types_for}
use Rattle.gv_gocalls.specs.declared.answers.Results.{Results}
use Rattle.gv_gocalls.specs.Answers.{results_of}
use Rattle.gv_gosimple.specs.Given.{padded}
use Rattle.gv_gosimple.proofs.Declared.{padded_none}
use Rattle.gv_gosimple.proofs.given.results_types.Goals as goal

pub returns-in-Unknown : goal.returns-in-Unknown
returns-in-Unknown c = λ es h. ap (λ (ks : List (Option GoType)). padded es ks) c.new.ensures.items ∙ padded_none es
    ∙ sym (ap (λ (x : Results). types_for es (results_of x)) c.in-Unknown.is)

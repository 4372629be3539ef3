use Rattle.std.proofs.Common.{Bool, List, Option, Some, sym, ap, ◌∙◌}
use Rattle.gv_operands.specs.declared.types.GoType.{GoType}
use Rattle.gv_gotypes.specs.Assigning.{types_for, read_types}
use Rattle.gv_gosimple.specs.Given.{padded}
use Rattle.gv_gosimple.proofs.Declared.{padded_none}
use Rattle.gv_gosimple.proofs.given.read_types.Goals as goal

pub returns-else-read : goal.returns-else-read
returns-else-read c = λ es h. ap (λ (ks : List (Option GoType)). padded es ks) c.new.ensures.items ∙ padded_none es
    ∙ sym (ap (λ (r : Option Bool). types_for es (read_types r)) (c.in-Some.is ∙ ap (λ (b : Bool). Some b) c.if-read.false))

pub returns-in-None : goal.returns-in-None
returns-in-None c = λ es h. ap (λ (ks : List (Option GoType)). padded es ks) c.new-in-None.ensures.items ∙ padded_none es
    ∙ sym (ap (λ (r : Option Bool). types_for es (read_types r)) c.in-None.is)

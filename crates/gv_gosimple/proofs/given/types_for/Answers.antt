use Rattle.std.proofs.Common.{List, Option, sym, ap, ◌∙◌}
use Rattle.gv_operands.specs.declared.types.GoType.{GoType}
use Rattle.gv_gosimple.specs.Given.{padded}
use Rattle.gv_gosimple.proofs.Declared.{types_same, types_other}
use Rattle.gv_gosimple.proofs.given.types_for.Goals as goal

pub returns-then-kinds-count : goal.returns-then-kinds-count
returns-then-kinds-count c = λ es h. ap (λ (ks : List (Option GoType)). padded es ks) c.new.ensures.items ∙ types_other es c.args.kinds.now (λ e. c.if-kinds-count.true (e ∙ sym h))

pub returns : goal.returns
returns c = λ es h. ap (λ (ks : List (Option GoType)). padded es ks) c.in_ok-given.ensures.items ∙ types_same es c.args.kinds.now (c.if-kinds-count.false ∙ h)

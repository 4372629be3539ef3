use Rattle.std.proofs.Common.{◌≡◌, ap, sym, ◌∙◌}
use Rattle.gv_gotypes.specs.Declarations.{all_imports}
use Rattle.gv_godeclared.proofs.Whole.{heads_there}
use Rattle.gv_godeclared.proofs.known.known_at.Goals as goal

pub returns : goal.returns
returns c = λ tss ds h g f e d.
    c.in_ok-known.ensures f
    (ap all_imports e ∙ sym (c.in_ok-paths.ensures tss h) ∙ sym c.deref.ensures.value)
    (heads_there f ds c.in_ok-heads.heads.items d (c.in_ok-heads.ensures ds g) ∙ sym c.deref-2.ensures.value)

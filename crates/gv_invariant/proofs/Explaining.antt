-- The history of a state with the invariant has an explanation.
use Rattle.std.proofs.Common.{◌≡◌, List, sym, ◌∙◌}
use Rattle.gv_terms.specs.declared.value.Value.{Value}
use Rattle.gv_invariant.specs.Laws.{ExplainedLaw}

pub explained_law : ExplainedLaw
explained_law o s i =
    let w = i.base.consistent.walked in
    (i.ghost.moves, record { entries = w.entries ∙ i.tells.history; end = i.ghost.walk; passes = w.passes })

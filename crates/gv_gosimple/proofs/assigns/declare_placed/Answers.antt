use Rattle.std.proofs.Common.{List, map, Option, sym, ap, ◌∙◌}
use Rattle.std.proofs.lemmas.List.{length-map}
use Rattle.gv_operands.specs.declared.types.GoType.{GoType}
use Rattle.gv_gotypes.specs.Trees.{expr_of}
use Rattle.gv_gotypes.specs.Assigning.{declaring}
use Rattle.gv_gosimple.specs.Given.{padded}
use Rattle.gv_gosimple.proofs.Splits.{as_many}
use Rattle.gv_gosimple.proofs.assigns.declare_placed.Goals as goal

pub returns-clause-env : goal.returns-clause-env
returns-clause-env g c = λ es r h i.
    let env = g.N.Names.env c.args.names.now in
    let ls = map expr_of es in
    c.in_ok-declare_all.ensures.env es h
    ∙ ap (λ (ks : List (Option GoType)). declaring env ls ks)
    (ap (λ (ks : List (Option GoType)). padded ls ks) c.as_slice.ensures.value
    ∙ c.in_ok-kinds.ensures r ls i (as_many c.args.nodes.now c.args.places.now es h ∙ sym (length-map es expr_of)))

pub returns-clause-outer : goal.returns-clause-outer
returns-clause-outer g c = c.in_ok-declare_all.ensures.outer

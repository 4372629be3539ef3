use Rattle.std.proofs.Common.{ℕ, List, map, sym, subst}
use Rattle.gv_gotypes.specs.Trees.{expr_of, right_of}
use Rattle.gv_gosimple.specs.Lefts.{AreExprs}
use Rattle.gv_gosimple.proofs.AssignLemmas.{defined_after, assigned_after}
use Rattle.gv_gosimple.proofs.assigns.declare_assigned.Goals as goal

pub returns-then-not-is_define-clause-env : goal.returns-then-not-is_define-clause-env
returns-then-not-is_define-clause-env g c = λ es r h i.
    assigned_after (g.N.Names.env c.args.names.now) (map expr_of es) c.args.sign (right_of r) c.is_define.result c.is_define.ensures c.if-not-is_define.true

pub declare_placed-requires-clause-lefts : goal.declare_placed-requires-clause-lefts
declare_placed-requires-clause-lefts g c = record {
  whole = c.requires.lefts.whole;
  are = subst (λ (ps : List ℕ). AreExprs c.args.nodes.now ps c.requires.lefts.whole) (sym c.as_slice.ensures.value) (c.in_ok-places.ensures c.requires.lefts.whole c.requires.lefts.part);
}

pub returns-clause-env : goal.returns-clause-env
returns-clause-env g c = λ es r h i.
    defined_after (g.N.Names.env c.args.names.now) (g.N.Names.env c.declare_placed.new.names) (map expr_of es) c.args.sign (right_of r) c.is_define.result c.is_define.ensures c.if-not-is_define.false
    (c.in_ok-declare_placed.ensures.env es r (subst (λ (ps : List ℕ). AreExprs c.args.nodes.now ps es) (sym c.as_slice.ensures.value) (c.in_ok-places.ensures es h)) i)

pub returns-clause-outer : goal.returns-clause-outer
returns-clause-outer g c = c.in_ok-declare_placed.ensures.outer

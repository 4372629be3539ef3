use Rattle.std.proofs.Common.{Bool, map, sym, ap, ◌∙◌, arith}
use Rattle.std.proofs.lemmas.List.{length-map}
use Rattle.gv_gotypes.specs.Trees.{expr_of}
use Rattle.gv_gosimple.specs.declared.sides.Side.TheVariants.{Defined}
use Rattle.gv_gosimple.specs.Lefts.{side_for}
use Rattle.gv_gosimple.proofs.Splits.{as_many}
use Rattle.gv_gosimple.proofs.SideLemmas.{lone_side, beside_side}
use Rattle.gv_gosimple.proofs.sides.side_at.Goals as goal

pub returns-then-defines : goal.returns-then-defines
returns-then-defines g c = λ es h.
    ap Defined (c.some_is_new.ensures es h) ∙ sym (ap (λ (b : Bool). side_for (g.N.Names.env c.args.names.now) b (map expr_of es)) c.if-defines.true)

pub returns-then-places-eq1 : goal.returns-then-places-eq1
returns-then-places-eq1 g c = λ es h.
    let k = c.if-places-eq1.true in let m = as_many c.args.nodes.now c.args.places.now es h in let n = length-map es expr_of in
    lone_side (map expr_of es) (omega (arith, k, m, n)) ∙ sym (ap (λ (b : Bool). side_for (g.N.Names.env c.args.names.now) b (map expr_of es)) c.if-defines.false)

pub returns-else-places-eq1 : goal.returns-else-places-eq1
returns-else-places-eq1 g c = λ es h.
    let m = as_many c.args.nodes.now c.args.places.now es h in let n = length-map es expr_of in
    beside_side (map expr_of es) (λ q. c.if-places-eq1.false (omega (arith, q, m, n))) ∙ sym (ap (λ (b : Bool). side_for (g.N.Names.env c.args.names.now) b (map expr_of es)) c.if-defines.false)

use Rattle.std.proofs.Common.{map, arith}
use Rattle.std.proofs.lemmas.List.{length-map}
use Rattle.gv_gotypes.specs.Trees.{expr_of}
use Rattle.gv_gosimple.proofs.Splits.{as_many}
use Rattle.gv_gosimple.proofs.SideLemmas.{again_few, again_many}
use Rattle.gv_gosimple.proofs.definitions.again_at.Goals as goal

pub returns-in_default : goal.returns-in_default
returns-in_default g c = λ es h.
    let k = c.in_default.len_below in let m = as_many c.args.nodes.now c.args.places.now es h in let n = length-map es expr_of in
    again_few (g.N.Names.env c.args.names.now) (map expr_of es) (omega (arith, k, m, n))

pub returns-in_default-2 : goal.returns-in_default-2
returns-in_default-2 g c = λ es h.
    let k = c.in_default.len_at_least in let m = as_many c.args.nodes.now c.args.places.now es h in let n = length-map es expr_of in
    again_many (g.N.Names.env c.args.names.now) (map expr_of es) (omega (arith, k, m, n))

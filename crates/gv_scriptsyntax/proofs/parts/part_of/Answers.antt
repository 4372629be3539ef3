use Rattle.std.proofs.Common.{◌≡◌, ℕ, ◌+◌, ◌-◌, Some, sym, subst, arith}
use Rattle.std.specs.Prelude.{take, drop}
use Rattle.gv_scriptsyntax.specs.Nodes.{built}
use Rattle.gv_scriptsyntax.proofs.Nodes.{fewer_parts, part_there}
use Rattle.gv_scriptsyntax.proofs.parts.part_of.Goals as goal

pub start_of-requires-clause-enough : goal.start_of-requires-clause-enough
start_of-requires-clause-enough c = fewer_parts c.args.text.now c.args.nodes.now c.args.at c.args.number c.requires.enough

pub overflow_sub-result : goal.overflow_sub-result
overflow_sub-result c =
    let l = part_there c.args.text.now c.args.nodes.now c.start_of.result c.args.at c.args.number c.requires.enough c.start_of.ensures.kept in
    omega (arith, l)

pub returns-clause-before : goal.returns-clause-before
returns-clause-before c =
    let l = part_there c.args.text.now c.args.nodes.now c.start_of.result c.args.at c.args.number c.requires.enough c.start_of.ensures.kept in
    let k = c.start_of.ensures.within in
    omega (arith, l, k)

pub returns-clause-part : goal.returns-clause-part
returns-clause-part c = λ parts e.
    let l = part_there c.args.text.now c.args.nodes.now c.start_of.result c.args.at c.args.number c.requires.enough c.start_of.ensures.kept in
    let q : (c.start_of.result - 1) + 1 ≡ c.start_of.result = omega (arith, l) in
    subst (λ (n : ℕ). built c.args.text.now (take n c.args.nodes.now) ≡ Some (drop c.args.number parts)) (sym q) (c.start_of.ensures.kept parts e)

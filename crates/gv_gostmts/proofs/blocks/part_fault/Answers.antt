use Rattle.std.proofs.Common.{◌≡◌, Option, IfOk, sym, ap, subst}
use Rattle.std.specs.Prelude.{option_map}
use Rattle.gv_gosyntax.specs.declared.tree.Simple.{Simple as DeclaredSimple}
use Rattle.gv_gotypes.specs.Trees.{simple_of}
use Rattle.gv_gotypes.specs.Statements.{part_findings}
use Rattle.gv_gotyped.specs.declared.fault.Fault.{Fault}
use Rattle.gv_gotyped.specs.First.{first_of}
use Rattle.gv_gostmts.proofs.BlockLemmas.{simple_there}
use Rattle.gv_gostmts.proofs.blocks.part_fault.Goals as goal

pub simple_fault-requires-clause-some : goal.simple_fault-requires-clause-some
simple_fault-requires-clause-some g c =
    let m = c.in-Part.ensures c.requires.some.whole c.requires.some.part in
    simple_there c.args.nodes.now c.args.at c.in-Part.simple m.of_simple c.requires.some.within m.at_simple

pub returns-in-NoPart : goal.returns-in-NoPart
returns-in-NoPart g c = λ s h. sym (ap (λ (x : Option DeclaredSimple). first_of (part_findings (g.N.Names.env c.args.names.now) (option_map simple_of x))) (c.in-NoPart.ensures s h))

pub returns-in-Part : goal.returns-in-Part
returns-in-Part g c = λ s h.
    let m = c.in-Part.ensures s h in
    subst (λ (x : Option DeclaredSimple). IfOk c.simple_fault.result (λ (f : Option Fault). f ≡ first_of (part_findings (g.N.Names.env c.args.names.now) (option_map simple_of x)))) (sym m.made)
    (c.simple_fault.ensures m.of_simple m.at_simple.is)

use Rattle.std.proofs.Common.{Option, sym, ap, ◌∙◌}
use Rattle.std.specs.Prelude.{option_map}
use Rattle.gv_gosyntax.specs.declared.tree.Simple.{Simple as DeclaredSimple}
use Rattle.gv_gotypes.specs.Trees.{simple_of}
use Rattle.gv_gotypes.specs.Statements.{part_after}
use Rattle.gv_gostmts.proofs.BlockLemmas.{simple_there}
use Rattle.gv_gostmts.proofs.blocks.declare_part.Goals as goal

pub declare_simple-requires-clause-some : goal.declare_simple-requires-clause-some
declare_simple-requires-clause-some g c =
    let m = c.in-Part.ensures c.requires.some.whole c.requires.some.part in
    simple_there c.args.nodes.now c.args.at c.in-Part.simple m.of_simple c.requires.some.within m.at_simple

pub returns-in-NoPart-clause-env : goal.returns-in-NoPart-clause-env
returns-in-NoPart-clause-env g c = λ s h. sym (ap (λ (x : Option DeclaredSimple). part_after (g.N.Names.env c.args.names.now) (option_map simple_of x)) (c.in-NoPart.ensures s h))

pub returns-in_ok-declare_simple-in-Part-clause-env : goal.returns-in_ok-declare_simple-in-Part-clause-env
returns-in_ok-declare_simple-in-Part-clause-env g c = λ s h.
    let m = c.in-Part.ensures s h in
    c.in_ok-declare_simple-in-Part.ensures.env m.of_simple m.at_simple.is
    ∙ sym (ap (λ (x : Option DeclaredSimple). part_after (g.N.Names.env c.args.names.now) (option_map simple_of x)) m.made)

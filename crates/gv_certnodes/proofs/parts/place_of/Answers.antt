use Rattle.std.proofs.lemmas.Option.{slice_get_within}
use Rattle.gv_scriptsyntax.specs.declared.node.Node.TheVariants.{Made}
use Rattle.gv_certnodes.proofs.Opened.{has_parts}
use Rattle.gv_certnodes.proofs.parts.place_of.Goals as goal

pub part_of-requires-clause-within : goal.part_of-requires-clause-within
part_of-requires-clause-within c = slice_get_within c.args.nodes.now c.args.at (Made c.requires.made.raw c.requires.made.from) c.requires.made.node

pub part_of-requires-clause-enough : goal.part_of-requires-clause-enough
part_of-requires-clause-enough c = has_parts c.args.text.now c.args.nodes.now c.args.at c.args.act c.args.number c.requires.formed c.requires.made c.requires.taken

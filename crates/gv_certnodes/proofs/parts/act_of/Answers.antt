use Rattle.std.proofs.lemmas.Option.{slice_get_within}
use Rattle.gv_scriptsyntax.specs.declared.node.Node.TheVariants.{Made}
use Rattle.gv_certnodes.proofs.parts.act_of.Goals as goal

pub node_at-requires : goal.node_at-requires
node_at-requires c = slice_get_within c.args.nodes.now c.args.at (Made c.requires.act c.requires.from) c.requires.node

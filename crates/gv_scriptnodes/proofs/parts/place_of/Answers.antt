use Rattle.gv_scriptnodes.proofs.Opened.{has_parts, made_within}
use Rattle.gv_scriptnodes.proofs.parts.place_of.Goals as goal

pub part_of-requires-clause-within : goal.part_of-requires-clause-within
part_of-requires-clause-within c = made_within c.args.nodes.now c.args.at c.args.act c.requires.made c.requires.behind_marks

pub part_of-requires-clause-enough : goal.part_of-requires-clause-enough
part_of-requires-clause-enough c = has_parts c.args.text.now c.args.nodes.now c.args.at c.args.act c.args.number c.requires.formed c.requires.made c.requires.behind_marks c.requires.taken

use Rattle.std.proofs.Common.{arith}
use Rattle.gv_commandnodes.proofs.generated.command_node.earlier_command_node.Goals as goal

pub unreachable-requires : goal.unreachable-requires
unreachable-requires c = let e = c.requires.among in grind (arith, e)

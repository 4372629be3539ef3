use Rattle.gv_typing.proofs.PlacedFaults.{ok_sorted, ok_closed, ok_faultless}
use Rattle.gv_typing.proofs.resolving.make_term.Goals as goal

pub returns-clause-sorted : goal.returns-clause-sorted
returns-clause-sorted c = ok_sorted c.args.scope.now c.args.term.now.term c.make_node.new.store c.make_node.result c.make_node.ensures.tree

pub returns-clause-closed : goal.returns-clause-closed
returns-clause-closed c = ok_closed c.args.scope.now c.args.term.now.term c.make_node.new.store c.make_node.result c.make_node.ensures.tree

pub returns-clause-faultless : goal.returns-clause-faultless
returns-clause-faultless c = ok_faultless c.args.scope.now c.args.term.now.term c.make_node.new.store c.make_node.result c.make_node.ensures.tree

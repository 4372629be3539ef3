use Rattle.gv_declnodes.proofs.ProcsActs.{proc_is}
use Rattle.gv_declnodes.proofs.generated.procs_node.proc_made.Goals as goal

pub returns : goal.returns
returns c = λ whole is. proc_is c.args.text.now c.args.nodes.now c.args.at c.place_of-procs.result c.token_of-name.result c.place_of-own.result c.place_of-vars.result c.place_of-pre.result c.place_of-results.result c.place_of-post.result c.place_of-block.result c.place_of-cuts.result c.requires.made c.place_of-procs.ensures c.token_of-name.ensures c.place_of-own.ensures c.place_of-vars.ensures c.place_of-pre.ensures c.place_of-results.ensures c.place_of-post.ensures c.place_of-block.ensures c.place_of-cuts.ensures whole is

use Rattle.gv_declnodes.proofs.ScriptActs.{script_is}
use Rattle.gv_declnodes.proofs.generated.script_node.script_made.Goals as goal

pub returns : goal.returns
returns c = λ whole is. script_is c.args.text.now c.args.nodes.now c.args.at c.place_of-books.result c.place_of-preds.result c.token_of-crash_word.result c.token_of-crash.result c.token_of-root_word.result c.token_of-root.result c.place_of-init.result c.place_of-recover.result c.place_of-cuts.result c.place_of-ops.result c.place_of-procs.result c.requires.made c.place_of-books.ensures c.place_of-preds.ensures c.token_of-crash_word.ensures c.token_of-crash.ensures c.token_of-root_word.ensures c.token_of-root.ensures c.place_of-init.ensures c.place_of-recover.ensures c.place_of-cuts.ensures c.place_of-ops.ensures c.place_of-procs.ensures whole is

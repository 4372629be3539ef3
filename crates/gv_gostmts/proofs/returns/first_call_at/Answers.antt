use Rattle.std.proofs.Common.{length, take, drop, get_or, ◌-◌, arith}
use Rattle.gv_gosimple.proofs.Splits.{head}
use Rattle.gv_gostmts.proofs.ReturnLemmas.{split, some_first, is_value_alone, is_call_alone}
use Rattle.gv_gostmts.proofs.returns.first_call_at.Goals as goal

pub right_node-requires-clause-some : goal.right_node-requires-clause-some
right_node-requires-clause-some c =
    let ps = c.args.places.now in
    some_first c.args.nodes.now ps (get_or ps 0 0) (take (length ps - 1) (drop 1 ps)) (head ps c.in-len1-up.len_at_least) c.requires.some

pub returns-in-Value : goal.returns-in-Value
returns-in-Value c = λ rs h n.
    let ps = c.args.places.now in
    let f = split c.args.nodes.now ps (get_or ps 0 0) (take (length ps - 1) (drop 1 ps)) rs (head ps c.in-len1-up.len_at_least) h in
    let m = c.in-Value.ensures f.of_first f.is in
    is_value_alone c.args.nodes.now ps (take (length ps - 1) (drop 1 ps)) (get_or ps 0 0) rs m.of_value n f m.made

pub returns-in-Result : goal.returns-in-Result
returns-in-Result c = λ rs h n.
    let ps = c.args.places.now in
    let f = split c.args.nodes.now ps (get_or ps 0 0) (take (length ps - 1) (drop 1 ps)) rs (head ps c.in-len1-up.len_at_least) h in
    is_call_alone c.args.nodes.now ps (take (length ps - 1) (drop 1 ps)) (get_or ps 0 0) c.in-Result.result rs (head ps c.in-len1-up.len_at_least) n f (c.in-Result.ensures f.of_first f.is)

pub returns-in-empty : goal.returns-in-empty
returns-in-empty c = λ rs h n. let k = c.in-empty.len_below in absurd (omega (arith, k, n))

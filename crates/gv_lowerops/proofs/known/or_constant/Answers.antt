use Rattle.gv_lowerops.proofs.Behind.{behind_none}
use Rattle.gv_lowerops.proofs.Wholes.{constant_is}
use Rattle.gv_lowerops.proofs.known.or_constant.Goals as goal

pub returns-in-Some-clause-tail : goal.returns-in-Some-clause-tail
returns-in-Some-clause-tail c = λ env e old t m h tail.
    let draft = c.args.made.tail.draft in
    constant_is env e old draft c.back_to.result c.args.mark t c.in-Some.value c.args.made.known c.args.made.tail.last m h tail c.in-Some.ensures
    (behind_none old draft c.back_to.result c.args.mark t.before t.temps m tail.behind c.back_to.ensures.cmds c.back_to.ensures.temps)

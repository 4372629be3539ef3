use Rattle.std.proofs.Common.{sym, ap, ◌∙◌}
use Rattle.gv_gosyntax.specs.declared.tree.Right.{Right as DeclaredRight}
use Rattle.gv_gotypes.specs.Trees.{right_of}
use Rattle.gv_gostmts.specs.Lists.{behind}
use Rattle.gv_gostmts.proofs.returns.left_behind.Goals as goal

pub returns-in-Value : goal.returns-in-Value
returns-in-Value c = λ r h. let m = c.in-Value.ensures r h in c.others.ensures ∙ sym (ap (λ (x : DeclaredRight). behind (right_of x) c.args.kinds.now) m.made)

pub returns-in-Result : goal.returns-in-Result
returns-in-Result c = λ r h. let m = c.in-Result.ensures r h in sym (ap (λ (x : DeclaredRight). behind (right_of x) c.args.kinds.now) m.made)

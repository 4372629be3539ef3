use Rattle.std.proofs.Common.{Bool, sym, subst}
use Rattle.std.specs.Prelude.{if◌then◌else◌}
use Rattle.gv_gosyntax.specs.declared.generated.gosyntax_table.TheConstants.{CLASS_DELETE}
use Rattle.gv_gotypes.specs.Trees.{expr_of}
use Rattle.gv_gotypes.specs.Calls.{delete_answer, append_answer}
use Rattle.gv_gocalls.specs.Answers.{IsThisAnswer}
use Rattle.gv_gocalls.proofs.FunctionLemmas.{equal, unequal}
use Rattle.gv_gocalls.proofs.calls.pair_at.Goals as goal

pub returns-then-word-eq-CLASS_DELETE : goal.returns-then-word-eq-CLASS_DELETE
returns-then-word-eq-CLASS_DELETE g c = λ a b h i.
    let env = g.N.Names.env c.args.names.now in
    subst (λ (x : Bool). IsThisAnswer c.delete_at.result c.args.word.start (if x then delete_answer env (expr_of a) (expr_of b) else append_answer env (expr_of a) (expr_of b)))
    (sym (equal c.args.word.class CLASS_DELETE c.if-word-eq-CLASS_DELETE.true)) (c.delete_at.ensures a b h i)

pub returns-else-word-eq-CLASS_DELETE : goal.returns-else-word-eq-CLASS_DELETE
returns-else-word-eq-CLASS_DELETE g c = λ a b h i.
    let env = g.N.Names.env c.args.names.now in
    subst (λ (x : Bool). IsThisAnswer c.append_at.result c.args.word.start (if x then delete_answer env (expr_of a) (expr_of b) else append_answer env (expr_of a) (expr_of b)))
    (sym (unequal c.args.word.class CLASS_DELETE c.if-word-eq-CLASS_DELETE.false)) (c.append_at.ensures a b h i)

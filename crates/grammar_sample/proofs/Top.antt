-- What the sample language owes to have its readers.
use Rattle.std.proofs.Common.{◌≡◌, List, refl}
use Rattle.gv_grammar.specs.Building.{act_of}
use Rattle.gv_grammar.proofs.Whole.{Laws}
use Rattle.grammar_sample.specs.declared.generated.sample_acts.Part.TheVariants.{Token as PToken, Expr as PExpr, Stmts as PStmts}
use Rattle.grammar_sample.specs.declared.generated.sample_table.TheConstants.{NAME_BLOCK, NAME_SUM}
use Rattle.grammar_sample.specs.declared.tree.Token.{Token}
use Rattle.grammar_sample.specs.declared.tree.Expr.{Expr}
use Rattle.grammar_sample.specs.declared.tree.Stmt.{Stmt}
use Rattle.grammar_sample.specs.SampleTable.{sample_tables}
use Rattle.grammar_sample.specs.SampleActs.{sample_acts}
use Rattle.grammar_sample.specs.Language.{IsBlock, IsExpression}
use Rattle.grammar_sample.proofs.SamplePredictive.{sample_predictive}
use Rattle.grammar_sample.proofs.Forward.{whole_reads, expression_reads}
use Rattle.grammar_sample.proofs.Backward.{whole_means, expression_means}

one_block : (a b : List Stmt) → PStmts a ≡ PStmts b → a ≡ b
one_block a b e = cc

one_expression : (a b : Expr) → PExpr a ≡ PExpr b → a ≡ b
one_expression a b e = cc

pub laws : Laws sample_tables NAME_BLOCK (λ (token : Token). token.class) PToken (act_of sample_acts) IsBlock PStmts
laws = record {
  may_begin = (sample_predictive, refl);
  token_for = λ class _. (record { class = class; value = 0 }, refl);
  one_tree = one_block;
  reads = whole_reads;
  means = whole_means;
}

pub sum_laws : Laws sample_tables NAME_SUM (λ (token : Token). token.class) PToken (act_of sample_acts) IsExpression PExpr
sum_laws = record {
  may_begin = (sample_predictive, refl);
  token_for = λ class _. (record { class = class; value = 0 }, refl);
  one_tree = one_expression;
  reads = expression_reads;
  means = expression_means;
}

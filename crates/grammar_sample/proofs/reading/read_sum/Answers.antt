use Rattle.std.proofs.Common.{refl, ◌∙◌}
use Rattle.gv_grammar.proofs.Whole.{read_fault, read_builds, read_found, read_only, read_within}
use Rattle.grammar_sample.specs.declared.reading.TheConstants.{MAX_LEVELS}
use Rattle.grammar_sample.proofs.Top.{sum_laws as laws}
use Rattle.grammar_sample.proofs.reading.read_sum.Goals as goal

pub build_expr-requires : goal.build_expr-requires
build_expr-requires c =
    let (tree, r) = read_builds laws 0 MAX_LEVELS c.sample_grammar.ensures.tables c.args.tokens.now (c.deref.ensures.value ∙ c.in_ok-classes.ensures) c.deref-in-Ok.ensures.value c.in-Ok.ensures.derived in
    rw r refl

pub returns-clause-fault : goal.returns-clause-fault
returns-clause-fault c = read_fault laws 0 MAX_LEVELS c.sample_grammar.ensures.tables c.args.tokens.now (c.deref.ensures.value ∙ c.in_ok-classes.ensures) _ c.in-Err.ensures.fault

pub returns-in-Ok-clause-found : goal.returns-in-Ok-clause-found
returns-in-Ok-clause-found c =
    read_found laws 0 MAX_LEVELS c.sample_grammar.ensures.tables c.args.tokens.now (c.deref.ensures.value ∙ c.in_ok-classes.ensures) c.deref-in-Ok.ensures.value c.in-Ok.ensures.derived c.in_ok-build_expr-in-Ok.ensures

pub returns-in-Ok-clause-within : goal.returns-in-Ok-clause-within
returns-in-Ok-clause-within c =
    read_within laws 0 MAX_LEVELS c.sample_grammar.ensures.tables c.args.tokens.now (c.deref.ensures.value ∙ c.in_ok-classes.ensures) c.deref-in-Ok.ensures.value c.in-Ok.ensures.derived c.in_ok-build_expr-in-Ok.ensures
    c.in-Ok.ensures.within

pub returns-in-Ok-clause-only : goal.returns-in-Ok-clause-only
returns-in-Ok-clause-only c =
    read_only laws 0 MAX_LEVELS c.sample_grammar.ensures.tables c.args.tokens.now (c.deref.ensures.value ∙ c.in_ok-classes.ensures) c.deref-in-Ok.ensures.value c.in-Ok.ensures.derived c.in_ok-build_expr-in-Ok.ensures

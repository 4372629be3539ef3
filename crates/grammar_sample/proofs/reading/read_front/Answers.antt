use Rattle.std.proofs.Common.{refl, ◌∙◌}
use Rattle.gv_grammar.proofs.Whole.{classes_of_front, before_front, run_fault, run_longest, read_builds, read_found, read_only, read_within}
use Rattle.grammar_sample.specs.declared.reading.TheConstants.{MAX_LEVELS}
use Rattle.grammar_sample.proofs.Top.{laws}
use Rattle.grammar_sample.proofs.reading.read_front.Goals as goal

pub build_stmts-requires : goal.build_stmts-requires
build_stmts-requires c =
    let classes = classes_of_front (λ token. token.class) c.in-Ok.run'.len c.args.tokens.now (c.deref.ensures.value ∙ c.in_ok-classes.ensures) in
    let (tree, r) = read_builds laws c.args.level MAX_LEVELS c.sample_grammar.ensures.tables _ classes c.deref-in-Ok.ensures.value c.in-Ok.ensures.derived in
    rw r refl

pub returns-clause-fault : goal.returns-clause-fault
returns-clause-fault c = run_fault laws c.args.level MAX_LEVELS c.sample_grammar.ensures.tables c.args.tokens.now (c.deref.ensures.value ∙ c.in_ok-classes.ensures) _ c.in-Err.ensures.fault

pub returns-in-Ok-clause-longest : goal.returns-in-Ok-clause-longest
returns-in-Ok-clause-longest c =
    run_longest laws c.args.level MAX_LEVELS c.sample_grammar.ensures.tables c.args.tokens.now (c.deref.ensures.value ∙ c.in_ok-classes.ensures) c.in-Ok.run'.len c.in-Ok.ensures.longest

pub returns-in-Ok-clause-found : goal.returns-in-Ok-clause-found
returns-in-Ok-clause-found c =
    let classes = classes_of_front (λ token. token.class) c.in-Ok.run'.len c.args.tokens.now (c.deref.ensures.value ∙ c.in_ok-classes.ensures) in
    read_found laws c.args.level MAX_LEVELS c.sample_grammar.ensures.tables _ classes c.deref-in-Ok.ensures.value c.in-Ok.ensures.derived c.in_ok-block-in-Ok.ensures

pub returns-in-Ok-clause-within : goal.returns-in-Ok-clause-within
returns-in-Ok-clause-within c =
    let classes = classes_of_front (λ token. token.class) c.in-Ok.run'.len c.args.tokens.now (c.deref.ensures.value ∙ c.in_ok-classes.ensures) in
    read_within laws c.args.level MAX_LEVELS c.sample_grammar.ensures.tables _ classes c.deref-in-Ok.ensures.value c.in-Ok.ensures.derived c.in_ok-block-in-Ok.ensures
    (before_front c.in-Ok.ensures.longest c.in-Ok.ensures.within)

pub returns-in-Ok-clause-only : goal.returns-in-Ok-clause-only
returns-in-Ok-clause-only c =
    let classes = classes_of_front (λ token. token.class) c.in-Ok.run'.len c.args.tokens.now (c.deref.ensures.value ∙ c.in_ok-classes.ensures) in
    read_only laws c.args.level MAX_LEVELS c.sample_grammar.ensures.tables _ classes c.deref-in-Ok.ensures.value c.in-Ok.ensures.derived c.in_ok-block-in-Ok.ensures

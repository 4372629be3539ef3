use Rattle.std.proofs.Common.{◌≤◌, length, refl, ◌∙◌}
use Rattle.gv_grammar.proofs.Whole.{classes_of_front, before_front, run_fault, run_longest, read_builds, read_found, read_within}
use Rattle.gv_termread.specs.declared.reading.TheConstants.{MAX_LEVELS}
use Rattle.gv_termread.proofs.Top.{term_laws}
use Rattle.gv_termread.proofs.reading.read_front.Goals as goal

pub build_term-requires : goal.build_term-requires
build_term-requires c =
    let laws = term_laws c.args.text.now in
    let classes = classes_of_front (λ token. token.class) c.in-Ok.run'.len c.args.tokens.now (c.deref.ensures.value ∙ c.in_ok-classes.ensures) in
    let (tree, r) = read_builds laws c.args.level MAX_LEVELS c.term_grammar.ensures.tables _ classes c.deref-in-Ok.ensures.value c.in-Ok.ensures.derived in
    rw r refl

pub returns-clause-fault : goal.returns-clause-fault
returns-clause-fault c =
    run_fault (term_laws c.args.text.now) c.args.level MAX_LEVELS c.term_grammar.ensures.tables c.args.tokens.now (c.deref.ensures.value ∙ c.in_ok-classes.ensures) _ c.in-Err.ensures.fault

pub returns-in-Ok-clause-read : goal.returns-in-Ok-clause-read
returns-in-Ok-clause-read c =
    let laws = term_laws c.args.text.now in
    let all = c.deref.ensures.value ∙ c.in_ok-classes.ensures in
    let classes = classes_of_front (λ token. token.class) c.in-Ok.run'.len c.args.tokens.now all in
    record {
      longest = run_longest laws c.args.level MAX_LEVELS c.term_grammar.ensures.tables c.args.tokens.now all c.in-Ok.run'.len c.in-Ok.ensures.longest;
      spelled = read_found laws c.args.level MAX_LEVELS c.term_grammar.ensures.tables _ classes c.deref-in-Ok.ensures.value c.in-Ok.ensures.derived c.in_ok-term-in-Ok.ensures;
      within = read_within laws c.args.level MAX_LEVELS c.term_grammar.ensures.tables _ classes c.deref-in-Ok.ensures.value c.in-Ok.ensures.derived c.in_ok-term-in-Ok.ensures
          (before_front c.in-Ok.ensures.longest c.in-Ok.ensures.within);
    }

use Rattle.std.proofs.Common.{refl, ◌∙◌}
use Rattle.gv_grammar.proofs.Whole.{read_builds, read_fault, read_found, read_within}
use Rattle.gv_termread.specs.declared.reading.TheConstants.{MAX_LEVELS}
use Rattle.gv_specread.proofs.Top.{spec_laws}
use Rattle.gv_specread.proofs.reading.read.Goals as goal

pub build_spec-requires : goal.build_spec-requires
build_spec-requires c =
    let (tree, r) = read_builds (spec_laws c.args.text.now) 0 MAX_LEVELS c.spec_grammar.ensures.tables c.args.tokens.now (c.deref.ensures.value ∙ c.in_ok-classes.ensures) c.deref-in-Ok.ensures.value c.in-Ok.ensures.derived in
    rw r refl

pub returns-clause-fault : goal.returns-clause-fault
returns-clause-fault c = read_fault (spec_laws c.args.text.now) 0 MAX_LEVELS c.spec_grammar.ensures.tables c.args.tokens.now (c.deref.ensures.value ∙ c.in_ok-classes.ensures) _ c.in-Err.ensures.fault

pub returns-in-Ok-clause-read : goal.returns-in-Ok-clause-read
returns-in-Ok-clause-read c =
    let laws = spec_laws c.args.text.now in
    let classes = c.deref.ensures.value ∙ c.in_ok-classes.ensures in
    record {
      spelled = read_found laws 0 MAX_LEVELS c.spec_grammar.ensures.tables c.args.tokens.now classes c.deref-in-Ok.ensures.value c.in-Ok.ensures.derived c.in_ok-build_spec-in-Ok.ensures;
      within = read_within laws 0 MAX_LEVELS c.spec_grammar.ensures.tables c.args.tokens.now classes c.deref-in-Ok.ensures.value c.in-Ok.ensures.derived c.in_ok-build_spec-in-Ok.ensures c.in-Ok.ensures.within;
    }

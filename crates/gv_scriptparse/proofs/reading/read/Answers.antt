use Rattle.std.proofs.Common.{refl, ◌∙◌}
use Rattle.gv_grammar.proofs.Whole.{read_builds, read_fault, read_found, read_within}
use Rattle.gv_termread.specs.declared.reading.TheConstants.{MAX_LEVELS}
use Rattle.gv_scriptsyntax.proofs.Nodes.{left_same}
use Rattle.gv_scriptparse.proofs.Top.{script_laws}
use Rattle.gv_scriptparse.proofs.reading.read.Goals as goal

pub returns-clause-fault : goal.returns-clause-fault
returns-clause-fault c = read_fault (script_laws c.args.text.now) 0 MAX_LEVELS c.script_grammar.ensures.tables c.args.tokens.now (c.deref.ensures.value ∙ c.in_ok-classes.ensures) _ c.in-Err.ensures.fault

pub nodes_of-requires : goal.nodes_of-requires
nodes_of-requires c =
    let built = read_builds (script_laws c.args.text.now) 0 MAX_LEVELS c.script_grammar.ensures.tables c.args.tokens.now (c.deref.ensures.value ∙ c.in_ok-classes.ensures) c.deref-in-Ok.ensures.value c.in-Ok.ensures.derived in
    rw (left_same c.args.text.now c.deref-in-Ok.result.now c.args.tokens.now, built.1) refl

pub returns-in-Ok-clause-read : goal.returns-in-Ok-clause-read
returns-in-Ok-clause-read c =
    let tables = c.script_grammar.ensures.tables in
    let classes = c.deref.ensures.value ∙ c.in_ok-classes.ensures in
    let steps = c.deref-in-Ok.ensures.value in
    let laws = script_laws c.args.text.now in
    let built = read_builds laws 0 MAX_LEVELS tables c.args.tokens.now classes steps c.in-Ok.ensures.derived in
    record {
      script = built.0;
      tree = record {
        whole = c.in_ok-nodes_of-in-Ok.ensures.made ∙ (left_same c.args.text.now c.deref-in-Ok.result.now c.args.tokens.now ∙ built.1);
        formed = c.in_ok-nodes_of-in-Ok.ensures.formed;
      };
      read = record {
        spelled = read_found laws 0 MAX_LEVELS tables c.args.tokens.now classes steps c.in-Ok.ensures.derived built.1;
        within = read_within laws 0 MAX_LEVELS tables c.args.tokens.now classes steps c.in-Ok.ensures.derived built.1 c.in-Ok.ensures.within;
      };
    }

use Rattle.std.proofs.Common.{◌-◌, false, length, sym, ap, ◌∙◌}
use Rattle.gv_scriptsyntax.specs.declared.tree.Script.{Script}
use Rattle.gv_scriptnodes.proofs.BlockActs.{script_is}
use Rattle.gv_scriptnodes.proofs.Whole.{act_script, last_part}
use Rattle.gv_scriptplaces.specs.Begun.{begun}
use Rattle.gv_scriptplaces.proofs.Whole.{script_begun, numbers_so}
use Rattle.gv_scriptplaces.proofs.numbers.numbered.Goals as goal

pub token_of-crash-requires-clause-made : goal.token_of-crash-requires-clause-made
token_of-crash-requires-clause-made c = act_script c.args.text.now c.args.nodes.now c.requires

pub token_of-root-requires-clause-made : goal.token_of-root-requires-clause-made
token_of-root-requires-clause-made c = act_script c.args.text.now c.args.nodes.now c.requires

pub returns : goal.returns
returns c = λ script is.
    let text = c.args.text.now in
    let nodes = c.args.nodes.now in
    let n = script_is text nodes (length nodes - 1) (act_script text nodes c.requires) script (last_part text nodes script is) in
    numbers_so script c.token_of-crash.result c.token_of-root.result (begun false nodes) c.in_ok-add_all.ensures c.in_ok-push-2.ensures.items c.in_ok-push.ensures.items c.new-starts.ensures.items
    (n.at_crash_word c.token_of-crash.result c.token_of-crash.ensures ∙ sym (ap (λ (s : Script). s.crash_word) n.made))
    (n.at_root_word c.token_of-root.result c.token_of-root.ensures ∙ sym (ap (λ (s : Script). s.root_word) n.made))
    (script_begun text nodes script is)

use Rattle.std.proofs.Common.{◌-◌, length, ◌∙◌}
use Rattle.gv_termread.specs.declared.generated.term_acts.Part.TheVariants.{Other as POther}
use Rattle.gv_scriptsyntax.specs.declared.generated.script_acts.ScriptPart.TheVariants.{Block as PBlock}
use Rattle.gv_scriptnodes.proofs.BlockActs.{script_is}
use Rattle.gv_scriptnodes.proofs.Whole.{act_script, last_part, outline_same}
use Rattle.gv_scriptnodes.proofs.outline.outline_of.Goals as goal

pub returns : goal.returns
returns c = λ script is.
    let text = c.args.text.now in
    let nodes = c.args.nodes.now in
    let n = script_is text nodes (length nodes - 1) (act_script text nodes c.requires) script (last_part text nodes script is) in
    outline_same script (record { books = n.books; preds = n.preds; crash_word = n.crash_word; crash = n.crash; root_word = n.root_word; root = n.root; init = n.init; recover = n.recover; cuts = n.cuts; ops = n.ops; procs = n.procs })
    c.from_vec.result c.from_vec-2.result c.token_of-crash.result c.token_of-root.result c.from_vec-3.result c.in_ok-recover.recover c.from_vec-4.result c.from_vec-5.result n.made
    (c.from_vec.ensures ∙ c.in_ok-books.ensures n.books (n.at_books c.place_of-books_at.result c.place_of-books_at.ensures))
    (c.from_vec-2.ensures ∙ c.in_ok-preds.ensures n.preds (n.at_preds c.place_of-preds_at.result c.place_of-preds_at.ensures))
    (n.at_crash c.token_of-crash.result c.token_of-crash.ensures)
    (n.at_root c.token_of-root.result c.token_of-root.ensures)
    (c.from_vec-3.ensures ∙ c.in_ok-init.ensures (POther (PBlock n.init)) (n.at_init c.place_of-init_at.result c.place_of-init_at.ensures))
    (c.in_ok-recover.ensures n.recover n.cuts (n.at_recover c.place_of-recover_at.result c.place_of-recover_at.ensures) (n.at_cuts c.place_of-cuts_at.result c.place_of-cuts_at.ensures))
    (c.from_vec-4.ensures ∙ c.in_ok-ops.ensures n.ops (n.at_ops c.place_of-ops_at.result c.place_of-ops_at.ensures))
    (c.from_vec-5.ensures ∙ c.in_ok-procs.ensures n.procs (n.at_procs c.place_of-procs_at.result c.place_of-procs_at.ensures))

pub place_of-books_at-requires-clause-made : goal.place_of-books_at-requires-clause-made
place_of-books_at-requires-clause-made c = act_script c.args.text.now c.args.nodes.now c.requires

pub place_of-preds_at-requires-clause-made : goal.place_of-preds_at-requires-clause-made
place_of-preds_at-requires-clause-made c = act_script c.args.text.now c.args.nodes.now c.requires

pub token_of-crash-requires-clause-made : goal.token_of-crash-requires-clause-made
token_of-crash-requires-clause-made c = act_script c.args.text.now c.args.nodes.now c.requires

pub token_of-root-requires-clause-made : goal.token_of-root-requires-clause-made
token_of-root-requires-clause-made c = act_script c.args.text.now c.args.nodes.now c.requires

pub place_of-init_at-requires-clause-made : goal.place_of-init_at-requires-clause-made
place_of-init_at-requires-clause-made c = act_script c.args.text.now c.args.nodes.now c.requires

pub place_of-recover_at-requires-clause-made : goal.place_of-recover_at-requires-clause-made
place_of-recover_at-requires-clause-made c = act_script c.args.text.now c.args.nodes.now c.requires

pub place_of-cuts_at-requires-clause-made : goal.place_of-cuts_at-requires-clause-made
place_of-cuts_at-requires-clause-made c = act_script c.args.text.now c.args.nodes.now c.requires

pub place_of-ops_at-requires-clause-made : goal.place_of-ops_at-requires-clause-made
place_of-ops_at-requires-clause-made c = act_script c.args.text.now c.args.nodes.now c.requires

pub place_of-procs_at-requires-clause-made : goal.place_of-procs_at-requires-clause-made
place_of-procs_at-requires-clause-made c = act_script c.args.text.now c.args.nodes.now c.requires

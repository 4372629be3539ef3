use Rattle.std.proofs.Common.{◌≡◌}
use Rattle.std.specs.Prelude.{option_map}
use Rattle.gv_termread.specs.declared.generated.term_acts.Part.TheVariants.{Other as POther}
use Rattle.gv_scriptsyntax.specs.declared.generated.script_acts.ScriptPart.TheVariants.{Items as PItems}
use Rattle.gv_scriptnames.specs.Mentions.{of_inst, in_items}
use Rattle.gv_scriptnames.specs.Outlines.{of_body}
use Rattle.gv_scriptnodes.proofs.BlockActs.{proc_is}
use Rattle.gv_scriptnodes.proofs.blocks.proc_at.Goals as goal

pub returns : goal.returns
returns c = λ whole is.
    let n = proc_is c.args.text.now c.args.nodes.now c.args.at c.requires.made whole is in
    let q_name : c.token_of-name.result ≡ n.name = n.at_name c.token_of-name.result c.token_of-name.ensures in
    let q_own : c.in_ok-own.own ≡ option_map of_inst n.own = c.in_ok-own.ensures n.own (n.at_own c.place_of-own_at.result c.place_of-own_at.ensures) in
    let q_vars : c.in_ok-vars.vars.items ≡ n.vars = c.in_ok-vars.ensures n.vars (n.at_vars c.place_of-vars_at.result c.place_of-vars_at.ensures) in
    let r_vars = c.from_vec.ensures in
    let q_pre : c.in_ok-pre.pre.items ≡ in_items n.pre = c.in_ok-pre.ensures (POther (PItems n.pre)) (n.at_pre c.place_of-pre_at.result c.place_of-pre_at.ensures) in
    let r_pre = c.from_vec-3.ensures in
    let q_results : c.in_ok-results.results.items ≡ n.results = c.in_ok-results.ensures n.results (n.at_results c.place_of-results_at.result c.place_of-results_at.ensures) in
    let r_results = c.from_vec-2.ensures in
    let q_post : c.in_ok-post.post.items ≡ in_items n.post = c.in_ok-post.ensures (POther (PItems n.post)) (n.at_post c.place_of-post_at.result c.place_of-post_at.ensures) in
    let r_post = c.from_vec-4.ensures in
    let q_body : c.in_ok-body.body ≡ of_body n.block n.cuts = c.in_ok-body.ensures n.block n.cuts (n.at_block c.place_of-block_at.result c.place_of-block_at.ensures) (n.at_cuts c.place_of-cuts_at.result c.place_of-cuts_at.ensures) in
    record { rest = n.procs; last = record { name = n.name; own = n.own; vars = n.vars; pre = n.pre; results = n.results; post = n.post; block = n.block; cuts = n.cuts }; left = n.at_procs; same = cc; made = n.made }

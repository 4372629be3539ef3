use Rattle.std.proofs.Common.{◌≡◌}
use Rattle.gv_termread.specs.declared.generated.term_acts.Part.TheVariants.{Other as POther}
use Rattle.gv_scriptsyntax.specs.declared.generated.script_acts.ScriptPart.TheVariants.{Items as PItems, Block as PBlock}
use Rattle.gv_scriptnames.specs.Mentions.{in_items, in_block}
use Rattle.gv_scriptnodes.proofs.BlockActs.{cut_is}
use Rattle.gv_scriptnodes.proofs.blocks.cut_at.Goals as goal

pub returns : goal.returns
returns c = λ whole is.
    let n = cut_is c.args.text.now c.args.nodes.now c.args.at c.requires.made whole is in
    let q_name : c.token_of-name.result ≡ n.name = n.at_name c.token_of-name.result c.token_of-name.ensures in
    let q_number : c.token_of-number.result ≡ n.number = n.at_number c.token_of-number.result c.token_of-number.ensures in
    let q_locals : c.in_ok-locals.locals.items ≡ n.locals = c.in_ok-locals.ensures n.locals (n.at_locals c.place_of-locals_at.result c.place_of-locals_at.ensures) in
    let r_locals = c.from_vec.ensures in
    let q_vars : c.in_ok-vars.vars.items ≡ n.vars = c.in_ok-vars.ensures n.vars (n.at_vars c.place_of-vars_at.result c.place_of-vars_at.ensures) in
    let r_vars = c.from_vec-2.ensures in
    let q_items : c.in_ok-items.items.items ≡ in_items n.items = c.in_ok-items.ensures (POther (PItems n.items)) (n.at_items c.place_of-items_at.result c.place_of-items_at.ensures) in
    let r_items = c.from_vec-3.ensures in
    let q_block : c.in_ok-block.block.items ≡ in_block n.block = c.in_ok-block.ensures (POther (PBlock n.block)) (n.at_block c.place_of-block_at.result c.place_of-block_at.ensures) in
    let r_block = c.from_vec-4.ensures in
    record {
      rest = n.cuts;
      last = record { name = n.name; number = n.number; mode = n.mode; locals = n.locals; vars = n.vars; items = n.items; block = n.block };
      left = n.at_cuts;
      same = cc;
      made = n.made;
    }

use Rattle.std.proofs.Common.{◌≡◌}
use Rattle.std.specs.Prelude.{map}
use Rattle.gv_termread.specs.declared.generated.term_acts.Part.TheVariants.{Other as POther}
use Rattle.gv_scriptsyntax.specs.declared.generated.script_acts.ScriptPart.TheVariants.{Block as PBlock}
use Rattle.gv_scriptnames.specs.Mentions.{in_block}
use Rattle.gv_scriptnames.specs.Outlines.{of_cut}
use Rattle.gv_scriptnodes.proofs.blocks.body_of.Goals as goal

pub returns : goal.returns
returns c = λ block cuts block_is cuts_are.
    let q_block : c.in_ok-block.block.items ≡ in_block block = c.in_ok-block.ensures (POther (PBlock block)) block_is in
    let q_cuts : c.in_ok-cuts.cuts.items ≡ map of_cut cuts = c.in_ok-cuts.ensures cuts cuts_are in
    let r_block = c.from_vec.ensures in
    let r_cuts = c.from_vec-2.ensures in
    cc

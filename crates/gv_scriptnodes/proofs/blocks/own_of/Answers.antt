use Rattle.gv_termread.specs.declared.generated.term_acts.Part.TheVariants.{Other as POther}
use Rattle.gv_scriptsyntax.specs.declared.generated.script_acts.ScriptPart.TheVariants.{MaybeInst as PMaybeInst}
use Rattle.gv_scriptnodes.proofs.Owns.{own_first}
use Rattle.gv_scriptnodes.proofs.blocks.own_of.Goals as goal

pub returns : goal.returns
returns c = λ own is.
    let q = own_first own c.in_ok-mentions.mentions.items (c.in_ok-mentions.ensures (POther (PMaybeInst own)) is) in
    let e = c.first.ensures in
    let f = c.copied.ensures in
    cc

use Rattle.std.proofs.Common.{◌∙◌, sym}
use Rattle.gv_top.proofs.CommandLemmas.{last_is}
use Rattle.gv_top.proofs.commands.asks_for_json.Goals as goal

pub returns-in-Some : goal.returns-in-Some
returns-in-Some c = c.eq.ensures ∙ rw c.as_str.ensures.value (sym (last_is c.args.words.now c.in-Some.word.now c.in-Some.ensures.value))

use Rattle.std.proofs.Common.{sym, ◌∙◌}
use Rattle.gv_top.proofs.CommandLemmas.{cut_off}
use Rattle.gv_top.proofs.commands.own_words.Goals as goal

pub returns-then-asks_for_json : goal.returns-then-asks_for_json
returns-then-asks_for_json c = cut_off c.args.words.now (sym c.asks_for_json.ensures ∙ c.if-asks_for_json.true)

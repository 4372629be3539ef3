use Rattle.std.proofs.Common.{◌∙◌, rules}
use Rattle.gv_store.proofs.Bytes.{eight}
use Rattle.gv_store.proofs.access.word_of.Goals as goal

pub returns : goal.returns
returns c = c.from_le_bytes.ensures ∙ eight c.args.bytes (search rules)

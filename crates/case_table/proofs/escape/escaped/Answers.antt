use Rattle.case_table.proofs.EscapeLemmas.{named_first}
use Rattle.case_table.proofs.escape.escaped.Goals as goal

pub returns : goal.returns
returns c = named_first c.args.behind.now c.in_ok-byte.byte c.in-len1-up.len_at_least c.in_ok-byte.ensures

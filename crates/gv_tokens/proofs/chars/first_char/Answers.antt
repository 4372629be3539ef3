use Rattle.gv_tokens.proofs.AsciiChars.{ascii_start}
use Rattle.gv_tokens.proofs.chars.first_char.Goals as goal

pub returns-then-lead-lt128-clause-value : goal.returns-then-lead-lt128-clause-value
returns-then-lead-lt128-clause-value c = ascii_start c.args.text.now c.in-len1-up.len_at_least c.if-lead-lt128.true

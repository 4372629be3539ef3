use Rattle.std.proofs.Common.{◌≡◌, ◌++◌, drop}
use Rattle.gv_gotokens.specs.Indexed.{starts_of}
use Rattle.gv_gotokens.proofs.starts.starts_in.Given as goal

abbrev pub invariant-loop-token : goal.invariant-loop-token
invariant-loop-token l = l.starts.items ++ starts_of l.class (drop l.token-index l.tokens) ≡ starts_of l.class l.tokens

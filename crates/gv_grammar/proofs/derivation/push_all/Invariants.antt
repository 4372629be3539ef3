use Rattle.std.proofs.Common.{◌≡◌, ◌++◌, reverse}
use Rattle.gv_grammar.proofs.derivation.push_all.Given as goal

-- what is left and the stack are the symbols and the stack that was
abbrev pub invariant-loop-symbol : goal.invariant-loop-symbol
invariant-loop-symbol l = l.symbol-iterator.iter.rest.now ++ reverse l.stack.items ≡ l.symbols ++ reverse l.fn.stack.items

use Rattle.std.proofs.Common.{sym, ◌∙◌, arith}
use Rattle.std.proofs.lemmas.Bool.{lt-ltb, le-leb}
use Rattle.gv_words.specs.Words.{words}
use Rattle.gv_machine.proofs.arguments.is_word.Goals as goal

pub returns : goal.returns
returns c = le-leb c.args.n 18446744073709551615 (omega arith) ∙ sym (lt-ltb c.args.n words (omega arith))

use Rattle.std.proofs.Common.{◌≡◌, take, true}
use Rattle.std.specs.List.{list_all}
use Rattle.gv_small.specs.Tokens as spec
use Rattle.gv_small.proofs.cursor.word_length.Given as goal

abbrev pub invariant-loop-count : goal.invariant-loop-count
invariant-loop-count l = list_all spec.is_word_byte (take l.count l.text) ≡ true

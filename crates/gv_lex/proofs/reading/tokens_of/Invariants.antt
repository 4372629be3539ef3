use Rattle.std.proofs.Common.{◌-◌, length}
use Rattle.gv_text.proofs.Cuts.{HasReadTo}
use Rattle.gv_lex.specs.Layout.{laid}
use Rattle.gv_lex.specs.Reading.{own}
use Rattle.gv_lex.proofs.reading.tokens_of.Given as goal

abbrev pub invariant-loop-at : goal.invariant-loop-at
invariant-loop-at l = HasReadTo own l.text l.at (laid l.at) l.out.items

abbrev pub decreases-loop-at : goal.decreases-loop-at
decreases-loop-at l = length l.text - l.at

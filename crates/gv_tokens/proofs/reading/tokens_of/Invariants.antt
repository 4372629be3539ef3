use Rattle.std.proofs.Common.{◌-◌, length}
use Rattle.gv_text.proofs.Cuts.{HasReadTo}
use Rattle.gv_tokens.specs.Layout.{laid}
use Rattle.gv_tokens.specs.Reading.{go}
use Rattle.gv_tokens.proofs.reading.tokens_of.Given as goal

abbrev pub invariant-loop-at : goal.invariant-loop-at
invariant-loop-at l = HasReadTo go l.text l.at (laid l.at l.pending) l.out.items

abbrev pub decreases-loop-at : goal.decreases-loop-at
decreases-loop-at l = length l.text - l.at

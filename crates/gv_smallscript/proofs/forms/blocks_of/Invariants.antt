use Rattle.std.proofs.Common.{◌++◌, List, length}
use Rattle.gv_smallscript.specs.declared.forms.SmallBlock.{SmallBlock}
use Rattle.gv_smallscript.specs.SmallScript.{AreBlocks}
use Rattle.gv_smallscript.proofs.Blocks.{AreBehind}
use Rattle.gv_smallscript.proofs.forms.blocks_of.Given as goal

-- the blocks so far, and those of the tokens that are left
abbrev pub invariant-loop-left : goal.invariant-loop-left
invariant-loop-left l = record {
  found : (bs : List SmallBlock) → AreBlocks l.text bs l.left → AreBlocks l.text (l.blocks ++ bs) l.tokens;
  only : (bs : List SmallBlock) → AreBlocks l.text bs l.tokens → AreBehind l.text l.blocks l.left bs;
}

abbrev pub decreases-loop-left : goal.decreases-loop-left
decreases-loop-left l = length l.left

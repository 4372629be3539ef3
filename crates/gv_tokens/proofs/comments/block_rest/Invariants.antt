use Rattle.std.proofs.Common.{◌≡◌, ◌+◌, drop}
use Rattle.gv_tokens.specs.Comments.{block_rest}
use Rattle.gv_tokens.proofs.comments.block_rest.Given as goal

abbrev pub invariant-loop-i : goal.invariant-loop-i
invariant-loop-i l = l.i + block_rest (drop l.i l.text) ≡ block_rest l.text

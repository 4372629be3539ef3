use Rattle.std.proofs.Common.{◌≡◌, ◌∙◌, true}
use Rattle.std.specs.Prelude.{not}
use Rattle.gv_small.specs.Cursor.{tokens_left}
use Rattle.gv_small.proofs.Many.{joined_turn}
use Rattle.gv_top.specs.Reading as reading
use Rattle.gv_top.proofs.ScriptLemmas.{block_shrinks, something}
use Rattle.gv_top.proofs.small_script.blocks.Goals as goal

pub loop-alloc-smaller : goal.loop-alloc-smaller
loop-alloc-smaller c = block_shrinks (tokens_left c.loop-alloc.cursor) c.in_ok-block.block (tokens_left c.block.new.cursor) c.in_ok-block.ensures.ok

pub loop-alloc-preserved : goal.loop-alloc-preserved
loop-alloc-preserved c =
    let before = tokens_left c.loop-alloc.cursor in
    let there : not (reading.is_nothing before) ≡ true = something before c.is_at_end.result c.is_at_end.ensures c.loop-alloc-test.true in
    joined_turn reading.is_nothing reading.block block_shrinks c.loop-alloc.ops c.push.new.self before (tokens_left c.block.new.cursor) c.in_ok-block.block there c.in_ok-block.ensures.ok c.in_ok-push.ensures.ok
    ∙ c.loop-alloc.invariant

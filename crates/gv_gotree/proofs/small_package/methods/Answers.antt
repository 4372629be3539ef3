use Rattle.std.proofs.Common.{◌∙◌, sym, arith, true, ◌≡◌}
use Rattle.std.specs.Prelude.{not}
use Rattle.std.proofs.lemmas.Grind.{common_steps}
use Rattle.gv_small.specs.Cursor.{kinds_left}
use Rattle.gv_small.proofs.Many.{joined_turn}
use Rattle.gv_gotree.specs.Reading as reading
use Rattle.gv_gotree.proofs.PackageLemmas.{method_shrinks, something}
use Rattle.gv_gotree.proofs.small_package.methods.Goals as goal

pub loop-alloc-smaller : goal.loop-alloc-smaller
loop-alloc-smaller c = method_shrinks c.args.type_name.now (kinds_left c.loop-alloc.cursor) c.in_ok-op.op (kinds_left c.method.new.cursor) c.in_ok-op.ensures.ok

pub loop-alloc-preserved : goal.loop-alloc-preserved
loop-alloc-preserved c =
    let t = c.args.type_name.now in
    let before = kinds_left c.loop-alloc.cursor in
    let there : not (reading.is_nothing before) ≡ true = something before c.is_at_end.result c.is_at_end.ensures c.loop-alloc-test.true in
    joined_turn reading.is_nothing (reading.method t) (method_shrinks t) c.loop-alloc.ops c.push.new.self before (kinds_left c.method.new.cursor) c.in_ok-op.op there c.in_ok-op.ensures.ok c.in_ok-push.ensures.ok
    ∙ c.loop-alloc.invariant

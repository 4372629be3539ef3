use Rattle.std.proofs.Common.{◌∙◌, sym, arith}
use Rattle.std.proofs.lemmas.Grind.{common_steps}
use Rattle.gv_small.specs.Cursor.{kinds_left}
use Rattle.gv_small.specs.Reading.{no_turn, turn}
use Rattle.gv_small.proofs.Many.{joined_turn}
use Rattle.gv_small.proofs.FormLemmas.{turn_shrinks}
use Rattle.gv_small.proofs.sum_reader.turns.Goals as goal

pub loop-alloc-preserved : goal.loop-alloc-preserved
loop-alloc-preserved c =
    let params = c.args.params.now.keys in
    joined_turn no_turn (turn params) (turn_shrinks params) c.loop-alloc.rest c.push.new.self (kinds_left c.loop-alloc.cursor) (kinds_left c.turn.new.cursor) c.in_ok-turn.turn
    (sym c.is_before_turn.ensures ∙ c.loop-alloc-test.true) c.in_ok-turn.ensures.ok c.in_ok-push.ensures.ok
    ∙ c.loop-alloc.invariant

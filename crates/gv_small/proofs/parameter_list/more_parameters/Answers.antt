use Rattle.std.proofs.Common.{◌≡◌, true, ◌∷◌, [], ◌++◌, ◌∙◌, sym, ap, arith}
use Rattle.std.specs.Prelude.{not}
use Rattle.gv_small.specs.Cursor.{kinds_left}
use Rattle.gv_small.specs.Reading.{no_comma, next_parameter, begins_with_sign}
use Rattle.gv_small.specs.Tokens.{plain}
use Rattle.gv_small.proofs.Many.{joined_turn, not_not}
use Rattle.gv_small.proofs.FormLemmas.{next_shrinks}
use Rattle.std.proofs.lemmas.Grind.{common_steps}
use Rattle.gv_small.proofs.parameter_list.more_parameters.Goals as goal

pub loop-alloc-preserved : goal.loop-alloc-preserved
loop-alloc-preserved c =
    let kind = plain c.args.kind.now in
    let before = kinds_left c.loop-alloc.cursor in
    let comma : not (no_comma before) ≡ true = not_not (begins_with_sign 44 before) ∙ sym c.begins_with_sign.ensures ∙ c.loop-alloc-test.true in
    record {
      joined = joined_turn no_comma (next_parameter kind) (next_shrinks kind) c.loop-alloc.names c.push.new.self before (kinds_left c.next_parameter.new.cursor) c.in_ok-name.name.now comma c.in_ok-name.ensures.ok (grind (arith, common_steps)) ∙ c.loop-alloc.invariant.joined;
      count = grind (arith, common_steps);
    }

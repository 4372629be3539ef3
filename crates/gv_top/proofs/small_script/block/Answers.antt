use Rattle.std.proofs.Common.{refl}
use Rattle.std.specs.Prelude.{codes}
use Rattle.gv_small.specs.Cursor.{kinds_left, tokens_left}
use Rattle.gv_small.specs.Tokens.{plain}
use Rattle.gv_small.specs.Forms.{is_operation_name}
use Rattle.gv_small.specs.Reading.{behind_all, word_at}
use Rattle.gv_small.proofs.WordLemmas.{err_kept}
use Rattle.gv_top.specs.Reading as reading
use Rattle.gv_top.proofs.ScriptLemmas.{placed_none, word_none}
use Rattle.gv_top.proofs.small_script.block.Goals as goal

pub returns-in_err-expect-clause-err : goal.returns-in_err-expect-clause-err
returns-in_err-expect-clause-err c =
    let before = tokens_left c.args.cursor.now in
    err_kept c.from_residual.result c.in_err-expect.field-0.0 (behind_all (plain (codes "op")) (kinds_left c.args.cursor.now)) (reading.block before)
    c.from_residual.ensures.1 c.in_err-expect.ensures.err (λ e. rw (placed_none (plain (codes "op")) before e) refl)

pub returns-in_err-name-clause-err : goal.returns-in_err-name-clause-err
returns-in_err-name-clause-err c =
    err_kept c.from_residual-in_err-name.result c.in_err-name.field-0.0 (word_at is_operation_name (kinds_left c.expect.new.cursor)) (reading.block (tokens_left c.args.cursor.now))
    c.from_residual-in_err-name.ensures.1 c.in_err-name.ensures.err (λ e. rw (c.in_ok-expect.ensures.placed, word_none is_operation_name (tokens_left c.expect.new.cursor) e) refl)

pub returns-in_err-expect-2-clause-err : goal.returns-in_err-expect-2-clause-err
returns-in_err-expect-2-clause-err c =
    let middle = codes "{ open; sim me; close;" in
    err_kept c.from_residual-in_err-expect-2.result c.in_err-expect-2.field-0.0 (behind_all (plain middle) (kinds_left c.operation_name.new.cursor)) (reading.block (tokens_left c.args.cursor.now))
    c.from_residual-in_err-expect-2.ensures.1 c.in_err-expect-2.ensures.err
    (λ e. rw (c.in_ok-expect.ensures.placed, c.in_ok-name.ensures.placed, placed_none (plain middle) (tokens_left c.operation_name.new.cursor) e) refl)

pub returns-in_err-step-clause-err : goal.returns-in_err-step-clause-err
returns-in_err-step-clause-err c =
    err_kept c.from_residual-in_err-step.result c.in_err-step.field-0.0 (reading.place_at (codes "step") (tokens_left c.expect-2.new.cursor)) (reading.block (tokens_left c.args.cursor.now))
    c.from_residual-in_err-step.ensures.1 c.in_err-step.ensures.err (λ e. rw (c.in_ok-expect.ensures.placed, c.in_ok-name.ensures.placed, c.in_ok-expect-2.ensures.placed, e) refl)

pub returns-in_err-expect-3-clause-err : goal.returns-in_err-expect-3-clause-err
returns-in_err-expect-3-clause-err c =
    err_kept c.from_residual-in_err-expect-3.result c.in_err-expect-3.field-0.0 (behind_all (plain (codes "; }")) (kinds_left c.step_place.new.cursor)) (reading.block (tokens_left c.args.cursor.now))
    c.from_residual-in_err-expect-3.ensures.1 c.in_err-expect-3.ensures.err
    (λ e. rw (c.in_ok-expect.ensures.placed, c.in_ok-name.ensures.placed, c.in_ok-expect-2.ensures.placed, c.in_ok-step.ensures.ok, placed_none (plain (codes "; }")) (tokens_left c.step_place.new.cursor) e) refl)

pub returns-clause-ok : goal.returns-clause-ok
returns-clause-ok c =
    rw (c.in_ok-expect.ensures.placed, c.in_ok-name.ensures.placed, c.in_ok-expect-2.ensures.placed, c.in_ok-step.ensures.ok, c.in_ok-expect-3.ensures.placed, c.in_ok-from_slice.ensures) refl

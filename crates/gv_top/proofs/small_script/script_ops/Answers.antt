use Rattle.std.proofs.Common.{refl}
use Rattle.gv_small.specs.Cursor.{kinds_left, tokens_left}
use Rattle.gv_small.specs.Tokens.{plain}
use Rattle.gv_small.specs.Reading.{behind_all}
use Rattle.gv_small.proofs.WordLemmas.{err_kept}
use Rattle.gv_top.specs.SmallScript.{declarations}
use Rattle.gv_top.specs.Reading as reading
use Rattle.gv_top.proofs.ScriptLemmas.{placed_none}
use Rattle.gv_top.proofs.small_script.script_ops.Goals as goal

pub returns-in_err-expect-clause-err : goal.returns-in_err-expect-clause-err
returns-in_err-expect-clause-err c =
    let before = tokens_left c.args.cursor.now in
    err_kept c.from_residual.result c.in_err-expect.field-0.0 (behind_all (plain declarations) (kinds_left c.args.cursor.now)) (reading.script_ops before)
    c.from_residual.ensures.1 c.in_err-expect.ensures.err (λ e. rw (placed_none (plain declarations) before e) refl)

pub returns-in_err-ops-clause-err : goal.returns-in_err-ops-clause-err
returns-in_err-ops-clause-err c =
    err_kept c.from_residual-in_err-ops.result c.in_err-ops.field-0.0 (reading.blocks (tokens_left c.expect.new.cursor)) (reading.script_ops (tokens_left c.args.cursor.now))
    c.from_residual-in_err-ops.ensures.1 c.in_err-ops.ensures.err (λ e. rw (c.in_ok-expect.ensures.placed, e) refl)

pub returns-clause-ok : goal.returns-clause-ok
returns-clause-ok c = rw (c.in_ok-expect.ensures.placed, c.in_ok-ops.ensures.ok) refl

use Rattle.gv_small.specs.Cursor.{tokens_left}
use Rattle.gv_top.specs.Reading as reading
use Rattle.gv_top.proofs.ScriptLemmas.{script_found, script_only, script_read, err_not_read}
use Rattle.gv_top.proofs.small_script.read_small_script.Goals as goal

pub returns-clause-found : goal.returns-clause-found
returns-clause-found c = script_found c.args.text.now (tokens_left c.new-cursor.result) c.in_ok-ops.ops c.new-cursor.ensures.tokens c.in_ok-ops.ensures.ok

pub returns-clause-only : goal.returns-clause-only
returns-clause-only c = λ script s. script_only c.args.text.now (tokens_left c.new-cursor.result) c.in_ok-ops.ops script c.new-cursor.ensures.tokens c.in_ok-ops.ensures.ok s

pub returns-in_err-ops-clause-only : goal.returns-in_err-ops-clause-only
returns-in_err-ops-clause-only c = λ script s.
    let read = script_read c.args.text.now (tokens_left c.new-cursor.result) script c.new-cursor.ensures.tokens s in
    err_not_read (reading.script_ops (tokens_left c.new-cursor.result)) script c.from_residual.result c.in_err-ops.field-0.0 c.from_residual.ensures.1 c.in_err-ops.ensures.err read

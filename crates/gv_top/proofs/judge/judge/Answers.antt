use Rattle.std.proofs.Common.{refl}
use Rattle.gv_top.specs.Files.{outside}
use Rattle.gv_top.specs.Forms.{written_specs, histories_of}
use Rattle.gv_top.proofs.CheckLemmas.{then_on, then_halts, opens_later, halts_later}
use Rattle.gv_top.proofs.CountLemmas.{searched}
use Rattle.gv_top.proofs.FilesLemmas.{err_is}
use Rattle.gv_top.proofs.JudgeExact.{First, Last}
use Rattle.gv_top.proofs.judge.judge.Goals as goal

pub returns-in_err-history-clause-outcome : goal.returns-in_err-history-clause-outcome
returns-in_err-history-clause-outcome g c =
    let first = g.F.Files.held c.args.files.now in
    let second = g.F.Files.held c.read_file.new.files in
    let names = c.args.names.now in
    let s = c.in_ok-spec.spec in
    let halt = c.in_err-history.field-0.0 in
    then_on (outside first) written_specs names.spec.now (First (outside first) names.history.now names.most) s c.in_ok-spec.ensures.value
    (then_halts (outside first) (histories_of s) names.history.now (Last names.most s) halt
    (err_is c.from_residual-in_err-history.result halt c.from_residual-in_err-history.ensures.1)
    (halts_later first second c.in_ok-spec.ensures.kept (histories_of s) names.history.now halt _ _ c.in_err-history.ensures.value))

pub judged-requires-clause-few : goal.judged-requires-clause-few
judged-requires-clause-few g c = searched (outside (g.F.Files.held c.read_file.new.files)) c.in_ok-spec.spec c.args.names.now.history.now c.in_ok-history.history c.in_ok-history.ensures.value.0

pub returns-clause-outcome : goal.returns-clause-outcome
returns-clause-outcome g c =
    let first = g.F.Files.held c.args.files.now in
    let second = g.F.Files.held c.read_file.new.files in
    let names = c.args.names.now in
    let s = c.in_ok-spec.spec in
    let history = c.in_ok-history.history in
    then_on (outside first) written_specs names.spec.now (First (outside first) names.history.now names.most) s c.in_ok-spec.ensures.value
    (then_on (outside first) (histories_of s) names.history.now (Last names.most s) history
    (opens_later first second c.in_ok-spec.ensures.kept (histories_of s) names.history.now history _ _ c.in_ok-history.ensures.value) (c.judged.ensures, refl))

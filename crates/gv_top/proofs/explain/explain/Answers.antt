use Rattle.std.proofs.Common.{◌≡◌, ◌∙◌, ℕ, List, refl}
use Rattle.gv_top.specs.Files.{outside}
use Rattle.gv_top.specs.Forms.{written_specs, histories_of, moves_of}
use Rattle.gv_top.proofs.CheckLemmas.{then_on, then_halts, opens_later, halts_later}
use Rattle.gv_top.proofs.CountLemmas.{numbered}
use Rattle.gv_top.proofs.ExplainExact.{First, Next, Last}
use Rattle.gv_top.proofs.FilesLemmas.{err_is}
use Rattle.gv_top.proofs.explain.explain.Goals as goal

pub returns-in_err-history-clause-outcome : goal.returns-in_err-history-clause-outcome
returns-in_err-history-clause-outcome g c =
    let first = g.F.Files.held c.args.files.now in
    let second = g.F.Files.held c.read_file.new.files in
    let names = c.args.names.now in
    let s = c.in_ok-spec.spec in
    let halt = c.in_err-history.field-0.0 in
    then_on (outside first) written_specs names.spec.now (First (outside first) names.history.now names.moves.now) s c.in_ok-spec.ensures.value
    (then_halts (outside first) (histories_of s) names.history.now (Next (outside first) names.moves.now s) halt
    (err_is c.from_residual-in_err-history.result halt c.from_residual-in_err-history.ensures.1)
    (halts_later first second c.in_ok-spec.ensures.kept (histories_of s) names.history.now halt _ _ c.in_err-history.ensures.value))

pub walked-requires-clause-few : goal.walked-requires-clause-few
walked-requires-clause-few g c = numbered (outside (g.F.Files.held c.read_file-2.new.files)) c.in_ok-spec.spec c.args.names.now.moves.now c.in_ok-moves.moves c.in_ok-moves.ensures.value.0

pub returns-in_err-moves-clause-outcome : goal.returns-in_err-moves-clause-outcome
returns-in_err-moves-clause-outcome g c =
    let first = g.F.Files.held c.args.files.now in
    let second = g.F.Files.held c.read_file.new.files in
    let third = g.F.Files.held c.read_file-2.new.files in
    let names = c.args.names.now in
    let s = c.in_ok-spec.spec in
    let history = c.in_ok-history.history in
    let kept : (n : List ℕ) → third n ≡ first n = λ n. c.in_ok-history.ensures.kept n ∙ c.in_ok-spec.ensures.kept n in
    let halt = c.in_err-moves.field-0.0 in
    then_on (outside first) written_specs names.spec.now (First (outside first) names.history.now names.moves.now) s c.in_ok-spec.ensures.value
    (then_on (outside first) (histories_of s) names.history.now (Next (outside first) names.moves.now s) history
    (opens_later first second c.in_ok-spec.ensures.kept (histories_of s) names.history.now history _ _ c.in_ok-history.ensures.value)
    (then_halts (outside first) (moves_of s) names.moves.now (Last s history.items) halt
    (err_is c.from_residual-in_err-moves.result halt c.from_residual-in_err-moves.ensures.1)
    (halts_later first third kept (moves_of s) names.moves.now halt _ _ c.in_err-moves.ensures.value)))

pub returns-clause-outcome : goal.returns-clause-outcome
returns-clause-outcome g c =
    let first = g.F.Files.held c.args.files.now in
    let second = g.F.Files.held c.read_file.new.files in
    let third = g.F.Files.held c.read_file-2.new.files in
    let names = c.args.names.now in
    let s = c.in_ok-spec.spec in
    let history = c.in_ok-history.history in
    let moves = c.in_ok-moves.moves in
    let kept : (n : List ℕ) → third n ≡ first n = λ n. c.in_ok-history.ensures.kept n ∙ c.in_ok-spec.ensures.kept n in
    then_on (outside first) written_specs names.spec.now (First (outside first) names.history.now names.moves.now) s c.in_ok-spec.ensures.value
    (then_on (outside first) (histories_of s) names.history.now (Next (outside first) names.moves.now s) history
    (opens_later first second c.in_ok-spec.ensures.kept (histories_of s) names.history.now history _ _ c.in_ok-history.ensures.value)
    (then_on (outside first) (moves_of s) names.moves.now (Last s history.items) moves
    (opens_later first third kept (moves_of s) names.moves.now moves _ _ c.in_ok-moves.ensures.value) (c.walked.ensures, refl)))

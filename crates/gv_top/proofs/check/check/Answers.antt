use Rattle.std.proofs.Common.{◌≡◌, ◌∙◌, ℕ, List, refl}
use Rattle.gv_top.specs.Files.{outside}
use Rattle.gv_top.specs.Forms.{packages, specs_for, scripts_for}
use Rattle.gv_top.proofs.CheckExact.{First, Next, Last}
use Rattle.gv_top.proofs.CheckLemmas.{then_on, then_halts, opens_later, halts_later}
use Rattle.gv_top.proofs.FilesLemmas.{err_is}
use Rattle.gv_top.proofs.check.check.Goals as goal

pub returns-in_err-spec-clause-outcome : goal.returns-in_err-spec-clause-outcome
returns-in_err-spec-clause-outcome g c =
    let first = g.F.Files.held c.args.files.now in
    let second = g.F.Files.held c.read_file.new.files in
    let names = c.args.names.now in
    let program = c.in_ok-package.package in
    let halt = c.in_err-spec.field-0.0 in
    then_on (outside first) packages names.package.now (First (outside first) names.spec.now names.script.now) program c.in_ok-package.ensures.value
    (then_halts (outside first) (specs_for program) names.spec.now (Next (outside first) names.script.now program) halt
    (err_is c.from_residual-in_err-spec.result halt c.from_residual-in_err-spec.ensures.1)
    (halts_later first second c.in_ok-package.ensures.kept (specs_for program) names.spec.now halt _ _ c.in_err-spec.ensures.value))

pub returns-in_err-script-clause-outcome : goal.returns-in_err-script-clause-outcome
returns-in_err-script-clause-outcome g c =
    let first = g.F.Files.held c.args.files.now in
    let second = g.F.Files.held c.read_file.new.files in
    let third = g.F.Files.held c.read_file-2.new.files in
    let names = c.args.names.now in
    let program = c.in_ok-package.package in
    let small = c.in_ok-spec.spec in
    let kept : (n : List ℕ) → third n ≡ first n = λ n. c.in_ok-spec.ensures.kept n ∙ c.in_ok-package.ensures.kept n in
    let halt = c.in_err-script.field-0.0 in
    then_on (outside first) packages names.package.now (First (outside first) names.spec.now names.script.now) program c.in_ok-package.ensures.value
    (then_on (outside first) (specs_for program) names.spec.now (Next (outside first) names.script.now program) small
    (opens_later first second c.in_ok-package.ensures.kept (specs_for program) names.spec.now small _ _ c.in_ok-spec.ensures.value)
    (then_halts (outside first) (scripts_for program) names.script.now (Last program small) halt
    (err_is c.from_residual-in_err-script.result halt c.from_residual-in_err-script.ensures.1)
    (halts_later first third kept (scripts_for program) names.script.now halt _ _ c.in_err-script.ensures.value)))

pub returns-clause-outcome : goal.returns-clause-outcome
returns-clause-outcome g c =
    let first = g.F.Files.held c.args.files.now in
    let second = g.F.Files.held c.read_file.new.files in
    let third = g.F.Files.held c.read_file-2.new.files in
    let names = c.args.names.now in
    let program = c.in_ok-package.package in
    let small = c.in_ok-spec.spec in
    let script = c.in_ok-script.script in
    let kept : (n : List ℕ) → third n ≡ first n = λ n. c.in_ok-spec.ensures.kept n ∙ c.in_ok-package.ensures.kept n in
    then_on (outside first) packages names.package.now (First (outside first) names.spec.now names.script.now) program c.in_ok-package.ensures.value
    (then_on (outside first) (specs_for program) names.spec.now (Next (outside first) names.script.now program) small
    (opens_later first second c.in_ok-package.ensures.kept (specs_for program) names.spec.now small _ _ c.in_ok-spec.ensures.value)
    (then_on (outside first) (scripts_for program) names.script.now (Last program small) script
    (opens_later first third kept (scripts_for program) names.script.now script _ _ c.in_ok-script.ensures.value) (c.compared.ensures, refl)))

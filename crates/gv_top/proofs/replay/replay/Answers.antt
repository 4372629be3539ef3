use Rattle.std.proofs.Common.{◌≡◌, ◌∙◌, ℕ, List, refl, inl, inr}
use Rattle.gv_top.specs.Files.{outside}
use Rattle.gv_top.specs.ReplayForms.{written_packages, kept_specs, schedules_of}
use Rattle.gv_top.proofs.CheckLemmas.{then_on, then_halts, opens_later, halts_later}
use Rattle.gv_top.proofs.FilesLemmas.{err_is}
use Rattle.gv_top.proofs.ReplayExact.{First, Middle, Last}
use Rattle.gv_top.proofs.ReplayLemmas.{package_short, package_small, spec_short, spec_spells, few_events}
use Rattle.gv_top.proofs.replay.replay.Goals as goal

pub returns-in_err-spec-clause-outcome : goal.returns-in_err-spec-clause-outcome
returns-in_err-spec-clause-outcome g c =
    let first = g.F.Files.held c.args.files.now in
    let second = g.F.Files.held c.read_file.new.files in
    let names = c.args.names.now in
    let kept = c.in_ok-package.package in
    let halt = c.in_err-spec.field-0.0 in
    then_on (outside first) written_packages names.package.now (First (outside first) names.package.now names.spec.now names.schedule.now) kept c.in_ok-package.ensures.value
    (then_halts (outside first) kept_specs names.spec.now (Middle (outside first) names.package.now names.spec.now names.schedule.now kept) halt
    (err_is c.from_residual-in_err-spec.result halt c.from_residual-in_err-spec.ensures.1)
    (halts_later first second c.in_ok-package.ensures.kept kept_specs names.spec.now halt _ _ c.in_err-spec.ensures.value))

pub agreed-requires-clause-short : goal.agreed-requires-clause-short
agreed-requires-clause-short g c = package_short (outside (g.F.Files.held c.args.files.now)) c.args.names.now.package.now c.in_ok-package.package c.in_ok-package.ensures.value.0

pub agreed-requires-clause-package : goal.agreed-requires-clause-package
agreed-requires-clause-package g c = package_small (outside (g.F.Files.held c.args.files.now)) c.args.names.now.package.now c.in_ok-package.package c.in_ok-package.ensures.value.0

pub agreed-requires-clause-spec_short : goal.agreed-requires-clause-spec_short
agreed-requires-clause-spec_short g c = spec_short (outside (g.F.Files.held c.read_file.new.files)) c.args.names.now.spec.now c.in_ok-spec.spec c.in_ok-spec.ensures.value.0

pub agreed-requires-clause-spec : goal.agreed-requires-clause-spec
agreed-requires-clause-spec g c = spec_spells (outside (g.F.Files.held c.read_file.new.files)) c.args.names.now.spec.now c.in_ok-spec.spec c.in_ok-spec.ensures.value.0

pub returns-in_err-agreed-clause-outcome : goal.returns-in_err-agreed-clause-outcome
returns-in_err-agreed-clause-outcome g c =
    let first = g.F.Files.held c.args.files.now in
    let second = g.F.Files.held c.read_file.new.files in
    let names = c.args.names.now in
    let kept = c.in_ok-package.package in
    let halt = c.in_err-agreed.field-0.0 in
    then_on (outside first) written_packages names.package.now (First (outside first) names.package.now names.spec.now names.schedule.now) kept c.in_ok-package.ensures.value
    (then_on (outside first) kept_specs names.spec.now (Middle (outside first) names.package.now names.spec.now names.schedule.now kept) c.in_ok-spec.spec
    (opens_later first second c.in_ok-package.ensures.kept kept_specs names.spec.now c.in_ok-spec.spec _ _ c.in_ok-spec.ensures.value)
    (inl (halt, err_is c.from_residual-in_err-agreed.result halt c.from_residual-in_err-agreed.ensures.1, c.in_err-agreed.ensures.other, refl)))

pub returns-in_err-schedule-clause-outcome : goal.returns-in_err-schedule-clause-outcome
returns-in_err-schedule-clause-outcome g c =
    let first = g.F.Files.held c.args.files.now in
    let second = g.F.Files.held c.read_file.new.files in
    let third = g.F.Files.held c.read_file-2.new.files in
    let names = c.args.names.now in
    let held = c.in_ok-package.package in
    let s = c.in_ok-spec.spec in
    let kept : (n : List ℕ) → third n ≡ first n = λ n. c.in_ok-spec.ensures.kept n ∙ c.in_ok-package.ensures.kept n in
    let halt = c.in_err-schedule.field-0.0 in
    then_on (outside first) written_packages names.package.now (First (outside first) names.package.now names.spec.now names.schedule.now) held c.in_ok-package.ensures.value
    (then_on (outside first) kept_specs names.spec.now (Middle (outside first) names.package.now names.spec.now names.schedule.now held) s
    (opens_later first second c.in_ok-package.ensures.kept kept_specs names.spec.now s _ _ c.in_ok-spec.ensures.value)
    (inr (
      c.in_ok-agreed.ensures.same,
      then_halts (outside first) (schedules_of s.spec) names.schedule.now (Last held.small s.spec names.schedule.now) halt
          (err_is c.from_residual-in_err-schedule.result halt c.from_residual-in_err-schedule.ensures.1)
          (halts_later first third kept (schedules_of s.spec) names.schedule.now halt _ _ c.in_err-schedule.ensures.value),
    )))

pub played-requires-clause-of_spec : goal.played-requires-clause-of_spec
played-requires-clause-of_spec g c = c.in_ok-schedule.ensures.value.0.spelled.1

pub played-requires-clause-few : goal.played-requires-clause-few
played-requires-clause-few g c =
    let read = c.in_ok-schedule.ensures.value.0 in
    few_events c.in_ok-spec.spec.spec read.bytes c.in_ok-schedule.schedule read.spelled.0

pub returns-clause-outcome : goal.returns-clause-outcome
returns-clause-outcome g c =
    let first = g.F.Files.held c.args.files.now in
    let second = g.F.Files.held c.read_file.new.files in
    let third = g.F.Files.held c.read_file-2.new.files in
    let names = c.args.names.now in
    let held = c.in_ok-package.package in
    let s = c.in_ok-spec.spec in
    let schedule = c.in_ok-schedule.schedule in
    let kept : (n : List ℕ) → third n ≡ first n = λ n. c.in_ok-spec.ensures.kept n ∙ c.in_ok-package.ensures.kept n in
    then_on (outside first) written_packages names.package.now (First (outside first) names.package.now names.spec.now names.schedule.now) held c.in_ok-package.ensures.value
    (then_on (outside first) kept_specs names.spec.now (Middle (outside first) names.package.now names.spec.now names.schedule.now held) s
    (opens_later first second c.in_ok-package.ensures.kept kept_specs names.spec.now s _ _ c.in_ok-spec.ensures.value)
    (inr (
      c.in_ok-agreed.ensures.same,
      then_on (outside first) (schedules_of s.spec) names.schedule.now (Last held.small s.spec names.schedule.now) schedule
          (opens_later first third kept (schedules_of s.spec) names.schedule.now schedule _ _ c.in_ok-schedule.ensures.value) (c.played.ensures, refl),
    )))

use Rattle.std.proofs.Common.{◌≡◌, ◌<◌, sym, ap, ◌∙◌, subst, arith}
use Rattle.gv_lang.specs.Plain.{program_of}
use Rattle.gv_spec.specs.Runs.{first_state}
use Rattle.gv_runs.specs.Laws.{State}
use Rattle.gv_runs.specs.Machine.{machine_of, setting_of}
use Rattle.gv_machine.specs.Bounded.{is_bounded, IsNumbered}
use Rattle.gv_machine.proofs.Events.{first_bounded}
use Rattle.gv_machine.proofs.machine.Machine.start.Goals as goal

pub invariant_of-result : goal.invariant_of-result
invariant_of-result c =
    let g = program_of c.args.program.now in
    let setting = setting_of c.args.spec.now in
    let first : IsNumbered (first_state (machine_of g setting)) = omega arith in
    let P : State → Type 0 = IsNumbered in
    record {
      bounded = ap is_bounded c.in_ok-run.ensures ∙ first_bounded c.bounds.ensures g setting;
      numbered = subst P (sym c.in_ok-run.ensures) first;
    }

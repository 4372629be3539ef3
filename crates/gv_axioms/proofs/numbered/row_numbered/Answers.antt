use Rattle.std.proofs.Common.{◌≡◌, ◌-◌, Some, None, ap, sym, ◌∙◌}
use Rattle.std.specs.Prelude.{slice_get}
use Rattle.std.specs.Option.{option_copied}
use Rattle.gv_axioms.specs.declared.generated.table.TheConstants.{ROWS}
use Rattle.gv_axioms.proofs.Written.{found, not_found, looked_up}
use Rattle.gv_axioms.proofs.numbered.row_numbered.Goals as goal

pub returns-in-Some-clause-some : goal.returns-in-Some-clause-some
returns-in-Some-clause-some c =
    let h : option_copied c.get.result ≡ slice_get ROWS (c.args.number - 1) = looked_up ROWS (c.args.number - 1) c.get.result c.get.ensures.lookup in
    found c.args.number (Some c.in-Some.row.now) c.if-number-eq0.false (ap option_copied (sym c.in-Some.is) ∙ h)

pub returns-in-None-clause-none : goal.returns-in-None-clause-none
returns-in-None-clause-none c =
    let h : option_copied c.get.result ≡ slice_get ROWS (c.args.number - 1) = looked_up ROWS (c.args.number - 1) c.get.result c.get.ensures.lookup in
    not_found c.args.number None c.if-number-eq0.false (ap option_copied (sym c.in-None.is) ∙ h)

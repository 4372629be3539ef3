use Rattle.gv_interfaces.specs.Interfaces.{IsFirstDiffering}
use Rattle.gv_interfaces.proofs.Deciding.{absent_in_spec, there_in_package, some_is}
use Rattle.gv_interfaces.proofs.difference.first_difference.Goals as goal

pub package_place-requires-clause-there : goal.package_place-requires-clause-there
package_place-requires-clause-there c =
    let p = c.args.package.now in
    let s = c.args.spec.now in
    let first = some_is (IsFirstDiffering p s) c.in_ok-name.field-0 c.in-Some.name c.in-Some.is c.in_ok-name.ensures.some in
    there_in_package p s c.in-Some.name first.differs
    (absent_in_spec c.args.spec_text.now c.in-Some.name s c.in_ok-place.field-0 c.requires.spec c.in_ok-place.ensures c.in-None.is)

pub returns-clause-some : goal.returns-clause-some
returns-clause-some c =
    let p = c.args.package.now in
    let s = c.args.spec.now in
    let first = some_is (IsFirstDiffering p s) c.in_ok-name.field-0 c.in-Some.name c.in-Some.is c.in_ok-name.ensures.some in (
      c.in-Some.name,
      first,
      absent_in_spec c.args.spec_text.now c.in-Some.name s c.in_ok-place.field-0 c.requires.spec c.in_ok-place.ensures c.in-None.is,
      c.package_place.ensures,
    )

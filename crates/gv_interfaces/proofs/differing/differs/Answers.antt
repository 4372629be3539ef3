use Rattle.std.proofs.Common.{sym, ◌∙◌}
use Rattle.gv_interfaces.proofs.Deciding as deciding
use Rattle.gv_interfaces.proofs.differing.differs.Goals as goal

pub small_operation-requires : goal.small_operation-requires
small_operation-requires c =
    let sides = c.args.sides.now in
    let name = c.args.name.now in
    deciding.within (λ op. op.name) name sides.package.now.ops c.in-Some-Some.one (sym (c.number_of.ensures ∙ sides.ours_are name) ∙ c.in-Some-Some.is-0)

pub operation-requires : goal.operation-requires
operation-requires c =
    let sides = c.args.sides.now in
    let name = c.args.name.now in
    deciding.within (λ op. op.name) name sides.spec.now.ops c.in-Some-Some.other (sym (c.number_of-2.ensures ∙ sides.theirs_are name) ∙ c.in-Some-Some.is-1)

pub returns-in-None-None : goal.returns-in-None-None
returns-in-None-None c =
    let sides = c.args.sides.now in
    let name = c.args.name.now in
    deciding.in_none sides.package.now sides.spec.now name (sym (c.number_of.ensures ∙ sides.ours_are name) ∙ c.in-None-None.is-0)
    (sym (c.number_of-2.ensures ∙ sides.theirs_are name) ∙ c.in-None-None.is-1)

pub returns-in-Some-Some : goal.returns-in-Some-Some
returns-in-Some-Some c =
    let sides = c.args.sides.now in
    let name = c.args.name.now in
    deciding.in_both sides.package.now sides.spec.now name c.in-Some-Some.one c.in-Some-Some.other c.small_operation.result.now c.operation.result.now c.takes_words.result
    (sym (c.number_of.ensures ∙ sides.ours_are name) ∙ c.in-Some-Some.is-0) (sym (c.number_of-2.ensures ∙ sides.theirs_are name) ∙ c.in-Some-Some.is-1)
    c.small_operation.ensures c.operation.ensures.is c.takes_words.ensures

pub returns-in-Some-None : goal.returns-in-Some-None
returns-in-Some-None c =
    let sides = c.args.sides.now in
    let name = c.args.name.now in
    deciding.in_package_alone sides.package.now sides.spec.now name _ (sym (c.number_of.ensures ∙ sides.ours_are name) ∙ c.in-Some-None.is-0)
    (sym (c.number_of-2.ensures ∙ sides.theirs_are name) ∙ c.in-Some-None.is-1)

pub returns-in-None-Some : goal.returns-in-None-Some
returns-in-None-Some c =
    let sides = c.args.sides.now in
    let name = c.args.name.now in
    deciding.in_spec_alone sides.package.now sides.spec.now name _ (sym (c.number_of.ensures ∙ sides.ours_are name) ∙ c.in-None-Some.is-0)
    (sym (c.number_of-2.ensures ∙ sides.theirs_are name) ∙ c.in-None-Some.is-1)

use Rattle.std.proofs.Common.{[], ◌∷◌}
use Rattle.gv_lang.specs.Plain.{expr_of}
use Rattle.gv_lang.specs.declared.program.LocalKind.TheVariants as kind
use Rattle.gv_lowermoves.specs.declared.locals.Target.TheVariants as target
use Rattle.gv_lowermoves.proofs.Setting.{found_by_all, found_by_one}
use Rattle.gv_lowermoves.proofs.sets.set_found.Goals as goal

pub returns-in_ok-new-in-Some : goal.returns-in_ok-new-in-Some
returns-in_ok-new-in-Some g c =
    let d = g.P.Places.context c.args.places.now in
    found_by_one d c.args.place c.args.draft c.in_ok-new-in-Some.new c.args.targets.now c.in-Some.target (expr_of c.args.m) (expr_of c.args.k) c.in-Some.ensures
    (c.in_ok-new-in-Some.ensures d c.args.draft (c.in-Some.target ∷ target.Fresh kind.Bool ∷ []) c.in_ok-made-in-Some.ensures)

pub returns-in_ok-new-in-None : goal.returns-in_ok-new-in-None
returns-in_ok-new-in-None g c =
    let d = g.P.Places.context c.args.places.now in
    found_by_all d c.args.place c.args.draft c.in_ok-new-in-None.new c.args.targets.now (expr_of c.args.m) (expr_of c.args.k) c.in-None.ensures
    (c.in_ok-new-in-None.ensures d c.args.draft c.args.targets.now c.in_ok-made-in-None.ensures)

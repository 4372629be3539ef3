use Rattle.std.proofs.Common.{sym, ap}
use Rattle.gv_gotypes.specs.Trees.{Expr}
use Rattle.gv_lowering.specs.Statements as statements
use Rattle.gv_lowermoves.proofs.lefts.target_at.Goals as goal

pub returns-in-Member : goal.returns-in-Member
returns-in-Member g c = λ e h.
    let m = c.in-Member.ensures e h in
    sym (ap (λ (x : Expr). statements.target_of (g.P.Places.context c.args.places.now) (g.N.Names.env c.args.names.now) c.args.defines x c.args.kind) m.made)

pub returns-in-Item : goal.returns-in-Item
returns-in-Item g c = λ e h.
    let m = c.in-Item.ensures e h in
    sym (ap (λ (x : Expr). statements.target_of (g.P.Places.context c.args.places.now) (g.N.Names.env c.args.names.now) c.args.defines x c.args.kind) m.made)

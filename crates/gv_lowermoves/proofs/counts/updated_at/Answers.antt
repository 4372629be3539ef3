use Rattle.std.proofs.Common.{Some, false, length, subst, ℕ}
use Rattle.gv_lang.specs.Plain.{expr_of as lang_of}
use Rattle.gv_lang.specs.declared.program.LocalKind.TheVariants as kind
use Rattle.gv_operands.specs.declared.types.GoType.TheVariants as types
use Rattle.gv_gotypes.specs.Trees.{expr_of}
use Rattle.gv_lowering.specs.Operands as lower
use Rattle.gv_lowering.specs.Statements as statements
use Rattle.gv_lowermoves.specs.Moves.{IsMadeBehind}
use Rattle.gv_lowermoves.proofs.Updates.{updated_is, from_before}
use Rattle.gv_lowermoves.proofs.counts.updated_at.Goals as goal

pub returns : goal.returns
returns g c = λ e f h k.
    let d = g.P.Places.context c.args.places.now in
    let env = g.N.Names.env c.args.names.now in
    let n = length c.args.draft.temps.items in
    let by : ℕ → lower.Read = λ m. lower.read d c.args.place env (expr_of f) (Some types.Word) m in
    let b = c.in_ok-before.ensures e h in
    let q = c.in_ok-made.ensures f k in
    subst (λ (s : ℕ). IsMadeBehind c.args.draft c.in_ok-new.new (statements.updated d c.args.place env n (expr_of e) s (by n))) c.updating-sign.ensures
    (updated_is d c.args.place env c.args.draft c.in_ok-new.new (expr_of e) c.in_ok-target.target c.updating-sign.result (lang_of c.in_ok-before.before.value) (by n)
    (statements.target_of d env false (expr_of e) kind.Word) (c.in_ok-target.ensures e h) b.value
    (c.in_ok-new.ensures c.args.draft (by n) (from_before c.args.draft c.in_ok-before.before.draft c.in_ok-made.made.read by b.behind q.read)))

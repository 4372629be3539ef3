use Rattle.std.proofs.Common.{[], false, length, subst, ℕ}
use Rattle.gv_lang.proofs.Trees.{expr_word}
use Rattle.gv_lang.specs.Plain.{expr_of as lang_of}
use Rattle.gv_lang.specs.Tree as lang
use Rattle.gv_lang.specs.declared.program.LocalKind.TheVariants as kind
use Rattle.gv_gotypes.specs.Trees.{expr_of}
use Rattle.gv_lowering.specs.Operands as lower
use Rattle.gv_lowering.specs.Statements as statements
use Rattle.gv_lowermoves.specs.Moves.{IsMadeBehind}
use Rattle.gv_lowermoves.proofs.Updates.{updated_is}
use Rattle.gv_lowermoves.proofs.counts.counted_at.Goals as goal

pub returns : goal.returns
returns g c = λ e h.
    let d = g.P.Places.context c.args.places.now in
    let env = g.N.Names.env c.args.names.now in
    let one : lower.Read = record { cmds = []; temps = []; value = lang.Number 1 } in
    let b = c.in_ok-before.ensures e h in
    subst (λ (s : ℕ). IsMadeBehind c.args.draft c.in_ok-new.new (statements.updated d c.args.place env (length c.args.draft.temps.items) (expr_of e) s one)) c.counting-sign.ensures
    (updated_is d c.args.place env c.args.draft c.in_ok-new.new (expr_of e) c.in_ok-target.target c.counting-sign.result (lang_of c.in_ok-before.before.value) one
    (statements.target_of d env false (expr_of e) kind.Word) (c.in_ok-target.ensures e h) b.value
    (c.in_ok-new.ensures c.args.draft one (record { behind = b.behind; value = expr_word 1 })))

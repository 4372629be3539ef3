use Rattle.std.proofs.Common.{sym, subst}
use Rattle.gv_lang.proofs.Trees.{expr_nil}
use Rattle.gv_lang.specs.declared.pure.Pure.TheVariants as pure
use Rattle.gv_gotypes.specs.Trees as go
use Rattle.gv_gotyped.specs.Operands.{IsOperand}
use Rattle.gv_gotyped.specs.declared.outcomes.Operand.{Operand}
use Rattle.gv_lowerops.proofs.Wholes.{library_tail}
use Rattle.gv_lowerops.proofs.known.package_member_at.Goals as goal

pub returns : goal.returns
returns g c = λ d at want h.
    let env = g.N.Names.env c.args.names.now in
    let e = go.Select (go.Name c.args.word) c.args.name in
    let known : IsOperand env e c.library_operand-known.result = c.library_operand-known.ensures env c.args.library h c.library_member-member.ensures in
    record {
      tail = c.or_constant.ensures.tail env e c.args.draft _ (record { cmds = c.mark-mark.ensures.cmds; temps = c.mark-mark.ensures.temps }) known
          (library_tail d at env c.args.word c.args.name c.args.library c.args.draft pure.Nil h expr_nil);
      known = subst (λ (x : Operand). IsOperand env e x) (sym c.or_constant.ensures.known) known;
    }

use Rattle.std.proofs.Common.{Option, sym, ap, subst, ◌∙◌}
use Rattle.std.specs.Prelude.{option_map}
use Rattle.gv_lang.specs.Tree as lang
use Rattle.gv_gotypes.specs.Trees as go
use Rattle.gv_gotypes.specs.declared.names.Found.{Found}
use Rattle.gv_gotypes.specs.Scopes.{entity_named, name_in}
use Rattle.gv_gotyped.specs.Operands.{IsOperand}
use Rattle.gv_gotyped.specs.declared.outcomes.Operand.{Operand}
use Rattle.gv_lowering.specs.Operands as lower
use Rattle.gv_lowerops.proofs.Behind.{behind_same}
use Rattle.gv_lowerops.proofs.known.name_at.Goals as goal

pub returns : goal.returns
returns g c = λ at want.
    let env = g.N.Names.env c.args.names.now in
    let d = g.P.Places.context c.args.places.now in
    let e = go.Name c.args.name in
    let known : IsOperand env e c.name_operand.result = c.name_operand.ensures env c.found-found.ensures c.constant-constant.ensures in
    record {
      tail = c.or_constant.ensures.tail env e c.args.draft (lower.plain (lower.variable_in d (entity_named env (name_in env.source c.args.name))))
          (record { cmds = c.mark-mark.ensures.cmds; temps = c.mark-mark.ensures.temps }) known
          (record {
            behind = behind_same c.args.draft;
            last = ap (λ (x : lang.Expr). lower.Value x) (c.in_ok-variable.ensures ∙ ap (λ (o : Option Found). lower.variable_in d (option_map (λ f. f.entity) o)) c.found-found.ensures);
          });
      known = subst (λ (x : Operand). IsOperand env e x) (sym c.or_constant.ensures.known) known;
    }

use Rattle.std.proofs.Common.{◌≡◌, ◌<◌, List, [], ◌∷◌, ◌++◌, length, get_or, map, take, sym, ap, subst, ◌∙◌, arith}
use Rattle.std.proofs.lemmas.List.{get_or_default, take_more, map-append, take_all}
use Rattle.gv_terms.specs.declared.sort.Sort.TheVariants as sort
use Rattle.gv_terms.specs.declared.var.Var.{Var}
use Rattle.gv_specread.specs.declared.tree.ParamTree.{ParamTree}
use Rattle.gv_specs.specs.Faults.{HasParamFault}
use Rattle.gv_specs.specs.Names.{param_var, with_params, with_var}
use Rattle.gv_specs.specs.Told.{Adds}
use Rattle.gv_specs.proofs.Growing.{vars_more}
use Rattle.gv_specs.proofs.Items.{adds_item, adds_items}
use Rattle.gv_specs.proofs.params.read_params.Goals as goal

pub loop-tree-preserved : goal.loop-tree-preserved
loop-tree-preserved c =
    let text = c.args.text.now in
    let vars = c.args.vars.now in
    let trees = c.args.trees.now in
    let i = c.loop-tree.tree-index in
    let lt : i < length trees = omega arith in
    let d : ParamTree = record { name = record { start = 0; end = 0 }; sort = record { start = 0; sort = sort.Word } } in
    let x = get_or trees i d in
    let is : x ≡ get_or trees i x = get_or_default trees i d x lt in
    let noted : Adds (HasParamFault text (with_params text vars (take i trees)) x) c.loop-tree.first c.read_param.new.first =
    subst (λ (vs : List Var). Adds (HasParamFault text vs x) c.loop-tree.first c.read_param.new.first) c.loop-tree.invariant.scope c.in_ok-param.ensures.noted in
    record {
      scope = c.in_ok-param.ensures.scope ∙ ap (λ (vs : List Var). with_var vs (param_var text x)) c.loop-tree.invariant.scope ∙ sym (vars_more (param_var text) vars trees i x lt is);
      noted = adds_item (λ k p. HasParamFault text (with_params text vars (take k trees)) p) trees i x c.args.first.now c.loop-tree.first c.read_param.new.first lt is c.loop-tree.invariant.noted noted;
      read = c.in_ok-push.ensures.items ∙ ap (λ (vs : List Var). vs ++ c.in_ok-param.param ∷ []) c.loop-tree.invariant.read ∙ ap (λ (v : Var). map (param_var text) (take i trees) ++ v ∷ []) c.in_ok-param.ensures.read
          ∙ sym (map-append (param_var text) (take i trees) (x ∷ [])) ∙ ap (map (param_var text)) (ap (λ (y : ParamTree). take i trees ++ y ∷ []) is ∙ sym (take_more trees i x lt));
    }

pub returns-clause-noted : goal.returns-clause-noted
returns-clause-noted c =
    adds_items (λ k p. HasParamFault c.args.text.now (with_params c.args.text.now c.args.vars.now (take k c.args.trees.now)) p) c.args.trees.now c.loop-tree.tree-index c.args.first.now c.loop-tree.first (omega arith) c.loop-tree.invariant.noted

pub returns-clause-read : goal.returns-clause-read
returns-clause-read c = c.loop-tree.invariant.read ∙ ap (map (param_var c.args.text.now)) (take_all c.loop-tree.tree-index c.args.trees.now (omega arith))

pub returns-clause-scope : goal.returns-clause-scope
returns-clause-scope c = c.loop-tree.invariant.scope ∙ ap (with_params c.args.text.now c.args.vars.now) (take_all c.loop-tree.tree-index c.args.trees.now (omega arith))

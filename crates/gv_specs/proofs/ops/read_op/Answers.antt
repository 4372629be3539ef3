use Rattle.std.proofs.Common.{List, [], Option, ◌≡◌, map, option_map, take, subst, ◌∙◌, ap}
use Rattle.gv_terms.specs.declared.sort.Sort.{Sort}
use Rattle.gv_terms.specs.declared.var.Var.{Var}
use Rattle.gv_specread.specs.declared.tree.ParamTree.{ParamTree}
use Rattle.gv_specs.specs.Faults.{HasAllowedFault, HasBodyFault, HasParamFault}
use Rattle.gv_specs.specs.FieldTable.{entry_in}
use Rattle.gv_specs.specs.Names.{param_var, pick_var, with_params, with_vars, with_picks}
use Rattle.gv_specs.specs.Told.{HasItemFault, Adds}
use Rattle.gv_specs.specs.Spelled.{IsAllowed}
use Rattle.gv_specs.specs.Bodies.{IsMadeBody}
use Rattle.gv_specs.proofs.Firsts.{still_told}
use Rattle.gv_specs.proofs.Growing.{allowed_grows}
use Rattle.gv_specs.proofs.Noted.{op_noted}
use Rattle.gv_specs.proofs.Scopes.{kept_front}
use Rattle.gv_specs.proofs.ops.read_op.Goals as goal

pub returns-clause-noted : goal.returns-clause-noted
returns-clause-noted c =
    let text = c.args.text.now in
    let named = entry_in c.args.table.now in
    let fields = c.args.vars.now in
    let tree = c.args.tree.now in
    let first0 = c.args.first.now in
    let first1 = c.declare.new.first in
    let first2 = c.read_params.new.first in
    let first3 = c.read_returns-wanted.new.first in
    let first4 = c.read_allowed.new.first in
    let first5 = c.read_body.new.first in
    let scope : c.read_params.new.vars ≡ with_params text fields tree.params = c.in_ok-params.ensures.scope ∙ ap (with_params text fields) c.as_slice-trees.ensures in
    let params : c.as_slice.result.now ≡ map (param_var text) tree.params = c.as_slice.ensures.value ∙ c.in_ok-params.ensures.read ∙ ap (map (param_var text)) c.as_slice-trees.ensures in
    op_noted text named fields c.args.names.now tree first0 first1 first2 first3 first4 first5
    c.in_ok-name.ensures.noted
    (subst (λ (ps : List ParamTree). Adds (HasItemFault (λ i p. HasParamFault text (with_params text fields (take i ps)) p) ps) first1 first2) c.as_slice-trees.ensures c.in_ok-params.ensures.noted)
    c.read_returns-wanted.ensures.noted
    (subst (λ (vs : List Var). Adds (HasAllowedFault (with_vars [] vs) tree.allowed) first3 first4) params c.in_ok-allowed.ensures.noted)
    (subst (λ (vs : List Var). Adds (HasBodyFault text named vs (option_map (λ s. s.sort) tree.returns) tree.body) first4 first5) scope
    (subst (λ (w : Option Sort). Adds (HasBodyFault text named c.read_params.new.vars w tree.body) first4 first5) c.read_returns-wanted.ensures.read c.in_ok-body.ensures.noted))

pub returns-clause-scope : goal.returns-clause-scope
returns-clause-scope c =
    let text = c.args.text.now in
    let fields = c.args.vars.now in
    c.truncate.ensures
    ∙ ap (take c.len-fields.result) (c.in_ok-body.ensures.scope ∙ ap (λ (vs : List Var). with_picks text vs c.args.tree.now.body.picks) c.in_ok-params.ensures.scope)
    ∙ ap (λ n. take n (with_picks text (with_params text fields c.as_slice-trees.result.now) c.args.tree.now.body.picks)) c.len-fields.ensures
    ∙ kept_front fields (map (param_var text) c.as_slice-trees.result.now) (map (pick_var text) c.args.tree.now.body.picks)

pub returns-clause-read : goal.returns-clause-read
returns-clause-read c = λ e.
    let text = c.args.text.now in
    let named = entry_in c.args.table.now in
    let fields = c.args.vars.now in
    let tree = c.args.tree.now in
    let vars1 = c.read_params.new.vars in
    let store1 = c.read_allowed.new.store in
    let store2 = c.read_body.new.store in
    let scope : vars1 ≡ with_params text fields tree.params = c.in_ok-params.ensures.scope ∙ ap (with_params text fields) c.as_slice-trees.ensures in
    let params : c.as_slice.result.now ≡ map (param_var text) tree.params = c.as_slice.ensures.value ∙ c.in_ok-params.ensures.read ∙ ap (map (param_var text)) c.as_slice-trees.ensures in
    let e1 = still_told (HasBodyFault text named vars1 c.read_returns-wanted.result tree.body) c.read_allowed.new.first c.read_body.new.first c.in_ok-body.ensures.noted e in
    let made : IsMadeBody text store2 named (with_params text fields tree.params) tree.body c.in_ok-body.body = subst (λ (vs : List Var). IsMadeBody text store2 named vs tree.body c.in_ok-body.body) scope (c.in_ok-body.ensures.read e) in
    record {
      name = c.in_ok-name.ensures.name;
      params = c.from_vec.ensures ∙ c.in_ok-params.ensures.read ∙ ap (map (param_var text)) c.as_slice-trees.ensures;
      allowed = allowed_grows store1 store2 (with_params text [] tree.params) tree.allowed c.in_ok-allowed.allowed c.read_body.ensures.grows
          (subst (λ (vs : List Var). IsAllowed store1 (with_vars [] vs) tree.allowed c.in_ok-allowed.allowed) params (c.in_ok-allowed.ensures.read e1));
      body = made.body;
      reply = made.reply;
    }

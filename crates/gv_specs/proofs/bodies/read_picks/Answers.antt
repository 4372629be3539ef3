use Rattle.std.proofs.Common.{◌<◌, List, length, take, refl, sym, ap, subst, ◌∙◌, arith}
use Rattle.std.proofs.lemmas.List.{take_all}
use Rattle.gv_terms.specs.declared.var.Var.{Var}
use Rattle.gv_specs.specs.Faults.{HasPickFault}
use Rattle.gv_specs.specs.Names.{pick_var, with_picks, with_var}
use Rattle.gv_specs.specs.Spelled.{IsPick}
use Rattle.gv_specs.specs.Told.{Adds}
use Rattle.gv_specs.proofs.Firsts.{still_told}
use Rattle.gv_specs.proofs.Growing.{grows_not, grows_on, pick_grows, vars_more}
use Rattle.gv_specs.proofs.Items.{adds_none, adds_item, adds_items, are_none, are_more, are_all, are_weaker}
use Rattle.gv_specs.proofs.bodies.read_picks.Goals as goal

pub loop-tree-init : goal.loop-tree-init
loop-tree-init c = record {
  grows = grows_not c.args.store.now;
  scope = refl;
  noted = adds_none (λ i p. HasPickFault c.args.text.now (with_picks c.args.text.now c.args.vars.now (take i c.args.trees.now)) p) c.args.trees.now c.args.first.now;
  read = λ e. are_none (λ i t p. IsPick c.args.text.now c.args.store.now (with_picks c.args.text.now c.args.vars.now (take i c.args.trees.now)) t p) c.args.trees.now _ c.new-picks.ensures.items;
}

pub loop-tree-preserved : goal.loop-tree-preserved
loop-tree-preserved c =
    let text = c.args.text.now in
    let vars = c.args.vars.now in
    let trees = c.args.trees.now in
    let i = c.loop-tree.tree-index in
    let x = c.tree-item.result in
    let lt : i < length trees = omega arith in
    let old = c.loop-tree.store in
    let new = c.read_pick.new.store in
    let noted : Adds (HasPickFault text (with_picks text vars (take i trees)) x) c.loop-tree.first c.read_pick.new.first =
    subst (λ (vs : List Var). Adds (HasPickFault text vs x) c.loop-tree.first c.read_pick.new.first) c.loop-tree.invariant.scope c.in_ok-pick.ensures.noted in
    record {
      grows = grows_on c.args.store.now old new c.loop-tree.invariant.grows c.read_pick.ensures.grows;
      scope = c.in_ok-pick.ensures.scope ∙ ap (λ (vs : List Var). with_var vs (pick_var text x)) c.loop-tree.invariant.scope ∙ sym (vars_more (pick_var text) vars trees i x lt c.tree-item.is);
      noted = adds_item (λ k p. HasPickFault text (with_picks text vars (take k trees)) p) trees i x c.args.first.now c.loop-tree.first c.read_pick.new.first lt c.tree-item.is c.loop-tree.invariant.noted noted;
      read = λ e. are_more (λ k t p. IsPick text new (with_picks text vars (take k trees)) t p) trees i x c.loop-tree.picks.items _ c.in_ok-pick.pick lt c.tree-item.is
          (are_weaker (λ k t p. IsPick text old (with_picks text vars (take k trees)) t p) (λ k t p. IsPick text new (with_picks text vars (take k trees)) t p) trees i c.loop-tree.picks.items
          (λ k t p h. pick_grows text old new (with_picks text vars (take k trees)) t p c.read_pick.ensures.grows h)
          (c.loop-tree.invariant.read (still_told (HasPickFault text (with_picks text vars (take i trees)) x) c.loop-tree.first c.read_pick.new.first noted e)))
          (subst (λ (vs : List Var). IsPick text new vs x c.in_ok-pick.pick) c.loop-tree.invariant.scope (c.in_ok-pick.ensures.read e)) c.in_ok-push.ensures.items;
    }

pub returns-clause-noted : goal.returns-clause-noted
returns-clause-noted c =
    adds_items (λ k p. HasPickFault c.args.text.now (with_picks c.args.text.now c.args.vars.now (take k c.args.trees.now)) p) c.args.trees.now c.loop-tree.tree-index c.args.first.now c.loop-tree.first (omega arith) c.loop-tree.invariant.noted

pub returns-clause-read : goal.returns-clause-read
returns-clause-read c = λ e.
    are_all (λ k t p. IsPick c.args.text.now c.loop-tree.store (with_picks c.args.text.now c.args.vars.now (take k c.args.trees.now)) t p) c.args.trees.now c.loop-tree.tree-index c.loop-tree.picks.items (omega arith) (c.loop-tree.invariant.read e)

pub returns-clause-scope : goal.returns-clause-scope
returns-clause-scope c = c.loop-tree.invariant.scope ∙ ap (with_picks c.args.text.now c.args.vars.now) (take_all c.loop-tree.tree-index c.args.trees.now (omega arith))

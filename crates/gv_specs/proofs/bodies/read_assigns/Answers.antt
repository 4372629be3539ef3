use Rattle.std.proofs.Common.{◌≡◌, ◌+◌, ◌<◌, List, [], ◌∷◌, ◌++◌, length, take, sym, ap, subst, ◌∙◌, arith}
use Rattle.std.proofs.lemmas.List.{take_more}
use Rattle.gv_specread.specs.declared.tree.AssignTree.{AssignTree}
use Rattle.gv_specs.specs.Bodies.{AreAssigned}
use Rattle.gv_specs.specs.Faults.{HasAssignFault}
use Rattle.gv_specs.specs.FieldTable.{entry_in}
use Rattle.gv_specs.specs.Spelled.{IsAssign}
use Rattle.gv_specs.specs.Told.{Adds}
use Rattle.gv_specs.proofs.Firsts.{still_told}
use Rattle.gv_specs.proofs.Growing.{grows_on, assign_grows}
use Rattle.gv_specs.proofs.Items.{adds_item, adds_items, are_more, are_all, are_weaker}
use Rattle.gv_specs.proofs.bodies.read_assigns.Goals as goal

pub loop-tree-preserved : goal.loop-tree-preserved
loop-tree-preserved c =
    let text = c.args.text.now in
    let named = entry_in c.args.table.now in
    let vars = c.args.vars.now in
    let trees = c.args.trees.now in
    let i = c.loop-tree.tree-index in
    let x = c.tree-item.result in
    let lt : i < length trees = omega arith in
    let old = c.loop-tree.store in
    let new = c.read_assign.new.store in
    let was = c.loop-tree.invariant.assigned in
    let noted : Adds (HasAssignFault text named vars (take i trees) x) c.loop-tree.first c.read_assign.new.first = c.in_ok-assign.ensures.noted (take i trees) was in
    let longer : take (i + 1) trees ≡ take i trees ++ x ∷ [] = take_more trees i x lt ∙ ap (λ (y : AssignTree). take i trees ++ y ∷ []) (sym c.tree-item.is) in
    record {
      grows = grows_on c.args.store.now old new c.loop-tree.invariant.grows c.read_assign.ensures.grows;
      assigned = subst (λ (ts : List AssignTree). AreAssigned text ts c.read_assign.new.assigned) (sym longer) (c.in_ok-assign.ensures.kept (take i trees) was);
      noted = adds_item (λ k a. HasAssignFault text named vars (take k trees) a) trees i x c.args.first.now c.loop-tree.first c.read_assign.new.first lt c.tree-item.is c.loop-tree.invariant.noted noted;
      read = λ e. are_more (λ k t a. IsAssign text new named vars t a) trees i x c.loop-tree.assigns.items _ c.in_ok-assign.assign lt c.tree-item.is
          (are_weaker (λ k t a. IsAssign text old named vars t a) (λ k t a. IsAssign text new named vars t a) trees i c.loop-tree.assigns.items
          (λ k t a h. assign_grows text old new named vars t a c.read_assign.ensures.grows h)
          (c.loop-tree.invariant.read (still_told (HasAssignFault text named vars (take i trees) x) c.loop-tree.first c.read_assign.new.first noted e)))
          (c.in_ok-assign.ensures.read e) c.in_ok-push.ensures.items;
    }

pub returns-clause-noted : goal.returns-clause-noted
returns-clause-noted c =
    adds_items (λ k a. HasAssignFault c.args.text.now (entry_in c.args.table.now) c.args.vars.now (take k c.args.trees.now) a) c.args.trees.now c.loop-tree.tree-index c.args.first.now c.loop-tree.first (omega arith) c.loop-tree.invariant.noted

pub returns-clause-read : goal.returns-clause-read
returns-clause-read c = λ e.
    are_all (λ k t a. IsAssign c.args.text.now c.loop-tree.store (entry_in c.args.table.now) c.args.vars.now t a) c.args.trees.now c.loop-tree.tree-index c.loop-tree.assigns.items (omega arith) (c.loop-tree.invariant.read e)

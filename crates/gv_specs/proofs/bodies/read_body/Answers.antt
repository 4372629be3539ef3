use Rattle.std.proofs.Common.{List, ◌≡◌, sym, subst, take, ◌∙◌, ap}
use Rattle.gv_terms.specs.declared.var.Var.{Var}
use Rattle.gv_atomic.specs.declared.spec.Pick.{Pick}
use Rattle.gv_atomic.specs.declared.spec.Assign.{Assign}
use Rattle.gv_specread.specs.declared.tree.PickTree.{PickTree}
use Rattle.gv_specread.specs.declared.tree.AssignTree.{AssignTree}
use Rattle.gv_specs.specs.Faults.{HasAssignFault, HasReplyFault, HasPickFault}
use Rattle.gv_specs.specs.FieldTable.{entry_in}
use Rattle.gv_specs.specs.Names.{with_picks}
use Rattle.gv_specs.specs.Spelled.{IsAssign, IsReply, IsPick}
use Rattle.gv_specs.specs.Told.{HasItemFault, AreEach, Adds}
use Rattle.gv_specs.proofs.Firsts.{still_told}
use Rattle.gv_specs.proofs.Growing.{picks_grow, assigns_grow, grows_on}
use Rattle.gv_specs.proofs.Noted.{body_noted}
use Rattle.gv_specs.proofs.bodies.read_body.Goals as goal

pub returns-clause-scope : goal.returns-clause-scope
returns-clause-scope c = c.in_ok-picks.ensures.scope ∙ ap (with_picks c.args.text.now c.args.vars.now) c.as_slice-choices.ensures

pub returns-clause-noted : goal.returns-clause-noted
returns-clause-noted c =
    let text = c.args.text.now in
    let vars = c.args.vars.now in
    let scope = c.read_picks.new.vars in
    let first = c.args.first.now in
    let first1 = c.read_picks.new.first in
    let first2 = c.read_assigns.new.first in
    body_noted text (entry_in c.args.table.now) vars scope c.args.wanted c.args.tree.now first first1 first2 c.read_reply.new.first
    (c.in_ok-picks.ensures.scope ∙ ap (with_picks text vars) c.as_slice-choices.ensures)
    (subst (λ (ps : List PickTree). Adds (HasItemFault (λ i p. HasPickFault text (with_picks text vars (take i ps)) p) ps) first first1) c.as_slice-choices.ensures c.in_ok-picks.ensures.noted)
    (subst (λ (ts : List AssignTree). Adds (HasItemFault (λ i a. HasAssignFault text (entry_in c.args.table.now) scope (take i ts) a) ts) first1 first2) c.as_slice-targets.ensures c.in_ok-assigns.ensures.noted)
    c.in_ok-reply.ensures.noted

pub returns-clause-read : goal.returns-clause-read
returns-clause-read c = λ e.
    let text = c.args.text.now in
    let named = entry_in c.args.table.now in
    let vars = c.args.vars.now in
    let scope = c.read_picks.new.vars in
    let is : scope ≡ with_picks text vars c.args.tree.now.picks = c.in_ok-picks.ensures.scope ∙ ap (with_picks text vars) c.as_slice-choices.ensures in
    let store1 = c.read_picks.new.store in
    let store2 = c.read_assigns.new.store in
    let store3 = c.read_reply.new.store in
    let e2 = still_told (HasReplyFault scope c.args.wanted c.args.tree.now.start c.args.tree.now.reply) c.read_assigns.new.first c.read_reply.new.first c.in_ok-reply.ensures.noted e in
    let e1 = still_told (HasItemFault (λ i a. HasAssignFault text named scope (take i c.as_slice-targets.result.now) a) c.as_slice-targets.result.now) c.read_picks.new.first c.read_assigns.new.first c.in_ok-assigns.ensures.noted e2 in
    let picks = subst (λ (ps : List PickTree). AreEach (λ i t p. IsPick text store1 (with_picks text vars (take i ps)) t p) ps c.in_ok-picks.picks.items) c.as_slice-choices.ensures (c.in_ok-picks.ensures.read e1) in
    let assigns = subst (λ (ts : List AssignTree). AreEach (λ i t a. IsAssign text store2 named scope t a) ts c.in_ok-assigns.assigns.items) c.as_slice-targets.ensures (c.in_ok-assigns.ensures.read e2) in
    record {
      body = record {
        chosen = subst (λ (qs : List Pick). AreEach (λ i t p. IsPick text store3 (with_picks text vars (take i c.args.tree.now.picks)) t p) c.args.tree.now.picks qs) (sym c.from_vec.ensures)
            (picks_grow text store1 store3 vars c.args.tree.now.picks c.in_ok-picks.picks.items (grows_on store1 store2 store3 c.read_assigns.ensures.grows c.read_reply.ensures.grows) picks);
        assigned = subst (λ (xs : List Assign). AreEach (λ i t a. IsAssign text store3 named (with_picks text vars c.args.tree.now.picks) t a) c.args.tree.now.assigns xs) (sym c.from_vec-2.ensures)
            (assigns_grow text store2 store3 named (with_picks text vars c.args.tree.now.picks) c.args.tree.now.assigns c.in_ok-assigns.assigns.items c.read_reply.ensures.grows
            (subst (λ (vs : List Var). AreEach (λ i t a. IsAssign text store2 named vs t a) c.args.tree.now.assigns c.in_ok-assigns.assigns.items) is assigns));
      };
      reply = subst (λ (vs : List Var). IsReply store3 vs c.args.tree.now.reply c.in_ok-reply.reply) is (c.in_ok-reply.ensures.read e);
    }

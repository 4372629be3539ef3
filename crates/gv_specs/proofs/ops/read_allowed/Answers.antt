use Rattle.std.proofs.Common.{List, [], Option, None, sym, subst, ◌≡◌, ◌<◌, length}
use Rattle.gv_terms.specs.declared.sort.Sort.TheVariants as sort
use Rattle.gv_terms.specs.declared.var.Var.{Var}
use Rattle.gv_terms.specs.Values.{is_sort}
use Rattle.gv_termread.specs.declared.placed.PlacedTerm.{PlacedTerm}
use Rattle.gv_typing.specs.Placing.{HasTermFault}
use Rattle.gv_specs.specs.Faults.{HasAllowedFault}
use Rattle.gv_specs.specs.Names.{with_vars}
use Rattle.gv_specs.specs.Told.{Adds}
use Rattle.gv_specs.proofs.Assigned.{on_ok, on_any, if_ok, if_both}
use Rattle.gv_specs.proofs.Noted.{allowed_noted, all_allowed_noted}
use Rattle.gv_terms.specs.declared.term.Term.{Term}
use Rattle.gv_terms.specs.declared.operator.Operator.TheVariants as op
use Rattle.gv_terms.specs.declared.tree.TermTree.TheVariants as tree
use Rattle.gv_terms.specs.Store.{tree_at}
use Rattle.gv_specs.specs.Spelled as spelled
use Rattle.gv_specs.specs.Spelled.{IsTermOf, IsAllowed}
use Rattle.gv_specs.proofs.ops.read_allowed.Goals as goal

pub returns-in_ok-vars-in-Some-clause-noted : goal.returns-in_ok-vars-in-Some-clause-noted
returns-in_ok-vars-in-Some-clause-noted c =
    on_ok c.read_term.result
    (λ (h : Adds (HasTermFault c.in_ok-vars-in-Some.vars (is_sort sort.Bool) c.in-Some.term) c.args.first.now c.read_term.new.first).
    subst (λ (o : Option PlacedTerm). Adds (HasAllowedFault (with_vars [] c.args.params.now) o) c.args.first.now c.read_term.new.first) (sym c.in-Some.is)
    (allowed_noted (with_vars [] c.args.params.now) c.in-Some.term c.args.first.now c.read_term.new.first
    (subst (λ (vs : List Var). Adds (HasTermFault vs (is_sort sort.Bool) c.in-Some.term) c.args.first.now c.read_term.new.first) c.in_ok-vars-in-Some.ensures h)))
    c.read_term.ensures.noted

pub returns-in-None-clause-noted : goal.returns-in-None-clause-noted
returns-in-None-clause-noted c =
    on_any c.make_true.result (subst (λ (o : Option PlacedTerm). Adds (HasAllowedFault (with_vars [] c.args.params.now) o) c.args.first.now c.args.first.now) (sym c.in-None.is) (all_allowed_noted (with_vars [] c.args.params.now) c.args.first.now))

pub returns-in_ok-vars-in-Some-clause-read : goal.returns-in_ok-vars-in-Some-clause-read
returns-in_ok-vars-in-Some-clause-read c =
    let params = with_vars [] c.args.params.now in
    let term = c.in-Some.term in
    let store = c.read_term.new.store in
    let first = c.read_term.new.first in
    if_ok (λ (t : Term). first ≡ None → IsTermOf store c.in_ok-vars-in-Some.vars term t) (λ (t : Term). first ≡ None → IsAllowed store params c.args.tree.now t) c.read_term.result
    (λ t h e.
    subst (λ (o : Option PlacedTerm). IsAllowed store params o t) (sym c.in-Some.is)
    (spelled.written term t (subst (λ (vs : List Var). IsTermOf store vs term t) c.in_ok-vars-in-Some.ensures (h e))))
    c.read_term.ensures.read

pub returns-in-None-clause-read : goal.returns-in-None-clause-read
returns-in-None-clause-read c =
    let params = with_vars [] c.args.params.now in
    let store = c.make_true.new.store in
    if_both (λ (t : Term). t.id < length store) (λ (t : Term). tree_at store t.id ≡ tree.Apply op.True []) (λ (t : Term). c.args.first.now ≡ None → IsAllowed store params c.args.tree.now t) c.make_true.result
    (λ t within same e. subst (λ (o : Option PlacedTerm). IsAllowed store params o t) (sym c.in-None.is) (spelled.always t within same))
    c.make_true.ensures.within c.make_true.ensures.tree

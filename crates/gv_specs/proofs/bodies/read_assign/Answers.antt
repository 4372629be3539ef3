use Rattle.std.proofs.Common.{◌≡◌, Option, subst, None, ap, ◌∙◌, sym}
use Rattle.std.specs.HashSet.{contains}
use Rattle.std.specs.Str.{bytes_eq}
use Rattle.gv_specs.specs.FieldTable.{entry_in}
use Rattle.gv_specs.specs.Names.{name_in}
use Rattle.std.specs.Prelude.{IfSome, not}
use Rattle.gv_base.specs.declared.answers.Code.TheVariants as code
use Rattle.gv_atomic.specs.declared.spec.Assign.{Assign}
use Rattle.gv_specs.specs.declared.field_table.NumberedSort.{NumberedSort}
use Rattle.gv_specs.specs.Bodies.{HasAssignedFault, IsUndeclared}
use Rattle.gv_specs.specs.Spelled.{IsAssign, IsTermOf}
use Rattle.gv_specs.specs.Told.{Adds, IsFaultUnless}
use Rattle.gv_specs.proofs.Firsts.{still_told}
use Rattle.gv_specs.proofs.Assigned.{on_ok, on_any, if_both, one_assigned}
use Rattle.gv_specs.proofs.Noted.{assign_noted, assign_read}
use Rattle.gv_specs.proofs.bodies.read_assign.Goals as goal

pub returns-clause-noted : goal.returns-clause-noted
returns-clause-noted c = λ before was.
    on_ok c.read_assigned.result
    (assign_noted c.args.text.now (entry_in c.args.table.now) c.args.vars.now before c.args.tree.now c.target-entry.result (contains bytes_eq c.args.assigned.now c.in_ok-name.name)
    c.args.first.now c.target-entry.new.first c.keep_assigned.new.first c.read_assigned.new.first
    (c.target-entry.ensures.found ∙ ap (entry_in c.args.table.now) c.in_ok-name.ensures)
    (ap (contains bytes_eq c.args.assigned.now) c.in_ok-name.ensures ∙ was (name_in c.args.text.now c.args.tree.now.name))
    (subst (λ (o : Option NumberedSort). Adds (IsUndeclared o c.args.tree.now.name.start) c.args.first.now c.target-entry.new.first) (sym c.target-entry.ensures.found) c.target-entry.ensures.noted)
    c.in_ok-keep_assigned.ensures.noted)
    c.read_assigned.ensures.noted

pub returns-clause-kept : goal.returns-clause-kept
returns-clause-kept c = λ before was.
    on_any c.read_assigned.result (one_assigned c.args.text.now c.in_ok-name.name before c.args.tree.now c.args.assigned.now c.keep_assigned.new.assigned c.in_ok-name.ensures was c.in_ok-keep_assigned.ensures.kept)

pub returns-clause-read : goal.returns-clause-read
returns-clause-read c =
    let text = c.args.text.now in
    let named = entry_in c.args.table.now in
    let vars = c.args.vars.now in
    let t = c.args.tree.now in
    let entry = c.target-entry.result in
    let store = c.read_assigned.new.store in
    let first0 = c.args.first.now in
    let first1 = c.target-entry.new.first in
    let first2 = c.keep_assigned.new.first in
    let first3 = c.read_assigned.new.first in
    let again = IsFaultUnless (not (contains bytes_eq c.args.assigned.now c.in_ok-name.name)) t.name.start code.Twice in
    if_both (λ (a : Assign). Adds (HasAssignedFault vars entry t.term) first2 first3) (λ (a : Assign). first3 ≡ None → IfSome entry (λ (e : NumberedSort). (a.field ≡ e.number) × IsTermOf store vars t.term a.term))
    (λ (a : Assign). first3 ≡ None → IsAssign text store named vars t a) c.read_assigned.result
    (λ a noted is e.
    assign_read text store named vars t a entry first0 first1 (c.target-entry.ensures.found ∙ ap named c.in_ok-name.ensures)
    (subst (λ (o : Option NumberedSort). Adds (IsUndeclared o t.name.start) first0 first1) (sym c.target-entry.ensures.found) c.target-entry.ensures.noted)
    (still_told again first1 first2 c.in_ok-keep_assigned.ensures.noted (still_told (HasAssignedFault vars entry t.term) first2 first3 noted e)) (is e))
    c.read_assigned.ensures.noted c.read_assigned.ensures.read

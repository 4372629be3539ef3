use Rattle.std.proofs.Common.{map, sym, subst}
use Rattle.gv_terms.specs.Store.{trees_at}
use Rattle.gv_axioms.specs.Truth.{AreTerms}
use Rattle.gv_sums.specs.Reading.{row_at}
use Rattle.gv_have.specs.Scoping.{terms_of, rows_of}
use Rattle.gv_have.proofs.Termed.{scoped_both, together, formulas_are, make_linear}
use Rattle.gv_have.proofs.scoping.scope_rows.Goals as goal

pub returns-clause-scoped : goal.returns-clause-scoped
returns-clause-scoped c =
    let ts = trees_at c.all_terms.new.store c.in_ok-all_terms.field-0.items in
    let st = c.rows.new.store in
    let made = c.in_ok-rows.field-0.items in
    let rs = map (row_at st) made in
    scoped_both (terms_of c.args.scope.now c.args.sums.now) (rows_of c.args.scope.now c.args.factored.now) ts rs make_linear c.in_ok-all_terms.ensures.trees c.in_ok-rows.ensures.trees
    (together ts (map (λ r. r.1) rs) c.in_ok-all_terms.ensures.terms (subst AreTerms (sym (formulas_are st made)) c.in_ok-rows.ensures.terms))

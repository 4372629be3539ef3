use Rattle.std.proofs.Common.{◌≡◌, ◌∙◌, ◌∷◌, [], ◌++◌, ap, sym, subst, rules}
use Rattle.std.specs.Prelude.{FitsSigned}
use Rattle.std.specs.Int.{w128}
use Rattle.std.proofs.Math.IntN.{ℤ}
use Rattle.std.proofs.lemmas.Int.{to_z-of_z}
use Rattle.gv_terms.specs.declared.term.Term.{Term}
use Rattle.gv_terms.specs.Store.{AreIn}
use Rattle.gv_terms.proofs.Grown.{one_more_in}
use Rattle.gv_terms.proofs.RawParts.{grows_on}
use Rattle.gv_side.proofs.Lists.{handed_on}
use Rattle.gv_sums.specs.declared.factored.FactoredTerm.{FactoredTerm}
use Rattle.gv_sums.specs.Reading.{formulas_in}
use Rattle.gv_have.specs.Scoping.{formula_of, rows_of}
use Rattle.gv_have.specs.Telling.{IsUnscoped}
use Rattle.gv_have.proofs.Termed.{unscoped_through}
use Rattle.gv_have.proofs.Scoped.{terms_more, row_more, no_row, formulas_more}
use Rattle.gv_have.proofs.terms.rows.Goals as goal

abbrev as_row : ℤ → Term → FactoredTerm
as_row factor formula = record { factor = factor; formula = formula }

pub returns-in_err-formula-clause-cause : goal.returns-in_err-formula-clause-cause
returns-in_err-formula-clause-cause c =
    let vars = c.args.scope.now in
    let rows = c.args.rows.now in
    let row = c.index-rows-i.result in
    let e = c.in_err-formula.field-0.0 in
    handed_on c.from_residual.result e (IsUnscoped (rows_of vars rows)) c.from_residual.ensures.1
    (unscoped_through (formula_of vars row.formula) (rows_of vars rows) e (no_row vars rows c.loop-i.i row c.loop-i-test.true c.index-rows-i.is) c.in_err-formula.ensures.cause)

pub loop-i-preserved : goal.loop-i-preserved
loop-i-preserved c =
    let old = c.loop-i.store in
    let new = c.formula.new.store in
    let made = c.in_ok-formula.formula in
    let row : FactoredTerm = record { factor = c.index-rows-i.result.factor; formula = made } in
    let fits : FitsSigned w128 c.index-rows-i.result.factor = search rules in
    let pushed : c.push.new.self.items ≡ c.loop-i.made.items ++ row ∷ [] =
    c.in_ok-push.ensures.items ∙ ap (λ z. c.loop-i.made.items ++ (as_row z made) ∷ []) (to_z-of_z w128 c.index-rows-i.result.factor fits) in
    let more = formulas_more c.loop-i.made.items c.push.new.self.items row pushed in
    record {
      grows = grows_on c.args.store.now old new c.loop-i.invariant.grows c.formula.ensures.grows;
      within = subst (AreIn new) (sym more) (one_more_in old new (formulas_in c.loop-i.made.items) made c.loop-i.invariant.within c.formula.ensures.grows c.in_ok-formula.ensures.within);
      stand = row_more c.args.scope.now c.args.rows.now c.loop-i.i c.index-rows-i.result old new c.loop-i.made.items c.push.new.self.items made c.loop-i-test.true c.index-rows-i.is
          c.loop-i.invariant.within c.formula.ensures.grows c.loop-i.invariant.stand c.in_ok-formula.ensures.tree pushed;
      terms = terms_more old new (formulas_in c.loop-i.made.items) (formulas_in c.push.new.self.items) made c.loop-i.invariant.within c.formula.ensures.grows c.loop-i.invariant.terms
          c.in_ok-formula.ensures.terms more;
    }

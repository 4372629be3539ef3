use Rattle.std.proofs.Common.{◌∙◌, map, ap, sym, subst, arith}
use Rattle.std.proofs.lemmas.List.{take_all}
use Rattle.gv_terms.specs.Resolving.{resolved, all_there}
use Rattle.gv_terms.specs.Store.{trees_at, AreIn}
use Rattle.gv_terms.proofs.Grown.{one_more_in}
use Rattle.gv_terms.proofs.RawParts.{grows_on, good_part}
use Rattle.gv_side.proofs.Lists.{handed_on}
use Rattle.gv_have.specs.Scoping.{terms_of}
use Rattle.gv_have.specs.Telling.{IsUnscoped}
use Rattle.gv_have.proofs.Termed.{unscoped_through}
use Rattle.gv_have.proofs.Scoped.{all_some, none_there, terms_more}
use Rattle.gv_have.proofs.terms.all_terms.Goals as goal

pub returns-in_err-resolve-clause-cause : goal.returns-in_err-resolve-clause-cause
returns-in_err-resolve-clause-cause c =
    let vars = c.args.scope.now in
    let terms = c.args.terms.now in
    let part = c.index-terms-i.result in
    let e = c.in_err-resolve.field-0.0 in
    handed_on c.from_residual.result e (IsUnscoped (terms_of vars terms)) c.from_residual.ensures.1
    (unscoped_through (resolved vars part) (terms_of vars terms) e (none_there vars terms c.loop-i.i part c.loop-i-test.true c.index-terms-i.is) c.in_err-resolve.ensures.cause)

pub loop-i-preserved : goal.loop-i-preserved
loop-i-preserved c =
    let old = c.loop-i.store in
    let new = c.resolve.new.store in
    let made = c.in_ok-resolve.field-0 in
    record {
      grows = grows_on c.args.store.now old new c.loop-i.invariant.grows c.resolve.ensures.grows;
      within = subst (AreIn new) (sym c.in_ok-push.ensures.items) (one_more_in old new c.loop-i.made.items made c.loop-i.invariant.within c.resolve.ensures.grows c.in_ok-resolve.ensures.within);
      stand = good_part c.args.scope.now c.args.terms.now c.loop-i.i c.index-terms-i.result old new c.loop-i.made.items c.push.new.self.items made c.loop-i-test.true c.index-terms-i.is
          c.loop-i.invariant.within c.resolve.ensures.grows c.loop-i.invariant.stand c.in_ok-resolve.ensures.tree c.in_ok-push.ensures.items;
      terms = terms_more old new c.loop-i.made.items c.push.new.self.items made c.loop-i.invariant.within c.resolve.ensures.grows c.loop-i.invariant.terms c.in_ok-resolve.ensures.terms c.in_ok-push.ensures.items;
    }

pub returns-clause-trees : goal.returns-clause-trees
returns-clause-trees c =
    let vars = c.args.scope.now in
    ap all_there (sym (ap (map (resolved vars)) (take_all c.loop-i.i c.args.terms.now (omega (arith, c.loop-i-test.false)))) ∙ c.loop-i.invariant.stand) ∙ all_some (trees_at c.loop-i.store c.loop-i.made.items)

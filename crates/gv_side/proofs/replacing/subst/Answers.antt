use Rattle.std.proofs.Common.{◌≡◌, ◌∷◌, [], ◌∙◌, ap}
use Rattle.gv_terms.specs.Store.{tree_at, trees_at}
use Rattle.gv_certs.specs.declared.cause.Cause.TheVariants as cause
use Rattle.gv_certs.specs.Trees.{tree_eq, equation, replaced}
use Rattle.gv_certs.specs.Known.{is_reflexive}
use Rattle.gv_certs.specs.Proving.{asks, is_known_of, premises, subst as leaf_subst, subst_in}
use Rattle.gv_known.proofs.Nodes.{tree_kept}
use Rattle.gv_terms.proofs.RawParts.{grows_on}
use Rattle.gv_side.specs.Telling.{IsFault}
use Rattle.gv_side.proofs.Lists.{trees_same, handed_on, fault_first, fault_later, all_more, known_same, fault_same, last_holds, last_fails, replaced_kept}
use Rattle.gv_side.proofs.replacing.subst.Goals as goal

pub returns-in_err-ask_known-clause-cause : goal.returns-in_err-ask_known-clause-cause
returns-in_err-ask_known-clause-cause c =
    let st = c.args.store.now in
    let one = c.equation.new.store in
    let facts = c.args.facts.now in
    let known = trees_at st facts in
    let a = tree_at st c.args.from.id in
    let b = tree_at st c.args.to.id in
    let whole = tree_at st c.args.goal.id in
    let kept = trees_same st one facts c.requires.facts c.equation.ensures.grows in
    let e = c.in_err-ask_known.field-0.0 in
    let rest = asks (is_reflexive (replaced a b whole)) cause.Mismatch ∷ [] in
    handed_on c.from_residual-in_err-ask_known.result e (IsFault (premises known whole (leaf_subst a b))) c.from_residual-in_err-ask_known.ensures.1
    (fault_first (is_known_of known (equation a b)) rest e
    (fault_same known (trees_at one facts) (tree_at one c.in_ok-equal.equal.id) (equation a b) e kept c.in_ok-equal.ensures.made c.in_err-ask_known.ensures.cause))

pub returns-clause-holds : goal.returns-clause-holds
returns-clause-holds c =
    let st = c.args.store.now in
    let one = c.equation.new.store in
    let facts = c.args.facts.now in
    let known = trees_at st facts in
    let a = tree_at st c.args.from.id in
    let b = tree_at st c.args.to.id in
    let whole = tree_at st c.args.goal.id in
    let kept = trees_same st one facts c.requires.facts c.equation.ensures.grows in
    let first = known_same known (trees_at one facts) (tree_at one c.in_ok-equal.equal.id) (equation a b) kept c.in_ok-equal.ensures.made c.in_ok-ask_known.ensures.holds in
    let made = c.in_ok-one.ensures.made ∙ replaced_kept st one c.args.from c.args.to c.args.goal c.requires.from c.requires.to c.requires.goal c.equation.ensures.grows in
    let test = c.is_reflexive.ensures ∙ ap is_reflexive made in
    last_holds c.ask.result c.is_reflexive.result (is_reflexive (replaced a b whole)) (is_known_of known (equation a b) ∷ []) test first c.ask.ensures.holds

pub returns-clause-cause : goal.returns-clause-cause
returns-clause-cause c =
    let st = c.args.store.now in
    let one = c.equation.new.store in
    let facts = c.args.facts.now in
    let known = trees_at st facts in
    let a = tree_at st c.args.from.id in
    let b = tree_at st c.args.to.id in
    let whole = tree_at st c.args.goal.id in
    let kept = trees_same st one facts c.requires.facts c.equation.ensures.grows in
    let first = known_same known (trees_at one facts) (tree_at one c.in_ok-equal.equal.id) (equation a b) kept c.in_ok-equal.ensures.made c.in_ok-ask_known.ensures.holds in
    let made = c.in_ok-one.ensures.made ∙ replaced_kept st one c.args.from c.args.to c.args.goal c.requires.from c.requires.to c.requires.goal c.equation.ensures.grows in
    let test = c.is_reflexive.ensures ∙ ap is_reflexive made in
    last_fails c.ask.result c.is_reflexive.result (is_reflexive (replaced a b whole)) (is_known_of known (equation a b) ∷ []) test first c.ask.ensures.cause

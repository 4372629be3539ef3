use Rattle.std.proofs.Common.{◌≡◌, ◌∷◌, [], ◌∙◌, ap}
use Rattle.gv_terms.specs.Store.{tree_at, trees_at}
use Rattle.gv_certs.specs.declared.cause.Cause.TheVariants as cause
use Rattle.gv_certs.specs.Trees.{tree_eq, equation, replaced}
use Rattle.gv_certs.specs.Known.{is_reflexive}
use Rattle.gv_certs.specs.Proving.{asks, is_known_of, premises, subst as leaf_subst, subst_in}
use Rattle.gv_known.proofs.Nodes.{tree_kept}
use Rattle.gv_terms.proofs.RawParts.{grows_on}
use Rattle.gv_side.specs.Telling.{IsFault}
use Rattle.gv_side.proofs.Lists.{trees_same, handed_on, fault_first, fault_later, all_more, known_same, fault_same, last_holds, last_fails, replaced_kept}
use Rattle.gv_side.proofs.replacing.subst_in.Goals as goal

pub returns-in_err-ask_known-clause-cause : goal.returns-in_err-ask_known-clause-cause
returns-in_err-ask_known-clause-cause c =
    let st = c.args.store.now in
    let one = c.equation.new.store in
    let facts = c.args.facts.now in
    let known = trees_at st facts in
    let a = tree_at st c.args.from.id in
    let b = tree_at st c.args.to.id in
    let whole = tree_at st c.args.goal.id in
    let kept = trees_same st one facts c.requires.facts c.equation.ensures.grows in
    let within = tree_at st c.args.within.id in
    let p = is_known_of known (equation a b) in
    let q = is_known_of known within in
    let rest = asks (tree_eq (replaced a b whole) (replaced a b within)) cause.Mismatch ∷ [] in
    let e = c.in_err-ask_known.field-0.0 in
    handed_on c.from_residual-in_err-ask_known.result e (IsFault (premises known whole (subst_in a b within))) c.from_residual-in_err-ask_known.ensures.1
    (fault_first p (q ∷ rest) e (fault_same known (trees_at one facts) (tree_at one c.in_ok-equal.equal.id) (equation a b) e kept c.in_ok-equal.ensures.made c.in_err-ask_known.ensures.cause))

pub returns-in_err-ask_known-2-clause-cause : goal.returns-in_err-ask_known-2-clause-cause
returns-in_err-ask_known-2-clause-cause c =
    let st = c.args.store.now in
    let one = c.equation.new.store in
    let facts = c.args.facts.now in
    let known = trees_at st facts in
    let a = tree_at st c.args.from.id in
    let b = tree_at st c.args.to.id in
    let whole = tree_at st c.args.goal.id in
    let kept = trees_same st one facts c.requires.facts c.equation.ensures.grows in
    let within = tree_at st c.args.within.id in
    let p = is_known_of known (equation a b) in
    let q = is_known_of known within in
    let rest = asks (tree_eq (replaced a b whole) (replaced a b within)) cause.Mismatch ∷ [] in
    let first = known_same known (trees_at one facts) (tree_at one c.in_ok-equal.equal.id) (equation a b) kept c.in_ok-equal.ensures.made c.in_ok-ask_known.ensures.holds in
    let e = c.in_err-ask_known-2.field-0.0 in
    handed_on c.from_residual-in_err-ask_known-2.result e (IsFault (premises known whole (subst_in a b within))) c.from_residual-in_err-ask_known-2.ensures.1
    (fault_later p (q ∷ rest) e first
    (fault_first q rest e
    (fault_same known (trees_at one facts) (tree_at one c.args.within.id) within e kept (tree_kept st one c.args.within c.requires.within c.equation.ensures.grows) c.in_err-ask_known-2.ensures.cause)))

pub returns-clause-holds : goal.returns-clause-holds
returns-clause-holds c =
    let st = c.args.store.now in
    let one = c.equation.new.store in
    let facts = c.args.facts.now in
    let known = trees_at st facts in
    let a = tree_at st c.args.from.id in
    let b = tree_at st c.args.to.id in
    let whole = tree_at st c.args.goal.id in
    let kept = trees_same st one facts c.requires.facts c.equation.ensures.grows in
    let within = tree_at st c.args.within.id in
    let p = is_known_of known (equation a b) in
    let q = is_known_of known within in
    let rest = asks (tree_eq (replaced a b whole) (replaced a b within)) cause.Mismatch ∷ [] in
    let first = known_same known (trees_at one facts) (tree_at one c.in_ok-equal.equal.id) (equation a b) kept c.in_ok-equal.ensures.made c.in_ok-ask_known.ensures.holds in
    let second = known_same known (trees_at one facts) (tree_at one c.args.within.id) within kept (tree_kept st one c.args.within c.requires.within c.equation.ensures.grows) c.in_ok-ask_known-2.ensures.holds in
    let both = all_more p (q ∷ []) first second in
    let two = c.replaced.new.store in
    let three = c.replaced-2.new.store in
    let left = tree_kept two three c.in_ok-one.one c.in_ok-one.ensures.within c.replaced-2.ensures.grows ∙ c.in_ok-one.ensures.made
    ∙ replaced_kept st one c.args.from c.args.to c.args.goal c.requires.from c.requires.to c.requires.goal c.equation.ensures.grows in
    let right = c.in_ok-other.ensures.made
    ∙ replaced_kept st two c.args.from c.args.to c.args.within c.requires.from c.requires.to c.requires.within (grows_on st one two c.equation.ensures.grows c.replaced.ensures.grows) in
    let test = c.same.ensures ∙ ap (λ t. tree_eq t (tree_at three c.in_ok-other.other.id)) left ∙ ap (tree_eq (replaced a b whole)) right in
    last_holds c.ask.result c.same.result (tree_eq (replaced a b whole) (replaced a b within)) (p ∷ q ∷ []) test both c.ask.ensures.holds

pub returns-clause-cause : goal.returns-clause-cause
returns-clause-cause c =
    let st = c.args.store.now in
    let one = c.equation.new.store in
    let facts = c.args.facts.now in
    let known = trees_at st facts in
    let a = tree_at st c.args.from.id in
    let b = tree_at st c.args.to.id in
    let whole = tree_at st c.args.goal.id in
    let kept = trees_same st one facts c.requires.facts c.equation.ensures.grows in
    let within = tree_at st c.args.within.id in
    let p = is_known_of known (equation a b) in
    let q = is_known_of known within in
    let rest = asks (tree_eq (replaced a b whole) (replaced a b within)) cause.Mismatch ∷ [] in
    let first = known_same known (trees_at one facts) (tree_at one c.in_ok-equal.equal.id) (equation a b) kept c.in_ok-equal.ensures.made c.in_ok-ask_known.ensures.holds in
    let second = known_same known (trees_at one facts) (tree_at one c.args.within.id) within kept (tree_kept st one c.args.within c.requires.within c.equation.ensures.grows) c.in_ok-ask_known-2.ensures.holds in
    let both = all_more p (q ∷ []) first second in
    let two = c.replaced.new.store in
    let three = c.replaced-2.new.store in
    let left = tree_kept two three c.in_ok-one.one c.in_ok-one.ensures.within c.replaced-2.ensures.grows ∙ c.in_ok-one.ensures.made
    ∙ replaced_kept st one c.args.from c.args.to c.args.goal c.requires.from c.requires.to c.requires.goal c.equation.ensures.grows in
    let right = c.in_ok-other.ensures.made
    ∙ replaced_kept st two c.args.from c.args.to c.args.within c.requires.from c.requires.to c.requires.within (grows_on st one two c.equation.ensures.grows c.replaced.ensures.grows) in
    let test = c.same.ensures ∙ ap (λ t. tree_eq t (tree_at three c.in_ok-other.other.id)) left ∙ ap (tree_eq (replaced a b whole)) right in
    last_fails c.ask.result c.same.result (tree_eq (replaced a b whole) (replaced a b within)) (p ∷ q ∷ []) test both c.ask.ensures.cause

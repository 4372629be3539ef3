use Rattle.std.proofs.Common.{◌≡◌, ◌∙◌, [], ap, sym, subst}
use Rattle.gv_terms.specs.Store.{trees_at, AreIn}
use Rattle.gv_certs.specs.Proving.{unknowns_in, sides}
use Rattle.gv_sums.specs.Reading.{comparisons_at, AreShort}
use Rattle.gv_sums.proofs.Finding.{sides_are, sides_within, unknowns_append, short_append}
use Rattle.gv_sums.proofs.unknowns.unknowns_of.Goals as goal

pub add_terms-requires-2-clause-terms : goal.add_terms-requires-2-clause-terms
add_terms-requires-2-clause-terms c =
    subst (AreIn c.args.store.now) (sym (c.as_slice.ensures.value ∙ c.in_ok-others.ensures)) (sides_within c.args.store.now c.args.comparisons.now c.requires.comparisons)

pub returns-clause-told : goal.returns-clause-told
returns-clause-told c =
    let st = c.args.store.now in
    let sums = trees_at st c.args.sums.now in
    let others = sides (comparisons_at st c.args.comparisons.now) in
    let are : trees_at st c.as_slice.result.now ≡ others = ap (trees_at st) (c.as_slice.ensures.value ∙ c.in_ok-others.ensures) ∙ sides_are st c.args.comparisons.now in
    c.in_ok-add_terms-2.ensures.added
    ∙ ap (λ us. unknowns_in sums us (trees_at st c.as_slice.result.now)) (c.in_ok-add_terms.ensures.added ∙ ap (λ is. unknowns_in sums (trees_at st is) sums) c.new-unknowns.ensures.items)
    ∙ ap (unknowns_in sums (unknowns_in sums [] sums)) are ∙ sym (unknowns_append sums [] sums others)

pub returns-clause-short : goal.returns-clause-short
returns-clause-short c =
    let st = c.args.store.now in
    let sums = trees_at st c.args.sums.now in
    let others = sides (comparisons_at st c.args.comparisons.now) in
    let are : trees_at st c.as_slice.result.now ≡ others = ap (trees_at st) (c.as_slice.ensures.value ∙ c.in_ok-others.ensures) ∙ sides_are st c.args.comparisons.now in
    short_append sums sums others c.in_ok-add_terms.ensures.short (subst (AreShort sums) are c.in_ok-add_terms-2.ensures.short)

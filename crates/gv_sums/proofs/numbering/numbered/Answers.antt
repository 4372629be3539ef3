use Rattle.std.proofs.Common.{◌∙◌, map, ap, sym, subst, arith}
use Rattle.std.proofs.lemmas.List.{take_all}
use Rattle.gv_terms.specs.Store.{trees_at}
use Rattle.gv_sums.specs.Reading.{numbered_at, AreWords}
use Rattle.gv_sums.proofs.Finding.{term_within}
use Rattle.gv_sums.proofs.Narrow.{are_words}
use Rattle.gv_sums.proofs.numbering.numbered.Goals as goal

pub number_in-requires : goal.number_in-requires
number_in-requires c = term_within c.args.store.now c.args.summands.now c.loop-i.i c.requires.summands c.loop-i-test.true

pub place_in-requires-clause-one : goal.place_in-requires-clause-one
place_in-requires-clause-one c = term_within c.args.store.now c.args.summands.now c.loop-i.i c.requires.summands c.loop-i-test.true

pub returns-clause-words : goal.returns-clause-words
returns-clause-words c =
    let st = c.args.store.now in
    let us = trees_at st c.args.unknowns.now in
    let e = c.loop-i.invariant ∙ ap (map (numbered_at st us)) (take_all c.loop-i.i c.args.summands.now (omega (arith, c.loop-i-test.false))) in
    subst AreWords (sym e) (are_words st us c.args.summands.now c.numbers_are_words.ensures c.requires.summands)

use Rattle.std.proofs.Common.{◌≡◌, ◌∷◌, [], sym, ap, ◌∙◌, arith}
use Rattle.gv_termread.specs.declared.generated.term_acts.Part.TheVariants.{Term as PTerm}
use Rattle.gv_termread.specs.declared.placed.PlacedTerm.{PlacedTerm}
use Rattle.gv_termread.specs.Trees as spec
use Rattle.gv_scriptsyntax.specs.Nodes.{IsPartAt}
use Rattle.gv_scriptterms.proofs.Results.{if_ok}
use Rattle.gv_scriptterms.proofs.Steps.{term_there}
use Rattle.gv_scriptterms.proofs.terms.+placed_at.Goals as goal

pub placed_at-requires : goal.placed_at-requires
placed_at-requires t c =
    let m = c.in-Binary.ensures c.requires.some.whole c.requires.some.part in
    let l = m.at_left.before in
    let d = c.decreases in
    (omega (arith, l, d), (c.requires.formed, term_there c.args.text.now c.args.nodes.now c.args.at c.in-Binary.left m.of_left c.requires.some.within m.at_left))

pub placed_at-requires-in-Binary : goal.placed_at-requires-in-Binary
placed_at-requires-in-Binary t c =
    let m = c.in-Binary.ensures c.requires.some.whole c.requires.some.part in
    let l = m.at_right.before in
    let d = c.decreases in
    (omega (arith, l, d), (c.requires.formed, term_there c.args.text.now c.args.nodes.now c.args.at c.in-Binary.right m.of_right c.requires.some.within m.at_right))

pub placed_at-requires-in-Unary : goal.placed_at-requires-in-Unary
placed_at-requires-in-Unary t c =
    let m = c.in-Unary.ensures c.requires.some.whole c.requires.some.part in
    let l = m.at_inner.before in
    let d = c.decreases in
    (omega (arith, l, d), (c.requires.formed, term_there c.args.text.now c.args.nodes.now c.args.at c.in-Unary.inner m.of_inner c.requires.some.within m.at_inner))

pub placed_at-requires-in-Paren : goal.placed_at-requires-in-Paren
placed_at-requires-in-Paren t c =
    let m = c.in-Paren.ensures c.requires.some.whole c.requires.some.part in
    let l = m.at_inner.before in
    let d = c.decreases in
    (omega (arith, l, d), (c.requires.formed, term_there c.args.text.now c.args.nodes.now c.args.at c.in-Paren.inner m.of_inner c.requires.some.within m.at_inner))

pub placed_at-requires-in-Maker : goal.placed_at-requires-in-Maker
placed_at-requires-in-Maker t c =
    let m = c.in-Maker.ensures c.requires.some.whole c.requires.some.part in
    let l = m.at_item.before in
    let d = c.decreases in
    (omega (arith, l, d), (c.requires.formed, term_there c.args.text.now c.args.nodes.now c.args.at c.in-Maker.item m.of_item c.requires.some.within m.at_item))

pub placed_at-requires-in-OfOne : goal.placed_at-requires-in-OfOne
placed_at-requires-in-OfOne t c =
    let m = c.in-OfOne.ensures c.requires.some.whole c.requires.some.part in
    let l = m.at_a.before in
    let d = c.decreases in
    (omega (arith, l, d), (c.requires.formed, term_there c.args.text.now c.args.nodes.now c.args.at c.in-OfOne.a m.of_a c.requires.some.within m.at_a))

pub placed_at-requires-in-OfTwo : goal.placed_at-requires-in-OfTwo
placed_at-requires-in-OfTwo t c =
    let m = c.in-OfTwo.ensures c.requires.some.whole c.requires.some.part in
    let l = m.at_a.before in
    let d = c.decreases in
    (omega (arith, l, d), (c.requires.formed, term_there c.args.text.now c.args.nodes.now c.args.at c.in-OfTwo.a m.of_a c.requires.some.within m.at_a))

pub placed_at-requires-in-OfTwo-2 : goal.placed_at-requires-in-OfTwo-2
placed_at-requires-in-OfTwo-2 t c =
    let m = c.in-OfTwo.ensures c.requires.some.whole c.requires.some.part in
    let l = m.at_b.before in
    let d = c.decreases in
    (omega (arith, l, d), (c.requires.formed, term_there c.args.text.now c.args.nodes.now c.args.at c.in-OfTwo.b m.of_b c.requires.some.within m.at_b))

pub placed_at-requires-in-OfThree : goal.placed_at-requires-in-OfThree
placed_at-requires-in-OfThree t c =
    let m = c.in-OfThree.ensures c.requires.some.whole c.requires.some.part in
    let l = m.at_a.before in
    let d = c.decreases in
    (omega (arith, l, d), (c.requires.formed, term_there c.args.text.now c.args.nodes.now c.args.at c.in-OfThree.a m.of_a c.requires.some.within m.at_a))

pub placed_at-requires-in-OfThree-2 : goal.placed_at-requires-in-OfThree-2
placed_at-requires-in-OfThree-2 t c =
    let m = c.in-OfThree.ensures c.requires.some.whole c.requires.some.part in
    let l = m.at_b.before in
    let d = c.decreases in
    (omega (arith, l, d), (c.requires.formed, term_there c.args.text.now c.args.nodes.now c.args.at c.in-OfThree.b m.of_b c.requires.some.within m.at_b))

pub placed_at-requires-in-OfThree-3 : goal.placed_at-requires-in-OfThree-3
placed_at-requires-in-OfThree-3 t c =
    let m = c.in-OfThree.ensures c.requires.some.whole c.requires.some.part in
    let l = m.at_c.before in
    let d = c.decreases in
    (omega (arith, l, d), (c.requires.formed, term_there c.args.text.now c.args.nodes.now c.args.at c.in-OfThree.c m.of_c c.requires.some.within m.at_c))

pub returns-in_ok-second-in-Binary : goal.returns-in_ok-second-in-Binary
returns-in_ok-second-in-Binary t c =
    if_ok c.binary.result (λ (u : PlacedTerm). u ≡ spec.binary c.in-Binary.sign c.in_ok-first-in-Binary.first c.in_ok-second-in-Binary.second) (λ (u : PlacedTerm). (whole : PlacedTerm) → IsPartAt c.args.text.now c.args.nodes.now c.args.at (PTerm whole) → u ≡ whole) c.binary.ensures
    (λ u same whole h.
    let m = c.in-Binary.ensures whole h in
    same ∙ (ap (λ (x : PlacedTerm). spec.binary c.in-Binary.sign x c.in_ok-second-in-Binary.second) (c.in_ok-first-in-Binary.ensures m.of_left m.at_left.is) ∙ (ap (λ (x : PlacedTerm). spec.binary c.in-Binary.sign m.of_left x) (c.in_ok-second-in-Binary.ensures m.of_right m.at_right.is) ∙ sym m.made)))

pub returns-in_ok-first-in-Unary : goal.returns-in_ok-first-in-Unary
returns-in_ok-first-in-Unary t c =
    if_ok c.unary.result (λ (u : PlacedTerm). u ≡ spec.unary c.in-Unary.sign c.in_ok-first-in-Unary.first) (λ (u : PlacedTerm). (whole : PlacedTerm) → IsPartAt c.args.text.now c.args.nodes.now c.args.at (PTerm whole) → u ≡ whole) c.unary.ensures
    (λ u same whole h.
    let m = c.in-Unary.ensures whole h in
    same ∙ (ap (λ (x : PlacedTerm). spec.unary c.in-Unary.sign x) (c.in_ok-first-in-Unary.ensures m.of_inner m.at_inner.is) ∙ sym m.made))

pub returns-in-Number : goal.returns-in-Number
returns-in-Number t c =
    if_ok c.number.result (λ (u : PlacedTerm). u ≡ spec.number c.in-Number.token) (λ (u : PlacedTerm). (whole : PlacedTerm) → IsPartAt c.args.text.now c.args.nodes.now c.args.at (PTerm whole) → u ≡ whole) c.number.ensures
    (λ u same whole h. same ∙ sym (c.in-Number.ensures whole h))

pub returns-in-Constant : goal.returns-in-Constant
returns-in-Constant t c =
    if_ok c.constant.result (λ (u : PlacedTerm). u ≡ spec.constant c.in-Constant.word) (λ (u : PlacedTerm). (whole : PlacedTerm) → IsPartAt c.args.text.now c.args.nodes.now c.args.at (PTerm whole) → u ≡ whole) c.constant.ensures
    (λ u same whole h. same ∙ sym (c.in-Constant.ensures whole h))

pub returns-in-Variable : goal.returns-in-Variable
returns-in-Variable t c =
    if_ok c.variable.result (λ (u : PlacedTerm). u ≡ spec.variable c.args.text.now c.in-Variable.name) (λ (u : PlacedTerm). (whole : PlacedTerm) → IsPartAt c.args.text.now c.args.nodes.now c.args.at (PTerm whole) → u ≡ whole) c.variable.ensures
    (λ u same whole h. same ∙ sym (c.in-Variable.ensures whole h))

pub returns-in_ok-first-in-Paren : goal.returns-in_ok-first-in-Paren
returns-in_ok-first-in-Paren t c =
    if_ok c.in_parens.result (λ (u : PlacedTerm). u ≡ spec.in_parens c.in-Paren.brace c.in_ok-first-in-Paren.first) (λ (u : PlacedTerm). (whole : PlacedTerm) → IsPartAt c.args.text.now c.args.nodes.now c.args.at (PTerm whole) → u ≡ whole) c.in_parens.ensures
    (λ u same whole h.
    let m = c.in-Paren.ensures whole h in
    same ∙ (ap (λ (x : PlacedTerm). spec.in_parens c.in-Paren.brace x) (c.in_ok-first-in-Paren.ensures m.of_inner m.at_inner.is) ∙ sym m.made))

pub returns-in_ok-first-in-Maker : goal.returns-in_ok-first-in-Maker
returns-in_ok-first-in-Maker t c =
    if_ok c.maker.result (λ (u : PlacedTerm). u ≡ spec.maker c.in-Maker.name c.in-Maker.count c.in_ok-first-in-Maker.first) (λ (u : PlacedTerm). (whole : PlacedTerm) → IsPartAt c.args.text.now c.args.nodes.now c.args.at (PTerm whole) → u ≡ whole) c.maker.ensures
    (λ u same whole h.
    let m = c.in-Maker.ensures whole h in
    same ∙ (ap (λ (x : PlacedTerm). spec.maker c.in-Maker.name c.in-Maker.count x) (c.in_ok-first-in-Maker.ensures m.of_item m.at_item.is) ∙ sym m.made))

pub returns-in_ok-first-in-OfOne : goal.returns-in_ok-first-in-OfOne
returns-in_ok-first-in-OfOne t c =
    if_ok c.of_one.result (λ (u : PlacedTerm). u ≡ spec.apply c.in-OfOne.name (c.in_ok-first-in-OfOne.first ∷ [])) (λ (u : PlacedTerm). (whole : PlacedTerm) → IsPartAt c.args.text.now c.args.nodes.now c.args.at (PTerm whole) → u ≡ whole) c.of_one.ensures
    (λ u same whole h.
    let m = c.in-OfOne.ensures whole h in
    same ∙ (ap (λ (x : PlacedTerm). spec.apply c.in-OfOne.name (x ∷ [])) (c.in_ok-first-in-OfOne.ensures m.of_a m.at_a.is) ∙ sym m.made))

pub returns-in_ok-second-in-OfTwo : goal.returns-in_ok-second-in-OfTwo
returns-in_ok-second-in-OfTwo t c =
    if_ok c.of_two.result (λ (u : PlacedTerm). u ≡ spec.apply c.in-OfTwo.name (c.in_ok-first-in-OfTwo.first ∷ c.in_ok-second-in-OfTwo.second ∷ [])) (λ (u : PlacedTerm). (whole : PlacedTerm) → IsPartAt c.args.text.now c.args.nodes.now c.args.at (PTerm whole) → u ≡ whole) c.of_two.ensures
    (λ u same whole h.
    let m = c.in-OfTwo.ensures whole h in
    same ∙ (ap (λ (x : PlacedTerm). spec.apply c.in-OfTwo.name (x ∷ c.in_ok-second-in-OfTwo.second ∷ [])) (c.in_ok-first-in-OfTwo.ensures m.of_a m.at_a.is) ∙ (ap (λ (x : PlacedTerm). spec.apply c.in-OfTwo.name (m.of_a ∷ x ∷ [])) (c.in_ok-second-in-OfTwo.ensures m.of_b m.at_b.is) ∙ sym m.made)))

pub returns-in_ok-third-in-OfThree : goal.returns-in_ok-third-in-OfThree
returns-in_ok-third-in-OfThree t c =
    if_ok c.of_three.result (λ (u : PlacedTerm). u ≡ spec.apply c.in-OfThree.name (c.in_ok-first-in-OfThree.first ∷ c.in_ok-second-in-OfThree.second ∷ c.in_ok-third-in-OfThree.third ∷ [])) (λ (u : PlacedTerm). (whole : PlacedTerm) → IsPartAt c.args.text.now c.args.nodes.now c.args.at (PTerm whole) → u ≡ whole) c.of_three.ensures
    (λ u same whole h.
    let m = c.in-OfThree.ensures whole h in
    same ∙ (ap (λ (x : PlacedTerm). spec.apply c.in-OfThree.name (x ∷ c.in_ok-second-in-OfThree.second ∷ c.in_ok-third-in-OfThree.third ∷ [])) (c.in_ok-first-in-OfThree.ensures m.of_a m.at_a.is) ∙ (ap (λ (x : PlacedTerm). spec.apply c.in-OfThree.name (m.of_a ∷ x ∷ c.in_ok-third-in-OfThree.third ∷ [])) (c.in_ok-second-in-OfThree.ensures m.of_b m.at_b.is) ∙ (ap (λ (x : PlacedTerm). spec.apply c.in-OfThree.name (m.of_a ∷ m.of_b ∷ x ∷ [])) (c.in_ok-third-in-OfThree.ensures m.of_c m.at_c.is) ∙ sym m.made))))
